use Rattle.file_model.proofs.{Common.{◌+◌, ◌<◌, ◌^◌, ◌∙◌, ◌≡◌, arith, cases_of_type, get_or_default_zero, length, slice_index}, CountedCases.few_of_type}
use Rattle.file_model.proofs.case_tables.CaseTable.push.Goals as goal

pub overflow_add-count : goal.overflow_add-count
overflow_add-count c =
    let t = c.args.case.id.type_no in
    let read : c.index.result.now ≡ slice_index c.count_up_to.new.counts.items t =
    c.index.ensures ∙ get_or_default_zero c.count_up_to.new.counts.items t c.index.result.now c.in_ok-count_up_to.ensures.within in
    let same : slice_index c.count_up_to.new.counts.items t ≡ slice_index c.self.inside.counts.items t = c.in_ok-count_up_to.ensures.same t in
    let counted : cases_of_type t c.self.inside.list.items ≡ slice_index c.self.inside.counts.items t = c.self.invariant t in
    let room : length c.self.inside.list.items + 1 < 2 ^ 32 = rw (← c.self.view_is) at c.requires.cases in
    omega (arith, read, same, counted, few_of_type t c.self.inside.list.items, room)
