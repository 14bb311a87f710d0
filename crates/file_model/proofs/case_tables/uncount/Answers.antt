use Rattle.file_model.proofs.{Common.{◌-◌, ◌∙◌, ◌≡◌, arith, get_or, get_or_default_zero, slice_index}, CountedCases.{front_counted, front_within}}
use Rattle.file_model.proofs.case_tables.uncount.Goals as goal

pub index_mut-requires : goal.index_mut-requires
index_mut-requires c =
    let within = front_within c.loop-left.counts.items c.args.cases.now c.loop-left.left c.index-cases-left.result (omega arith) c.loop-left.invariant.within c.loop-left.invariant.counted in
    omega (arith, within, c.loop-left.counts.ok)

pub overflow_sub-index_mut : goal.overflow_sub-index_mut
overflow_sub-index_mut c =
    let counts = c.loop-left.counts.items in
    let t = (get_or c.args.cases.now (c.loop-left.left - 1) c.index-cases-left.result).id.type_no in
    let within = front_within counts c.args.cases.now c.loop-left.left c.index-cases-left.result (omega arith) c.loop-left.invariant.within c.loop-left.invariant.counted in
    let read : c.index_mut.result.now ≡ slice_index counts t = c.index_mut.ensures.value ∙ get_or_default_zero counts t c.index_mut.result.now within in
    omega (arith, read, front_counted counts c.args.cases.now c.loop-left.left c.index-cases-left.result (omega arith) c.loop-left.invariant.within c.loop-left.invariant.counted)
