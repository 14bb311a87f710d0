use Rattle.case_store.proofs.{Common.{◌+◌, ◌<◌, ◌≤◌, length, oldest, subst, sym, weight}, Cells.called-young}
use Rattle.case_store.proofs.held.HeldCells.on_place.Goals as goal

pub call_case-requires : goal.call_case-requires
call_case-requires c =
    let e = c.args.event in
    called-young c.self.inside.cases.items c.args.place (weight e) c.index_mut.result.now (subst (λ s. c.args.place < length s.run.cases) (sym c.self.view_is) c.requires.there)
    c.index_mut.ensures.value (subst (λ s. oldest s.run.cases + weight e ≤ 4000000000) (sym c.self.view_is) c.requires.young)
