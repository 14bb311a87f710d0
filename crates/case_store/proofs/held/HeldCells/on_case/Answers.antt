use Rattle.case_store.proofs.Common.{◌+◌, ◌≤◌, oldest, subst, sym, weight}
use Rattle.script_run.proofs.Aging.{oldest-changed_at}
use Rattle.case_store.proofs.held.HeldCells.on_case.Goals as goal

pub returns-clause-young : goal.returns-clause-young
returns-clause-young c =
    let cases = c.args.self.now.run.cases in
    subst (λ s. oldest s.run.cases ≤ oldest cases + weight c.args.event) (sym c.in_ok-reply.ensures.run) (oldest-changed_at c.args.caller c.args.event c.in-Some.place cases)
