use Rattle.talk_state.proofs.{Common.{ap, arith, oldest, Run}, Ages.oldest-declared}
use Rattle.talk_state.proofs.working.work.Goals as goal

pub returns-in_ok-declare-in-Case-clause-age : goal.returns-in_ok-declare-in-Case-clause-age
returns-in_ok-declare-in-Case-clause-age c =
    let run = ap (λ (r : Run). oldest r.cases) c.in_ok-declare-in-Case.ensures.run in
    omega (arith, run, oldest-declared c.args.run.now.run.cases c.in-Some-last.decl.now)
