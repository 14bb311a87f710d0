use Rattle.std.proofs.lemmas.Result.{on_ok_weaker}
use Rattle.script_run.proofs.{Common.weight, Aging.{young-at, oldest-changed_at}}
use Rattle.script_run.proofs.calls.Working.on_case.Goals as goal

pub on_case_at-requires : goal.on_case_at-requires
on_case_at-requires c = young-at c.args.self.now.cases.items c.in-Some.place (weight c.args.event) 4000000000 c.requires

pub returns-in-Some-clause-age : goal.returns-in-Some-clause-age
returns-in-Some-clause-age c =
    on_ok_weaker c.on_case_at.result (λ is. rw is (oldest-changed_at c.args.caller c.args.event c.in-Some.place c.args.self.now.cases.items))
    c.on_case_at.ensures.cases
