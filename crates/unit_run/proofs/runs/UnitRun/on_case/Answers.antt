use Rattle.unit_run.proofs.{Common.{◌+◌, ◌∙◌, ◌≡◌, ◌≤◌, ap, arith, IsOf, oldest, oldest-changed_at, on_case, Placing, subst, sym, weight, young-at}, Called.{both_ok, case-called, case-passed, of_parts}}
use Rattle.std.proofs.lemmas.Result.{on_ok_weaker}
use Rattle.unit_run.proofs.runs.UnitRun.on_case.Goals as goal

pub on_case_at-requires : goal.on_case_at-requires
on_case_at-requires c =
    let cases = ap (λ (p : Placing). p.run.cases) c.self.view_is in
    young-at c.self.inside.run.cases.items c.in-Some.place (weight c.args.event) 4000000000 (subst (λ cs. oldest cs + weight c.args.event ≤ 4000000000) (sym cases) c.requires.age)

pub returns-in-None-clause-run : goal.returns-in-None-clause-run
returns-in-None-clause-run c =
    let f = c.args._file.now in
    let p : Placing = record { run = of_parts c.self.inside.run.kinds.items c.self.inside.run.cases.items; placed = c.self.inside.places } in
    subst (λ (q : Placing). q.run ≡ on_case f c.args.caller c.args.id c.args.event q.run) c.self.view_is
    (case-passed f c.args.caller c.args.id c.args.event p (subst (IsOf f.cases) (sym c.self.view_is) c.requires.of) (sym c.of_case.ensures ∙ c.in-None.is))

pub returns-in-Some-clause-run : goal.returns-in-Some-clause-run
returns-in-Some-clause-run c =
    let f = c.args._file.now in
    let p : Placing = record { run = of_parts c.self.inside.run.kinds.items c.self.inside.run.cases.items; placed = c.self.inside.places } in
    let new = c.on_case_at.new.self in
    both_ok c.on_case_at.result
    (λ kinds cases.
    subst (λ (q : Placing). of_parts new.kinds.items new.cases.items ≡ on_case f c.args.caller c.args.id c.args.event q.run) c.self.view_is
    (case-called f c.args.caller c.args.id c.args.event p c.in-Some.place new.kinds.items new.cases.items (subst (IsOf f.cases) (sym c.self.view_is) c.requires.of) (sym c.of_case.ensures ∙ c.in-Some.is) kinds cases))
    c.on_case_at.ensures.kinds c.on_case_at.ensures.cases

pub returns-in-Some-clause-age : goal.returns-in-Some-clause-age
returns-in-Some-clause-age c =
    let old : oldest c.self.inside.run.cases.items ≡ oldest c.args.self.now.run.cases = ap (λ (p : Placing). oldest p.run.cases) c.self.view_is in
    on_ok_weaker c.on_case_at.result (λ is. rw is (let more = oldest-changed_at c.args.caller c.args.event c.in-Some.place c.self.inside.run.cases.items in omega (arith, more, old)))
    c.on_case_at.ensures.cases
