use Rattle.case_core.proofs.{Common.{◌+◌, ◌≡◌, ◌≤◌, age, IfOk-weaker, NamesEntryIn, next_case, StartsFilled, subst, sym, weight}, AgesOfSteps.age-next_case, Starts.starts-filled, TrailFacts.names-entry}
use Rattle.case_core.proofs.instances.Instance.step.Goals as goal

pub returns-clause-age : goal.returns-clause-age
returns-clause-age g c =
    let old = c.args.self.now.state in
    let e = c.args.event.now in
    IfOk-weaker c.counted.result (λ r. c.counted.new.self.state ≡ (next_case old e).0) (λ r. age c.counted.new.self.state ≤ age old + weight e)
    (λ r is. subst (λ s. age s ≤ age old + weight e) (sym is) (age-next_case old e)) c.counted.ensures.case

pub returns-clause-filled : goal.returns-clause-filled
returns-clause-filled g c =
    let old = c.args.self.now.state in
    let e = c.args.event.now in
    IfOk-weaker c.counted.result (λ r. r.0 ≡ (next_case old e).1) (λ r. StartsFilled old.live e r.0)
    (λ r is. subst (StartsFilled old.live e) (sym is) (starts-filled old e c.live.ensures.kept)) c.counted.ensures.first

pub returns-clause-named : goal.returns-clause-named
returns-clause-named g c =
    let old = c.args.self.now.state in
    let e = c.args.event.now in
    IfOk-weaker c.counted.result (λ r. r.0 ≡ (next_case old e).1) (λ r. NamesEntryIn old.live r.0)
    (λ r is. subst (NamesEntryIn old.live) (sym is) (names-entry old e)) c.counted.ensures.first
