use Rattle.case_core.proofs.{Common.{[], ◌∙◌, ◌≡◌, ap, IfOk-weaker, least_overlap, ops_after, rules, sym}, NoOverlap.no-overlap}
use Rattle.case_core.specs.Machine.{overlap_with}
use Rattle.case_core.proofs.live_of.LiveOf.overlap_with.Goals as goal

pub returns-then-is_empty : goal.returns-then-is_empty
unfolding overlap_with
returns-then-is_empty g c =
    let l = c.args.self.now in
    let v = c.args.version.now in
    let none : l.own ≡ [] = sym c.own-own.ensures.own ∙ c.is_empty.ensures.0 c.if-is_empty.true in
    sym (ap (λ os. least_overlap os (ops_after l.base.number v)) none ∙ no-overlap (ops_after l.base.number v))

pub returns : goal.returns
unfolding overlap_with
returns g c =
    let l = c.args.self.now in
    let v = c.args.version.now in
    let own : c.own-own.result.now ≡ l.own = c.own-own.ensures.own in
    let later : c.in_ok-later.later ≡ ops_after l.base.number v = search rules in
    IfOk-weaker c.overlap.result (λ n. n ≡ least_overlap c.own-own.result.now c.in_ok-later.later) (λ n. n ≡ least_overlap l.own (ops_after l.base.number v))
    (λ n is. is ∙ ap (λ os. least_overlap os c.in_ok-later.later) own ∙ ap (least_overlap l.own) later) c.overlap.ensures
