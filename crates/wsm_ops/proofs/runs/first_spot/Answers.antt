use Rattle.wsm_ops.proofs.{Common.{◌+◌, ◌||◌, ◌∙◌, ◌≡◌, ap, at_gap, drop, false, items_at, joined, list_any, list_any-append, sym}, JoinedRuns.drop-joined}
use Rattle.wsm_ops.proofs.runs.first_spot.Goals as goal

pub loop-run-preserved : goal.loop-run-preserved
loop-run-preserved c =
    let t = at_gap c.args.gap in
    let runs = c.args.runs.now in
    let rest = joined (drop (c.loop-run.run + 1) runs) in
    let split = ap (list_any t) (drop-joined runs c.loop-run.run c.loop-run-test.true) ∙ list_any-append t (items_at runs c.loop-run.run) rest in
    let none : list_any t (items_at runs c.loop-run.run) ≡ false = c.in_default.ensures in
    sym (split ∙ ap (λ b. b || list_any t rest) none) ∙ c.loop-run.invariant
