use Rattle.wsm_ops.proofs.{Common.{◌++◌, ◌∙◌, ap, joined, take-append-drop}, JoinedRuns.joined-push}
use Rattle.wsm_ops.proofs.runs.runs_of.Goals as goal

pub loop-rest-preserved : goal.loop-rest-preserved
loop-rest-preserved c =
    let run = c.in_ok-from_slice.field-0 in
    let rest = c.split_at.result.1.now in
    ap (λ rs. joined rs ++ rest) (c.in_ok-push.ensures.items)
    ∙ joined-push c.loop-rest.runs.items run rest
    ∙ ap (λ ps. joined c.loop-rest.runs.items ++ (ps ++ rest)) (c.in_ok-from_slice.ensures.items ∙ c.split_at.ensures.front)
    ∙ ap (λ ps. joined c.loop-rest.runs.items ++ ps) (rw c.split_at.ensures.back (take-append-drop _ c.loop-rest.rest.now))
    ∙ c.loop-rest.invariant
