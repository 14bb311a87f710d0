use Rattle.wsm_lists.proofs.Common.{◌+◌, ◌≡◌, Merging, take, vec_capacity}
use Rattle.wsm_lists.proofs.taking.merge.Given as goal

abbrev pub invariant-loop-left : goal.invariant-loop-left
invariant-loop-left g l =
    Merging (take l.count l.fn.rows.items) l.changes l.rows.items l.kept l.left l.from
    × (vec_capacity l.rows ≡ vec_capacity l.fn.rows)

abbrev pub decreases-loop-left : goal.decreases-loop-left
decreases-loop-left g l = l.kept + l.left
