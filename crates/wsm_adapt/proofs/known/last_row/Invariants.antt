use Rattle.wsm_adapt.proofs.Common.{◌≡◌, item_at, reverse, take}
use Rattle.wsm_adapt.proofs.known.last_row.Given as goal

abbrev pub invariant-loop-place : goal.invariant-loop-place
invariant-loop-place l = item_at l.node (reverse (take l.place l.rows)) ≡ item_at l.node (reverse l.rows)
