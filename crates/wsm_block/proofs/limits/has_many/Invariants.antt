use Rattle.wsm_block.proofs.{Common.{◌≡◌, false, list_any, take}, Counts.many_in}
use Rattle.wsm_block.proofs.limits.has_many.Given as goal

abbrev pub invariant-loop-i : goal.invariant-loop-i
invariant-loop-i g l = list_any (λ r. many_in (λ s. (g.K.Keys.key_of s).0) l.rows (g.K.Keys.key_of r).0) (take l.i l.rows) ≡ false
