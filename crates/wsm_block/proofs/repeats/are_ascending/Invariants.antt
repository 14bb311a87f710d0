use Rattle.wsm_block.proofs.Common.{ℕ, ◌≡◌, ascend_from, drop, List, map, None}
use Rattle.wsm_block.proofs.repeats.are_ascending.Given as goal

abbrev pub invariant-loop-i : goal.invariant-loop-i
invariant-loop-i l = let codes : List ℕ = map (λ b. b.code) l.branches in ascend_from l.last (drop l.i codes) ≡ ascend_from None codes
