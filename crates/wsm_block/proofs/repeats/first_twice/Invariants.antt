use Rattle.wsm_block.proofs.Common.{[], ℕ, ◌≡◌, drop, List, map, take, twice}
use Rattle.wsm_block.proofs.repeats.first_twice.Given as goal

abbrev pub invariant-loop-i : goal.invariant-loop-i
invariant-loop-i l = let codes : List ℕ = map (λ b. b.code) l.branches in twice (take l.i codes) (drop l.i codes) ≡ twice [] codes
