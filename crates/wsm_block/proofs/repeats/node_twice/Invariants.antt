use Rattle.wsm_block.proofs.Common.{[], ℕ, ◌≡◌, drop, List, nodes_of, take, twice}
use Rattle.wsm_block.proofs.repeats.node_twice.Given as goal

abbrev pub invariant-loop-i : goal.invariant-loop-i
invariant-loop-i l = let nodes : List ℕ = nodes_of l.cards in twice (take l.i nodes) (drop l.i nodes) ≡ twice [] nodes
