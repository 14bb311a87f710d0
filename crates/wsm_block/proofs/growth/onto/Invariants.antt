use Rattle.wsm_block.proofs.Common.{◌++◌, ◌-◌, ◌≡◌, length, onto_seen, take}
use Rattle.wsm_block.proofs.growth.onto.Given as goal

abbrev pub invariant-loop-i : goal.invariant-loop-i
invariant-loop-i l = l.all.items ++ onto_seen (take (length l.front - l.i) l.front) l.edges ≡ onto_seen l.front l.edges
