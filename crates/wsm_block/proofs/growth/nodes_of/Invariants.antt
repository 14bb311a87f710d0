use Rattle.wsm_block.proofs.Common.{◌++◌, ◌≡◌, drop, nodes_of}
use Rattle.wsm_block.proofs.growth.nodes_of.Given as goal

abbrev pub invariant-loop-card : goal.invariant-loop-card
invariant-loop-card l = l.nodes.items ++ nodes_of (drop l.card-index l.cards) ≡ nodes_of l.cards
