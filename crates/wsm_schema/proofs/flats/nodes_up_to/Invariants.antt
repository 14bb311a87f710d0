use Rattle.wsm_schema.proofs.Common.{◌++◌, ◌≡◌, drop, map, up_to_node}
use Rattle.wsm_schema.proofs.flats.nodes_up_to.Given as goal

abbrev pub invariant-loop-c : goal.invariant-loop-c
invariant-loop-c l = l.all.items ++ up_to_node l.end (map (λ c. c.node) (drop l.c-index l.cards)) ≡ up_to_node l.end (map (λ c. c.node) l.cards)
