use Rattle.wsm_schema.proofs.Common.{◌++◌, ◌≡◌, drop, map}
use Rattle.wsm_schema.proofs.flats.nodes_of.Given as goal

abbrev pub invariant-loop-card : goal.invariant-loop-card
invariant-loop-card l = l.nodes.items ++ map (λ c. c.node) (drop l.card-index l.cards) ≡ map (λ c. c.node) l.cards
