use Rattle.std.proofs.Common.{◌≡◌, drop, filter, is_some, not}
use Rattle.wsm_schema.specs.Flat.{card_at}
use Rattle.wsm_touch.specs.TouchedNodes.{nodes_in, put_all}
use Rattle.wsm_touch.proofs.changed_nodes.put_absent.Given as goal

abbrev pub invariant-loop-place : goal.invariant-loop-place
invariant-loop-place l =
    put_all (filter (λ n. not (is_some (card_at n l.schema.cards))) (nodes_in (drop l.place l.cards))) l.nodes ≡ put_all (filter (λ n. not (is_some (card_at n l.schema.cards))) (nodes_in l.cards)) l.fn.nodes
