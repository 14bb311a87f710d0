use Rattle.wsm_adapt.proofs.Common.{ℕ, card_at, drop, Handed, is_led, List, list_any}
use Rattle.wsm_adapt.proofs.begins.hand_on_all.Given as goal

abbrev pub invariant-loop-node : goal.invariant-loop-node
invariant-loop-node l =
    (last : List ℕ) → Handed l.rank (λ k. list_any (λ m. is_led (card_at m l.flat.cards) k) (drop l.node-index l.nodes)) 0 l.pending.keys last →
    Handed l.rank (λ k. list_any (λ m. is_led (card_at m l.flat.cards) k) l.nodes) 0 l.fn.pending.keys last
