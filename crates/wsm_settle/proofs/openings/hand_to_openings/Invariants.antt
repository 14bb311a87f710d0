use Rattle.wsm_settle.proofs.Common.{ℕ, drop, Handed, is_opening, List, list_any, opens}
use Rattle.wsm_settle.proofs.openings.hand_to_openings.Given as goal

abbrev pub invariant-loop-card : goal.invariant-loop-card
invariant-loop-card l =
    (last : List ℕ) → Handed l.rank (λ k. list_any (opens k) (drop l.card-index l.cards)) 0 l.pending.keys last →
    Handed l.rank (is_opening l.cards) 0 l.fn.pending.keys last
