use Rattle.wsm_settle.proofs.Common.{ℕ, ◌==◌, drop, Handed, List, list_any, low_of, WasHanded}
use Rattle.wsm_settle.proofs.pending.hand_to_ends.Given as goal

abbrev pub invariant-loop-end : goal.invariant-loop-end
invariant-loop-end l =
    ((last : List ℕ) → Handed l.rank (λ k. list_any (λ o. o.node == k) (drop l.end-index l.ends)) (low_of l.from) l.pending.keys last → Handed l.rank (λ k. list_any (λ o. o.node == k) l.ends) (low_of l.from) l.fn.pending.keys last)
    × WasHanded l.rank (low_of l.from) l.last l.pending.keys
