use Rattle.wsm_settle.proofs.Common.{ℕ, drop, Handed, is_one_of, List, low_of}
use Rattle.wsm_settle.proofs.pending.hand_to.Given as goal

abbrev pub invariant-loop-node : goal.invariant-loop-node
invariant-loop-node l = (last : List ℕ) → Handed l.rank (λ k. is_one_of k (drop l.node-index l.nodes)) (low_of l.from) l.pending.keys last → Handed l.rank (λ k. is_one_of k l.nodes) (low_of l.from) l.fn.pending.keys last
