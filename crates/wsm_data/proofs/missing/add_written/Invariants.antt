use Rattle.wsm_data.proofs.Common.{ℕ, ◌||◌, ◌≡◌, drop, eqb, is_one_of, list_any}
use Rattle.wsm_data.proofs.missing.add_written.Given as goal

abbrev pub invariant-loop-write : goal.invariant-loop-write
invariant-loop-write l = (d : ℕ) →
    (is_one_of d l.set || list_any (λ w. eqb w.1 d) (drop l.write-index l.writes)) ≡ (is_one_of d l.initial.set || list_any (λ w. eqb w.1 d) l.writes)
