-- The queues that are filled from the lines of a phase are whose turn it is.
use Rattle.case_audit.proofs.Common.{[], ℕ, ◌++◌, ◌+◌, ◌∷◌, actor_of, all_turns, append-nil, append_assoc, AreTurns, Asked, fold, length, length-replicate, List, no_queues, set_past, subst, sym, turn-added, turn-foreign, with_turn}
use Rattle.case_audit.proofs.QueueLists.{At, behind, none-in, where-at, within}

module _ (actors : ℕ) where
  turn-more : (queues : List (List Asked)) (done : List Asked) (l : Asked) → AreTurns actor_of actors queues done → AreTurns actor_of actors (with_turn queues l) (done ++ l ∷ [])
  turn-more queues done l turns = by (where-at (length queues) (actor_of l))
    where
      by : At (length queues) (actor_of l) → AreTurns actor_of actors (with_turn queues l) (done ++ l ∷ [])
      by (within low) = turn-added actor_of actors queues done l turns low
      by (behind past) = subst (λ qs. AreTurns actor_of actors qs (done ++ l ∷ [])) (sym (set_past queues (actor_of l) _ past)) (turn-foreign actor_of actors queues done l turns past)

  turns-from : (queues : List (List Asked)) (done ls : List Asked) → AreTurns actor_of actors queues done → AreTurns actor_of actors (fold with_turn queues ls) (done ++ ls)
  turns-from queues done [] turns = subst (λ xs. AreTurns actor_of actors queues xs) (sym (append-nil done)) turns
  turns-from queues done (l ∷ ls) turns =
      subst (λ xs. AreTurns actor_of actors (fold with_turn (with_turn queues l) ls) xs) (append_assoc done (l ∷ []) ls)
      (turns-from (with_turn queues l) (done ++ l ∷ []) ls (turn-more queues done l turns))

  pub all-turns : (phase : List Asked) → AreTurns actor_of actors (all_turns actors phase) phase
  all-turns phase = turns-from (no_queues actors) [] phase (length-replicate (actors + 1) [], λ a low. none-in (actors + 1) a)
