-- Passes of which the first ones gave their answers.
use Rattle.std.proofs.{Common.{◌≡◌, ℕ, zero, suc, ◌+◌, ◌<◌, ◌≤◌, List, [], ◌∷◌, ◌++◌, length, take, get_or, set, IsSome, Result, Some, None, refl, sym, subst, arith}, lemmas.List.{take_more, take_more_set, take_all}}
use Rattle.turn_cell.specs.{declared.faults.CallFault.CallFault, declared.pass.Pass.Pass, Passes.view_of}
use Rattle.turn_batch.specs.Batch.{AreAnswered, AreTaken}
use Rattle.turn_batch.proofs.Lists.{IsSameFrom, same_at, same_from_next}

module _ {M E R W S : Type 0} {g : _} where
  -- The passes os have become ns: the first n of them gave these answers.
  pub record HaveTaken (n : ℕ) (os ns : List (Pass M E R W S g)) (answers : List (Result R CallFault)) : Type 0 where
    pub taken : AreTaken (take n os) answers (take n ns)
    pub same : IsSameFrom n os ns

  pub none_taken : (os : List (Pass M E R W S g)) → HaveTaken 0 os os []
  none_taken os = record { taken = tt; same = refl }

  answered_at : (ps : List (Pass M E R W S g)) (n : ℕ) (d : Pass M E R W S g) → AreAnswered ps → n < length ps → IsSome (view_of (get_or ps n d)).kept
  answered_at [] n d k lt = absurd (omega arith)
  answered_at (p ∷ ps) zero d k lt = k.0
  answered_at (p ∷ ps) (suc n) d k lt = answered_at ps n d k.1 (omega arith)

  pub next_answered : (n : ℕ) (os ns : List (Pass M E R W S g)) (answers : List (Result R CallFault)) (d : Pass M E R W S g) → AreAnswered os → HaveTaken n os ns answers → n < length os → IsSome (view_of (get_or ns n d)).kept
  next_answered n os ns answers d all k lt = subst (λ (q : Pass M E R W S g). IsSome (view_of q).kept) (sym (same_at n os ns d k.same)) (answered_at os n d all lt)

  AreTaken-push : (ps : List (Pass M E R W S g)) (answers : List (Result R CallFault)) (qs : List (Pass M E R W S g)) (p q : Pass M E R W S g) (a : Result R CallFault) → AreTaken ps answers qs
      → (view_of p).kept ≡ Some a → view_of q ≡ record (view_of p) { kept = None } → AreTaken (ps ++ p ∷ []) (answers ++ a ∷ []) (qs ++ q ∷ [])
  AreTaken-push [] [] [] p q a k kept given = (kept, given, tt)
  AreTaken-push (x ∷ ps) (b ∷ answers) (y ∷ qs) p q a k kept given = (k.0, k.1, AreTaken-push ps answers qs p q a k.2 kept given)
  AreTaken-push [] [] (y ∷ qs) p q a k kept given = absurd k
  AreTaken-push [] (b ∷ answers) qs p q a k kept given = absurd k
  AreTaken-push (x ∷ ps) [] qs p q a k kept given = absurd k
  AreTaken-push (x ∷ ps) (b ∷ answers) [] p q a k kept given = absurd k

  pub one_more_taken : (n : ℕ) (os ns : List (Pass M E R W S g)) (answers : List (Result R CallFault)) (d q : Pass M E R W S g) (a : Result R CallFault) → HaveTaken n os ns answers → n < length os → length ns ≡ length os
      → (view_of (get_or ns n d)).kept ≡ Some a → view_of q ≡ record (view_of (get_or ns n d)) { kept = None } → HaveTaken (n + 1) os (set ns n q) (answers ++ a ∷ [])
  one_more_taken n os ns answers d q a k lt even kept given =
      let old : get_or ns n d ≡ get_or os n d = same_at n os ns d k.same in record {
        taken = rw (take_more os n d lt, take_more_set ns n q (omega arith)) (AreTaken-push (take n os) answers (take n ns) (get_or os n d) q a k.taken (rw old at kept) (rw old at given));
        same = same_from_next n os ns q k.same;
      }

  pub all_taken : (n : ℕ) (os ns : List (Pass M E R W S g)) (answers : List (Result R CallFault)) → HaveTaken n os ns answers → length os ≤ n → length ns ≡ length os → AreTaken os answers ns
  all_taken n os ns answers k le even = rw (take_all n os le, take_all n ns (omega arith)) at k.taken
