-- Lists in a list, of which one is changed.
use Rattle.case_audit.proofs.Common.{[], ℕ, ◌++◌, ◌+◌, ◌<◌, ◌∙◌, ◌∷◌, ◌≡◌, ◌≢◌, ◌≤◌, ap, arith, behind_front, get-other, get-set, length, List, one_added, one_taken, queue_in, queue_of, refl, replicate, set-many, slice_get_past, slice_set}
use Rattle.case_audit.proofs.Common.{suc, sym, zero}

-- within the list, or behind it
pub data At (n i : ℕ) : Type 0 where
  within : i < n → At n i
  behind : n ≤ i → At n i

pub where-at : (n i : ℕ) → At n i
where-at zero i = behind (omega arith)
where-at (suc n) zero = within (omega arith)
where-at (suc n) (suc i) = by (where-at n i)
  where
    by : At n i → At (suc n) (suc i)
    by (within low) = within (omega (arith, low))
    by (behind past) = behind (omega (arith, past))

module _ {L : Type 0} where
  pub set-own : (queues : List (List L)) (i : ℕ) (q : List L) → (length queues ≤ i → q ≡ []) → queue_of (slice_set queues i q) i ≡ q
  set-own queues i q none = by (where-at (length queues) i)
    where
      by : At (length queues) i → queue_of (slice_set queues i q) i ≡ q
      by (within low) = ap queue_in (get-set queues i q low)
      by (behind past) = ap queue_in (slice_get_past (slice_set queues i q) i (omega (arith, past, set-many queues i q))) ∙ sym (none past)

  pub set-another : (queues : List (List L)) (i j : ℕ) (q : List L) → j ≢ i → queue_of (slice_set queues i q) j ≡ queue_of queues j
  set-another queues i j q other = ap queue_in (get-other queues i j q other)

  pub none-of : (queues : List (List L)) (i : ℕ) → length queues ≤ i → queue_of queues i ≡ []
  none-of queues i past = ap queue_in (slice_get_past queues i past)

  pub none-in : (n a : ℕ) → queue_of {L = L} (replicate n []) a ≡ []
  none-in zero a = refl
  none-in (suc n) zero = refl
  none-in (suc n) (suc a) = none-in n a

  pub taken-own : (queues : List (List L)) (a : ℕ) → queue_of (one_taken a queues) a ≡ behind_front (queue_of queues a)
  taken-own queues a = set-own queues a (behind_front (queue_of queues a)) (λ past. ap behind_front (none-of queues a past))

  pub taken-another : (queues : List (List L)) (a b : ℕ) → b ≢ a → queue_of (one_taken a queues) b ≡ queue_of queues b
  taken-another queues a b other = set-another queues a b (behind_front (queue_of queues a)) other

  pub added-own : (queues : List (List L)) (a : ℕ) (l : L) → a < length queues → queue_of (one_added a l queues) a ≡ queue_of queues a ++ l ∷ []
  added-own queues a l low = ap queue_in (get-set queues a (queue_of queues a ++ l ∷ []) low)

  pub added-another : (queues : List (List L)) (a b : ℕ) (l : L) → b ≢ a → queue_of (one_added a l queues) b ≡ queue_of queues b
  added-another queues a b l other = set-another queues a b (queue_of queues a ++ l ∷ []) other
