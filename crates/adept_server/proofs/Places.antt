-- Lists in which one place is changed.
use Rattle.adept_server.proofs.Common.{[], ℕ, ◌<◌, ◌∷◌, ◌≡◌, ◌⊎◌, ap, arith, inl, inr, length, List, refl, set, slice_get, Some, suc, zero}

module _ {A : Type 0} where
  pub get-set_same : (xs : List A) (i : ℕ) (y : A) → i < length xs → slice_get (set xs i y) i ≡ Some y
  get-set_same [] i y lt = absurd (omega arith)
  get-set_same (x ∷ xs) zero y lt = refl
  get-set_same (x ∷ xs) (suc i) y lt = get-set_same xs i y (omega arith)

  -- what stands at a place is what was put there, or what stood there before
  pub set_cases : (xs : List A) (i j : ℕ) (y p : A) → slice_get (set xs i y) j ≡ Some p → ((j ≡ i) × (p ≡ y)) ⊎ (slice_get xs j ≡ Some p)
  set_cases [] i j y p is = absurd (cc)
  set_cases (x ∷ xs) zero zero y p is = inl (refl, cc)
  set_cases (x ∷ xs) zero (suc j) y p is = inr is
  set_cases (x ∷ xs) (suc i) zero y p is = inr is
  set_cases (x ∷ xs) (suc i) (suc j) y p is = elim (set_cases xs i j y p is) [ inl k ↦ inl (ap suc k.0, k.1) | inr k ↦ inr k ]

  -- what stood at a place stands there still, unless it is the place that was changed
  pub stays_or_set : (xs : List A) (i j : ℕ) (y p : A) → slice_get xs j ≡ Some p → ((j ≡ i) × (slice_get (set xs i y) j ≡ Some y)) ⊎ (slice_get (set xs i y) j ≡ Some p)
  stays_or_set [] i j y p is = absurd (cc)
  stays_or_set (x ∷ xs) zero zero y p is = inl (refl, refl)
  stays_or_set (x ∷ xs) zero (suc j) y p is = inr is
  stays_or_set (x ∷ xs) (suc i) zero y p is = inr is
  stays_or_set (x ∷ xs) (suc i) (suc j) y p is = elim (stays_or_set xs i j y p is) [ inl k ↦ inl (ap suc k.0, k.1) | inr k ↦ inr k ]

  -- to put what stands there changes nothing
  pub set_same : (xs : List A) (i : ℕ) (x : A) → slice_get xs i ≡ Some x → xs ≡ set xs i x
  set_same [] i x is = absurd (cc)
  set_same (y ∷ xs) zero x is = let same : y ≡ x = cc (is) in ap (λ z. z ∷ xs) same
  set_same (y ∷ xs) (suc i) x is = ap (λ zs. y ∷ zs) (set_same xs i x is)
