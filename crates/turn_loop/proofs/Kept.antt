-- Bytes that are kept up to a limit.
use Rattle.turn_loop.proofs.Common.{[], ℕ, ◌++◌, ◌-◌, ◌∙◌, ◌∷◌, ◌≡◌, ◌≤◌, ap, arith, Bytes, cases_lt, inl, inr, length, min, suc, sym, take, take_all, zero}

-- as many more as there is room for
pub kept-more : (n m : ℕ) (xs ys : Bytes) → length xs ≤ n → m ≡ min (n - length xs) (length ys) → xs ++ take m ys ≡ take n (xs ++ ys)
kept-more n m [] ys le is = elim (cases_lt n (length ys)) [
  | inl lt ↦ let same : m ≡ n = omega (arith, is, lt) in ap (λ k. take k ys) same
  | inr ge ↦ take_all m ys (omega (arith, is, ge)) ∙ sym (take_all n ys (omega (arith, ge)))
]
kept-more zero m (x ∷ xs) ys le is = absurd (omega (arith, le))
kept-more (suc n) m (x ∷ xs) ys le is = ap (λ l. x ∷ l) (kept-more n m xs ys (omega (arith, le)) (omega (arith, is)))
