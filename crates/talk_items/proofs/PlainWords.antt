-- The words at the front of a line, one more at a time.
use Rattle.talk_items.proofs.Common.{[], ℕ, ◌++◌, ◌<◌, ◌==◌, ◌∙◌, ◌∷◌, ◌≡◌, ◌≤◌, ap, append_assoc, arith, Bool, Bytes, cases_lt, eq-eqb, false, inl, inr, Keyword, keyword, List, map, sym, true, words_of}

-- one word more
pub word-more : (front : List Keyword) (line word rest whole : Bytes) → front ++ map keyword (words_of line) ≡ map keyword (words_of whole) → words_of line ≡ word ∷ words_of rest
    → (front ++ keyword word ∷ []) ++ map keyword (words_of rest) ≡ map keyword (words_of whole)
word-more front line word rest whole so_far first =
    append_assoc front (keyword word ∷ []) (map keyword (words_of rest)) ∙ ap (λ ws. front ++ map keyword ws) (sym first) ∙ so_far

pub not-full : (n m : ℕ) (is : Bool) → is ≡ (n == m) → is ≡ false → n ≤ m → n < m
not-full n m is same not_so few = elim (cases_lt n m) [
  | inl less ↦ less
  | inr ge ↦ let both : n ≡ m = omega (arith, few, ge) in let it : (n == m) ≡ true = eq-eqb n m both in absurd cc
]
