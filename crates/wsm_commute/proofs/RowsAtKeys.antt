-- Changes of rows, told at each key: rows with another row, without one, or without all rows of some keys.
use Rattle.wsm_commute.proofs.Common.{[], ℕ, ◌∙◌, ◌∷◌, ◌≡◌, AllRows, ap, Ascends, Bool, both_ways, cases_Bool, drop_row, eq_from, eq_means, false, filter, if◌then◌else◌, inl, inr, key_eq, key_lt, List, None, not, put_row, refl, row_at}
use Rattle.wsm_commute.proofs.{Common.{Some, subst, sym, true}, SameRows.{none_below, differs}}

-- a key that the test finds is that key
pub key-is : (a b : ℕ × ℕ) → key_eq a b ≡ true → a ≡ b
key-is a b h = let same = eq_means a b h in ap (λ u. (u, a.1)) same.0 ∙ ap (λ w. (b.0, w)) same.1

module _ {X : Type 0} (key : X → ℕ × ℕ) where
  pub put-at : (k : ℕ × ℕ) (x : X) (xs : List X) → row_at key k (put_row key x xs) ≡ (if key_eq (key x) k then Some x else row_at key k xs)
  put-at k x [] = refl
  put-at k x (y ∷ ys) =
      elim (cases_Bool (key_lt (key y) (key x))) [
        | inl below ↦ rw below (elim (cases_Bool (key_eq (key y) k)) [
          | inl here ↦
              let is : key y ≡ k = key-is (key y) k here in
              let above : key_lt k (key x) ≡ true = subst (λ q. key_lt q (key x) ≡ true) is below in
              rw (here, differs k (key x) above) refl
          | inr other ↦ rw other (put-at k x ys)
        ])
        | inr not_below ↦ elim (cases_Bool (key_eq (key y) (key x))) [
          | inl same ↦ rw (not_below, same) (let is : key y ≡ key x = key-is (key y) (key x) same in rw is (elim (cases_Bool (key_eq (key x) k)) [ inl here ↦ rw here refl | inr other ↦ rw other refl ]))
          | inr other ↦ rw (not_below, other) refl
        ]
      ]

  pub drop-at : (k at : ℕ × ℕ) (xs : List X) → Ascends key xs → row_at key k (drop_row key at xs) ≡ (if key_eq at k then None else row_at key k xs)
  drop-at k at [] up = elim (cases_Bool (key_eq at k)) [ inl here ↦ rw here refl | inr other ↦ rw other refl ]
  drop-at k at (x ∷ xs) up =
      elim (cases_Bool (key_eq (key x) at)) [
        | inl gone ↦
            let is : key x ≡ at = key-is (key x) at gone in
            rw (gone, is) (elim (cases_Bool (key_eq at k)) [
              | inl here ↦ rw here (let same : key x ≡ k = is ∙ key-is at k here in none_below key k xs (subst (λ q. AllRows (λ y. key_lt q (key y) ≡ true) xs) same up.0))
              | inr other ↦ rw other refl
            ])
        | inr stays ↦ rw stays (elim (cases_Bool (key_eq (key x) k)) [
          | inl here ↦
              let is : key x ≡ k = key-is (key x) k here in
              let apart : key_eq at k ≡ false = not_back k at (subst (λ q. key_eq q at ≡ false) is stays) in
              rw (here, apart) refl
          | inr other ↦ rw other (drop-at k at xs up.1)
        ])
      ]
    where
      not_back : (a b : ℕ × ℕ) → key_eq a b ≡ false → key_eq b a ≡ false
      not_back a b h =
          elim (cases_Bool (key_eq b a)) [
            | inl same ↦ let p = eq_means b a same in absurd (both_ways _ h (eq_from a b (sym p.0) (sym p.1)))
            | inr other ↦ other
          ]

  pub clear-at : (gone : ℕ × ℕ → Bool) (k : ℕ × ℕ) (xs : List X) → row_at key k (filter (λ x. not (gone (key x))) xs) ≡ (if gone k then None else row_at key k xs)
  clear-at gone k [] = elim (cases_Bool (gone k)) [ inl here ↦ rw here refl | inr other ↦ rw other refl ]
  clear-at gone k (x ∷ xs) =
      elim (cases_Bool (gone (key x))) [
        | inl goes ↦ rw goes (clear-at gone k xs ∙ elim (cases_Bool (key_eq (key x) k)) [
          | inl here ↦ rw here (let too : gone k ≡ true = subst (λ q. gone q ≡ true) (key-is (key x) k here) goes in rw too refl)
          | inr other ↦ rw other refl
        ])
        | inr stays ↦ rw stays (elim (cases_Bool (key_eq (key x) k)) [
          | inl here ↦ rw here (let too : gone k ≡ false = subst (λ q. gone q ≡ false) (key-is (key x) k here) stays in rw too refl)
          | inr other ↦ rw other (clear-at gone k xs)
        ])
      ]
