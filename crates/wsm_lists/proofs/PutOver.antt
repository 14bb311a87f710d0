-- Rows that are put over others: which row a key has, and the same rows put in another order.
use Rattle.wsm_lists.proofs.Common.{[], ℕ, ◌∙◌, ◌∷◌, ◌≡◌, AllRows, ap, Ascends, Bool, both_ways, cases_Bool, cond, drop_row, Err, false, inl, inr, is_some, key_eq, key_lt, List, None, not, Ok, OnOk, Option, put_over, put_row, refl, Result}
use Rattle.wsm_lists.proofs.{Common.{row_at, Some, subst, sym, true}, Ascending.{ascending-same, below-absent, tail-absent}, ByNumber.row_at-put, Rows.{ascends_drop, ascends_put, eq_from, eq_means, lt_not_eq, lt_trans}}

-- the first of two rows
abbrev pub or_else : {X : Type 0} → Option X → Option X → Option X
or_else None o = o
or_else (Some x) o = Some x

or_else-none : {X : Type 0} (o : Option X) → or_else o None ≡ o
or_else-none None = refl
or_else-none (Some x) = refl

none_of : {X : Type 0} (o : Option X) → is_some o ≡ false → o ≡ None
none_of None h = refl
none_of (Some x) h = absurd (cc)

-- what stands behind a row that is there makes no difference
hidden : {X : Type 0} (o p q : Option X) → is_some o ≡ true → or_else o p ≡ or_else o q
hidden None p q there = absurd (cc)
hidden (Some x) p q there = refl

module _ {X : Type 0} (key : X → ℕ × ℕ) where
  one-key : (a b : ℕ × ℕ) → key_eq a b ≡ true → a ≡ b
  one-key a b same = let e = eq_means a b same in λ i. (e.0 i, e.1 i)

  pub ascends-over : (xs ys : List X) → Ascends key ys → Ascends key (put_over key xs ys)
  ascends-over [] ys s = s
  ascends-over (x ∷ xs) ys s = ascends_put key x (put_over key xs ys) (ascends-over xs ys s)

  pub row_at-over : (k : ℕ × ℕ) (xs ys : List X) → row_at key k (put_over key xs ys) ≡ or_else (row_at key k xs) (row_at key k ys)
  row_at-over k [] ys = refl
  row_at-over k (x ∷ xs) ys =
      row_at-put key k x (put_over key xs ys)
      ∙ elim (cases_Bool (key_eq (key x) k)) [
        | inl here ↦ rw here refl
        | inr away ↦ rw away (row_at-over k xs ys)
      ]

  row_at-drop : (k l : ℕ × ℕ) (xs : List X) → Ascends key xs → row_at key l (drop_row key k xs) ≡ cond (key_eq k l) None (row_at key l xs)
  row_at-drop k l [] s = elim (cases_Bool (key_eq k l)) [ inl same ↦ rw same refl | inr other ↦ rw other refl ]
  row_at-drop k l (x ∷ xs) s =
      elim (cases_Bool (key_eq (key x) k)) [
        | inl gone ↦
            let at_k : key x ≡ k = one-key (key x) k gone in
            elim (cases_Bool (key_eq k l)) [
              | inl same ↦ rw (gone, same) (tail-absent key x xs l s.0 (ap (λ a. key_eq a l) at_k ∙ same))
              | inr other ↦ rw (gone, other, ap (λ a. key_eq a l) at_k ∙ other) refl
            ]
        | inr stays ↦ elim (cases_Bool (key_eq (key x) l)) [
          | inl here ↦
              let at_l : key x ≡ l = one-key (key x) l here in
              let other : key_eq k l ≡ false = elim (cases_Bool (key_eq k l)) [
                | inr fine ↦ fine
                | inl same ↦ let e = eq_means k l same in absurd (both_ways _ stays (rw at_l (eq_from l k (sym e.0) (sym e.1))))
              ] in
              rw (stays, here, other) refl
          | inr away ↦ rw (stays, away) (row_at-drop k l xs s.1)
        ]
      ]

  pub ascends-put-if : (b : Bool) (x : X) (xs : List X) → Ascends key xs → Ascends key (cond b (put_row key x xs) xs)
  ascends-put-if true x xs s = ascends_put key x xs s
  ascends-put-if false x xs s = s

  -- a row that is put over both is put over the first
  pub over-put : (x : X) (xs ys : List X) → Ascends key ys → put_over key (put_row key x xs) ys ≡ put_row key x (put_over key xs ys)
  over-put x xs ys s =
      ascending-same key _ _ (ascends-over (put_row key x xs) ys s) (ascends_put key x _ (ascends-over xs ys s)) (λ z.
      row_at-over (key z) (put_row key x xs) ys ∙ ap (λ o. or_else o (row_at key (key z) ys)) (row_at-put key (key z) x xs)
      ∙ elim (cases_Bool (key_eq (key x) (key z))) [
        | inl here ↦ rw here refl
        | inr away ↦ rw away (sym (row_at-over (key z) xs ys))
      ]
      ∙ sym (row_at-put key (key z) x (put_over key xs ys)))

  -- and over the second, where the first has no row with its key
  pub put-under : (x : X) (xs ys : List X) → Ascends key ys → is_some (row_at key (key x) xs) ≡ false → put_over key xs (put_row key x ys) ≡ put_row key x (put_over key xs ys)
  put-under x xs ys s absent =
      ascending-same key _ _ (ascends-over xs (put_row key x ys) (ascends_put key x ys s)) (ascends_put key x _ (ascends-over xs ys s)) (λ z.
      row_at-over (key z) xs (put_row key x ys) ∙ ap (or_else (row_at key (key z) xs)) (row_at-put key (key z) x ys)
      ∙ elim (cases_Bool (key_eq (key x) (key z))) [
        | inl here ↦
            let none : row_at key (key z) xs ≡ None = subst (λ k. row_at key k xs ≡ None) (one-key (key x) (key z) here) (none_of _ absent) in
            rw (here, none) refl
        | inr away ↦ rw away (sym (row_at-over (key z) xs ys))
      ]
      ∙ sym (row_at-put key (key z) x (put_over key xs ys)))

  -- a row that is below all others is put in front
  put-first : (x : X) (ys : List X) → AllRows (λ y. key_lt (key x) (key y) ≡ true) ys → put_row key x ys ≡ x ∷ ys
  put-first x [] below = refl
  put-first x (y ∷ ys) below =
      let back : key_lt (key y) (key x) ≡ false = elim (cases_Bool (key_lt (key y) (key x))) [
        | inl less ↦ absurd (both_ways _ (lt_not_eq (key x) (key x) (lt_trans (key x) (key y) (key x) below.0 less)) (eq_from (key x) (key x) refl refl))
        | inr fine ↦ fine
      ] in
      let apart : key_eq (key y) (key x) ≡ false = elim (cases_Bool (key_eq (key y) (key x))) [
        | inl same ↦ let e = eq_means (key y) (key x) same in absurd (both_ways _ (lt_not_eq (key x) (key y) below.0) (eq_from (key x) (key y) (sym e.0) (sym e.1)))
        | inr fine ↦ fine
      ] in
      rw (back, apart) refl

  -- a row whose key is there is not seen below
  over-there : (x : X) (xs ys : List X) → Ascends key (x ∷ ys) → is_some (row_at key (key x) xs) ≡ true → put_over key xs (x ∷ ys) ≡ put_over key xs ys
  over-there x xs ys s there =
      ascending-same key _ _ (ascends-over xs (x ∷ ys) s) (ascends-over xs ys s.1) (λ z.
      row_at-over (key z) xs (x ∷ ys)
      ∙ elim (cases_Bool (key_eq (key x) (key z))) [
        | inl here ↦ rw here (hidden (row_at key (key z) xs) (Some x) (row_at key (key z) ys) (subst (λ k. is_some (row_at key k xs) ≡ true) (one-key (key x) (key z) here) there))
        | inr away ↦ rw away refl
      ]
      ∙ sym (row_at-over (key z) xs ys))

  -- the first row's key is no other's
  pub head-absent : (x : X) (xs : List X) → AllRows (λ y. key_lt (key x) (key y) ≡ true) xs → is_some (row_at key (key x) xs) ≡ false
  head-absent x xs rows = ap is_some (below-absent key (key x) xs rows)

  -- one row of those that are put over others goes to the others
  pub step-over : (x : X) (ys : List X) {all xs zs to : List X} → all ≡ x ∷ xs → Ascends key all → zs ≡ put_row key x ys → Ascends key ys → put_over key all ys ≡ to → put_over key xs zs ≡ to
  step-over x ys {all} {xs} {zs} {to} first order put s done =
      let head : Ascends key (x ∷ xs) = subst (Ascends key) first order in
      ap (put_over key xs) put ∙ put-under x xs ys s (head-absent x xs head.0) ∙ sym (ap (λ l. put_over key l ys) first) ∙ done

  -- one row of those that others are put over goes to the others, unless its key is there
  pub step-under : (x : X) (xs ys : List X) {zs : List X} → Ascends key xs → Ascends key (x ∷ ys) → zs ≡ cond (not (is_some (row_at key (key x) xs))) (put_row key x xs) xs → put_over key zs ys ≡ put_over key xs (x ∷ ys)
  step-under x xs ys {zs} sx sy put =
      elim (cases_Bool (is_some (row_at key (key x) xs))) [
        | inl there ↦
            let same : zs ≡ xs = put ∙ rw there refl in
            ap (λ l. put_over key l ys) same ∙ sym (over-there x xs ys sy there)
        | inr absent ↦
            let more : zs ≡ put_row key x xs = put ∙ rw absent refl in
            ap (λ l. put_over key l ys) more ∙ over-put x xs ys sy.1 ∙ sym (put-under x xs ys sy.1 absent) ∙ ap (put_over key xs) (put-first x ys sy.0)
      ]

  pub over-none : (xs : List X) → Ascends key xs → put_over key xs [] ≡ xs
  over-none xs s = ascending-same key _ _ (ascends-over xs [] tt) s (λ z. row_at-over (key z) xs [] ∙ or_else-none (row_at key (key z) xs))

  pub over-drop : (k : ℕ × ℕ) (xs ys : List X) → Ascends key xs → Ascends key ys → put_over key (drop_row key k xs) (drop_row key k ys) ≡ drop_row key k (put_over key xs ys)
  over-drop k xs ys sx sy =
      ascending-same key _ _ (ascends-over (drop_row key k xs) (drop_row key k ys) (ascends_drop key k ys sy)) (ascends_drop key k _ (ascends-over xs ys sy)) (λ z.
      row_at-over (key z) (drop_row key k xs) (drop_row key k ys)
      ∙ ap (λ o. or_else o (row_at key (key z) (drop_row key k ys))) (row_at-drop k (key z) xs sx)
      ∙ ap (or_else (cond (key_eq k (key z)) None (row_at key (key z) xs))) (row_at-drop k (key z) ys sy)
      ∙ elim (cases_Bool (key_eq k (key z))) [
        | inl same ↦ rw same refl
        | inr other ↦ rw other (sym (row_at-over (key z) xs ys))
      ]
      ∙ sym (row_at-drop k (key z) (put_over key xs ys) (ascends-over xs ys sy)))

-- what follows where there is a value
pub on-ok : {T E P Q : Type 0} (r : Result T E) → (P → Q) → OnOk r P → OnOk r Q
on-ok (Ok x) f p = f p
on-ok (Err e) f p = p
