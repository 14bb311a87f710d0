-- Rows that ascend by a number in front of each.
use Rattle.wsm_lists.proofs.Common.{[], ℕ, ◌∙◌, ◌∷◌, ◌≡◌, AllRows, and_right, ap, arith, Ascends, both_ways, cases_Bool, change_row, changed, cond, drop_row, eq-eqb, eqb, eqb-true, false, first, inl, inr, is_some, item_after, item_at}
use Rattle.wsm_lists.proofs.{Common.{key_eq, key_lt, List, ltb, None, Option, option_map, put_row, refl, row_at, Some, sym, true}, Ascending.ascending-same, Rows.{eq_means, eq_from, lt_means, ascends_put, ascends_drop}}

-- the order of such keys is that of their numbers
pub lt_number : (a n : ℕ) → key_lt (a, 0) (n, 0) ≡ ltb a n
lt_number a n =
    elim (cases_Bool (ltb a n)) [
      | inl less ↦ rw less refl
      | inr not_less ↦ rw (not_less, and_right (eqb a n) false refl) refl
    ]

pub eq_number : (a n : ℕ) → key_eq (a, 0) (n, 0) ≡ eqb a n
eq_number a n =
    elim (cases_Bool (eqb a n)) [
      | inl same ↦ rw same refl
      | inr other ↦ rw other refl
    ]

module _ {X : Type 0} (key : X → ℕ × ℕ) where
  other_key : (a b k : ℕ × ℕ) → key_eq a b ≡ true → key_eq b k ≡ false → key_eq a k ≡ false
  other_key a b k same other =
      elim (cases_Bool (key_eq a k)) [
        | inl equal ↦
            let s = eq_means a b same in
            let e = eq_means a k equal in
            absurd (both_ways _ other (eq_from b k (sym s.0 ∙ e.0) (sym s.1 ∙ e.1)))
        | inr not_equal ↦ not_equal
      ]

  below_key : (a b k : ℕ × ℕ) → key_lt a b ≡ true → key_eq a k ≡ true → key_eq b k ≡ false
  below_key a b k below same =
      elim (cases_Bool (key_eq b k)) [
        | inl equal ↦
            let s = eq_means a k same in
            let e = eq_means b k equal in
            absurd (elim (lt_means a b below) [ inl h ↦ omega (arith, h, s.0, e.0) | inr h ↦ omega (arith, h.1, s.1, e.1) ])
        | inr not_equal ↦ not_equal
      ]

  -- the row of a key after a put
  pub row_at-put : (k : ℕ × ℕ) (x : X) (xs : List X) → row_at key k (put_row key x xs) ≡ cond (key_eq (key x) k) (Some x) (row_at key k xs)
  row_at-put k x [] = refl
  row_at-put k x (y ∷ ys) =
      elim (cases_Bool (key_lt (key y) (key x))) [
        | inl below ↦ elim (cases_Bool (key_eq (key y) k)) [
          | inl here ↦ rw (below, here, below_key (key y) (key x) k below here) refl
          | inr away ↦ rw (below, away) (row_at-put k x ys)
        ]
        | inr not_below ↦ elim (cases_Bool (key_eq (key y) (key x))) [
          | inl same ↦ elim (cases_Bool (key_eq (key x) k)) [
            | inl here ↦ rw (not_below, same, here) refl
            | inr away ↦ rw (not_below, same, away, other_key (key y) (key x) k same away) refl
          ]
          | inr other ↦ rw (not_below, other) refl
        ]
      ]

-- what the row of a number holds after a put
pub item_at-put : {A : Type 0} (d : ℕ) (x : ℕ × A) (xs : List (ℕ × A)) → item_at d (put_row first x xs) ≡ cond (eqb x.0 d) (Some x.1) (item_at d xs)
item_at-put d x xs =
    ap (option_map (λ r. r.1)) (row_at-put first (d, 0) x xs)
    ∙ elim (cases_Bool (eqb x.0 d)) [
      | inl same ↦ rw same refl
      | inr other ↦ rw other refl
    ]

pub is_some-map : {A B : Type 0} (f : A → B) (o : Option A) → is_some (option_map f o) ≡ is_some o
is_some-map f None = refl
is_some-map f (Some x) = refl

-- ---- lookups in rows by number
no-row : {A : Type 0} (n : ℕ) (o : Option (ℕ × A)) → option_map (λ r. r.1) o ≡ None → o ≡ None
no-row n None h = refl
no-row n (Some r) h = let q : Some r.1 ≡ None = h in absurd (cc)

-- the row of a number is that number with what it holds
pub row-by_item : {A : Type 0} (n : ℕ) (xs : List (ℕ × A)) → row_at first (n, 0) xs ≡ option_map (λ x. (n, x)) (item_at n xs)
row-by_item n [] = refl
row-by_item n (x ∷ xs) =
    elim (cases_Bool (eqb x.0 n)) [
      | inl same ↦ let e : x.0 ≡ n = eqb-true x.0 n same in rw same (ap (λ k. Some (k, x.1)) e)
      | inr other ↦ rw other (row-by_item n xs)
    ]

-- two ascending lists that hold the same for each number are one
pub items-same : {A : Type 0} (xs ys : List (ℕ × A)) → Ascends first xs → Ascends first ys → ((n : ℕ) → item_at n xs ≡ item_at n ys) → xs ≡ ys
items-same xs ys ax ay h = ascending-same first xs ys ax ay (λ z. row-by_item z.0 xs ∙ ap (option_map (λ x. (z.0, x))) (h z.0) ∙ sym (row-by_item z.0 ys))

-- rows above a number do not hold it
pub item_at-above : {A : Type 0} (n : ℕ) (x : ℕ × A) (xs : List (ℕ × A)) → AllRows (λ y. key_lt (first x) (first y) ≡ true) xs → eqb x.0 n ≡ true → item_at n xs ≡ None
item_at-above n x [] rows same = refl
item_at-above n x (y ∷ ys) rows same =
    elim (cases_Bool (eqb y.0 n)) [
      | inr other ↦ rw other (item_at-above n x ys rows.1 same)
      | inl too ↦ let a : x.0 ≡ n = eqb-true x.0 n same in let b : y.0 ≡ n = eqb-true y.0 n too in absurd (elim (lt_means (first x) (first y) rows.0) [ inl less ↦ omega (arith, a, b, less) | inr later ↦ let l = later.1 in omega (arith, l) ])
    ]

-- what a number's row holds after a row went
pub item_at-drop : {A : Type 0} (n m : ℕ) (xs : List (ℕ × A)) → Ascends first xs → item_at n (drop_row first (m, 0) xs) ≡ cond (eqb m n) None (item_at n xs)
item_at-drop n m [] s = elim (cases_Bool (eqb m n)) [ inl same ↦ rw same refl | inr other ↦ rw other refl ]
item_at-drop n m (x ∷ xs) s =
    elim (cases_Bool (eqb x.0 m)) [
      | inl gone ↦ elim (cases_Bool (eqb m n)) [
        | inl same ↦ let e : x.0 ≡ m = eqb-true x.0 m gone in rw (gone, same) (item_at-above n x xs s.0 (ap (λ k. eqb k n) e ∙ same))
        | inr other ↦ let e : x.0 ≡ m = eqb-true x.0 m gone in let away : eqb x.0 n ≡ false = ap (λ k. eqb k n) e ∙ other in rw (gone, other, away) refl
      ]
      | inr stays ↦ elim (cases_Bool (eqb x.0 n)) [
        | inl here ↦
            let e : x.0 ≡ n = eqb-true x.0 n here in
            let other : eqb m n ≡ false = elim (cases_Bool (eqb m n)) [ inl same ↦ absurd (both_ways _ stays (eq-eqb x.0 m (e ∙ sym (eqb-true m n same)))) | inr fine ↦ fine ] in
            rw (stays, here, other) refl
        | inr away ↦ rw (stays, away) (item_at-drop n m xs s.1)
      ]
    ]

-- ---- changes
pub ascends-change : {A : Type 0} (n : ℕ) (o : Option A) (xs : List (ℕ × A)) → Ascends first xs → Ascends first (change_row n o xs)
ascends-change n None xs s = ascends_drop first (n, 0) xs s
ascends-change n (Some x) xs s = ascends_put first (n, x) xs s

pub ascends-changed : {A : Type 0} (cs : List (ℕ × Option A)) (xs : List (ℕ × A)) → Ascends first xs → Ascends first (changed cs xs)
ascends-changed [] xs s = s
ascends-changed (c ∷ cs) xs s = ascends-changed cs (change_row c.0 c.1 xs) (ascends-change c.0 c.1 xs s)

item_at-change : {A : Type 0} (n m : ℕ) (o : Option A) (xs : List (ℕ × A)) → Ascends first xs → item_at n (change_row m o xs) ≡ cond (eqb m n) o (item_at n xs)
item_at-change n m None xs s = item_at-drop n m xs s
item_at-change n m (Some x) xs s = item_at-put n (m, x) xs

-- what a number's row holds after changes: what they say, or else what it held
pub item_at-changed : {A : Type 0} (n : ℕ) (cs : List (ℕ × Option A)) (xs : List (ℕ × A)) → Ascends first cs → Ascends first xs → item_at n (changed cs xs) ≡ item_after (item_at n cs) (item_at n xs)
item_at-changed n [] xs sc sx = refl
item_at-changed n (c ∷ cs) xs sc sx =
    item_at-changed n cs (change_row c.0 c.1 xs) sc.1 (ascends-change c.0 c.1 xs sx)
    ∙ ap (item_after (item_at n cs)) (item_at-change n c.0 c.1 xs sx)
    ∙ elim (cases_Bool (eqb c.0 n)) [
      | inl here ↦ rw (here, item_at-above n c cs sc.0 here) refl
      | inr away ↦ rw away refl
    ]
