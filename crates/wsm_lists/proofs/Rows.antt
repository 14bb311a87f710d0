-- The place of a key among rows that ascend.
use Rattle.wsm_lists.proofs.Common.{[], ℕ, ◌&&◌, ◌+◌, ◌-◌, ◌<◌, ◌==◌, ◌∙◌, ◌∷◌, ◌≡◌, ◌≢◌, ◌≤◌, ◌⊎◌, AllRows, and_parts, ap, arith, Ascends, Bool, both_ways, cases_Bool, cases_order, cond, drop, drop_row, eq-eqb, eqb, eqb-true, Err, false}
use Rattle.wsm_lists.proofs.Common.{filter, get_or, inl, inr, insert, is_row_at, is_some, key_eq, key_lt, le-ltb, leb, leb-false, leb-true, length, List, lt-ltb, ltb, ltb-false, ltb-true, ne_eqb, None, Ok, OnErr, OnOk, Option, or_cases}
use Rattle.wsm_lists.proofs.Common.{put_row, refl, remove, Result, row_at, rows_below, set, slice_get, slice_range, Some, suc, sym, take, true, zero}
use Rattle.std.specs.List.Sorted.{IsPartitionedBy, IsPartitionPoint}

-- the order of keys, by numbers
pub lt_means : (a b : ℕ × ℕ) → key_lt a b ≡ true → (a.0 < b.0) ⊎ ((a.0 ≡ b.0) × (a.1 < b.1))
lt_means a b e =
    elim (or_cases (ltb a.0 b.0) (eqb a.0 b.0 && ltb a.1 b.1) e) [
      | inl h ↦ inl (ltb-true _ _ h)
      | inr h ↦ let p = and_parts (eqb a.0 b.0) (ltb a.1 b.1) h in inr (eqb-true _ _ p.0, ltb-true _ _ p.1)
    ]

pub lt_from : (a b : ℕ × ℕ) → (a.0 < b.0) ⊎ ((a.0 ≡ b.0) × (a.1 < b.1)) → key_lt a b ≡ true
lt_from a b (inl h) = rw (lt-ltb a.0 b.0 h) refl
lt_from a b (inr h) = rw (le-ltb a.0 b.0 (omega arith), eq-eqb a.0 b.0 h.0, lt-ltb a.1 b.1 h.1) refl

pub not_lt_means : (a b : ℕ × ℕ) → key_lt a b ≡ false → (b.0 < a.0) ⊎ ((a.0 ≡ b.0) × (b.1 ≤ a.1))
not_lt_means a b e =
    elim (cases_order a.0 b.0) [
      | inl same ↦ inr (same, let q : key_lt a b ≡ ltb a.1 b.1 = rw (le-ltb a.0 b.0 (omega arith), eq-eqb a.0 b.0 same) refl in ltb-false _ _ (sym q ∙ e))
      | inr (inl less) ↦ absurd (both_ways _ e (lt_from a b (inl less)))
      | inr (inr more) ↦ inl more
    ]

pub eq_means : (a b : ℕ × ℕ) → key_eq a b ≡ true → (a.0 ≡ b.0) × (a.1 ≡ b.1)
eq_means a b e = let p = and_parts (eqb a.0 b.0) (eqb a.1 b.1) e in (eqb-true _ _ p.0, eqb-true _ _ p.1)

pub eq_from : (a b : ℕ × ℕ) → (a.0 ≡ b.0) → (a.1 ≡ b.1) → key_eq a b ≡ true
eq_from a b p q = rw (eq-eqb a.0 b.0 p, eq-eqb a.1 b.1 q) refl

pub lt_not_eq : (a b : ℕ × ℕ) → key_lt a b ≡ true → key_eq a b ≡ false
lt_not_eq a b e =
    elim (cases_Bool (key_eq a b)) [
      | inl same ↦ let s = eq_means a b same in absurd (elim (lt_means a b e) [ inl h ↦ omega arith | inr h ↦ omega arith ])
      | inr other ↦ other
    ]

pub lt_trans : (a b c : ℕ × ℕ) → key_lt a b ≡ true → key_lt b c ≡ true → key_lt a c ≡ true
lt_trans a b c p q =
    lt_from a c (elim (lt_means a b p) [
      | inl x ↦ elim (lt_means b c q) [ inl y ↦ inl (omega arith) | inr y ↦ inl (omega arith) ]
      | inr x ↦ elim (lt_means b c q) [ inl y ↦ inl (omega arith) | inr y ↦ inr (omega arith, omega arith) ]
    ])

pub lt_other : (a b : ℕ × ℕ) → key_lt a b ≡ false → key_eq a b ≡ false → key_lt b a ≡ true
lt_other a b p q =
    lt_from b a (elim (not_lt_means a b p) [
      | inl x ↦ inl x
      | inr x ↦ elim (cases_order a.1 b.1) [
        | inl same ↦ absurd (both_ways _ q (eq_from a b x.0 same))
        | inr (inl less) ↦ absurd (omega arith)
        | inr (inr more) ↦ inr (sym x.0, more)
      ]
    ])

module _ {X : Type 0} (key : X → ℕ × ℕ) where
  pub rows_below_le : (k : ℕ × ℕ) (xs : List X) → rows_below key k xs ≤ length xs
  rows_below_le k [] = omega arith
  rows_below_le k (x ∷ xs) =
      elim (key_lt (key x) k) as (λ b. cond b (suc (rows_below key k xs)) 0 ≤ suc (length xs)) [
        | true ↦ omega (arith, rows_below_le k xs)
        | false ↦ omega arith
      ]

  -- where all keys are above k, there is no row with it
  none_above : (k : ℕ × ℕ) (xs : List X) → AllRows (λ y. key_lt k (key y) ≡ true) xs → row_at key k xs ≡ None
  none_above k [] h = refl
  none_above k (x ∷ xs) h = rw (key_eq_off (key x) k h.0) (none_above k xs h.1)
    where
      key_eq_off : (a b : ℕ × ℕ) → key_lt b a ≡ true → key_eq a b ≡ false
      key_eq_off a b e =
          elim (cases_Bool (key_eq a b)) [
            | inl same ↦ let s = eq_means a b same in absurd (elim (lt_means b a e) [ inl h ↦ omega arith | inr h ↦ omega arith ])
            | inr other ↦ other
          ]

  above_all : (k : ℕ × ℕ) (x : X) (xs : List X) → key_lt k (key x) ≡ true → AllRows (λ y. key_lt (key x) (key y) ≡ true) xs → AllRows (λ y. key_lt k (key y) ≡ true) xs
  above_all k x [] p h = tt
  above_all k x (y ∷ ys) p h = (lt_trans k (key x) (key y) p h.0, above_all k x ys p h.1)

  pub row_is_there : (k : ℕ × ℕ) (xs : List X) → Ascends key xs → is_row_at key k (slice_get xs (rows_below key k xs)) ≡ is_some (row_at key k xs)
  row_is_there k [] s = refl
  row_is_there k (x ∷ xs) s =
      elim (cases_Bool (key_lt (key x) k)) [
        | inl below ↦ rw (below, lt_not_eq (key x) k below) (row_is_there k xs s.1)
        | inr not_below ↦ elim (cases_Bool (key_eq (key x) k)) [
          | inl same ↦ rw (not_below, same) refl
          | inr other ↦ let up = lt_other (key x) k not_below other in rw (not_below, other, none_above k xs (above_all k x xs up s.0)) refl
        ]
      ]

  pub put_is_insert : (x : X) (xs : List X) → is_row_at key (key x) (slice_get xs (rows_below key (key x) xs)) ≡ false → put_row key x xs ≡ insert xs (rows_below key (key x) xs) x
  put_is_insert x [] e = refl
  put_is_insert x (y ∷ ys) e =
      elim (cases_Bool (key_lt (key y) (key x))) [
        | inl below ↦ rw below (ap (λ z. y ∷ z) (put_is_insert x ys (rw below at e)))
        | inr not_below ↦ let other : key_eq (key y) (key x) ≡ false = rw not_below at e in rw (not_below, other) refl
      ]

  put_above : (k : ℕ × ℕ) (x : X) (xs : List X) → key_lt k (key x) ≡ true → AllRows (λ y. key_lt k (key y) ≡ true) xs → AllRows (λ y. key_lt k (key y) ≡ true) (put_row key x xs)
  put_above k x [] p h = (p, tt)
  put_above k x (y ∷ ys) p h =
      elim (cases_Bool (key_lt (key y) (key x))) [
        | inl below ↦ rw below (h.0, put_above k x ys p h.1)
        | inr not_below ↦ elim (cases_Bool (key_eq (key y) (key x))) [
          | inl same ↦ rw (not_below, same) (p, h.1)
          | inr other ↦ rw (not_below, other) (p, h)
        ]
      ]

  same_above : (a b : ℕ × ℕ) (xs : List X) → key_eq a b ≡ true → AllRows (λ y. key_lt a (key y) ≡ true) xs → AllRows (λ y. key_lt b (key y) ≡ true) xs
  same_above a b [] e h = tt
  same_above a b (y ∷ ys) e h = (lt_from b (key y) (let s = eq_means a b e in elim (lt_means a (key y) h.0) [ inl q ↦ inl (omega arith) | inr q ↦ inr (omega arith, omega arith) ]), same_above a b ys e h.1)

  pub ascends_put : (x : X) (xs : List X) → Ascends key xs → Ascends key (put_row key x xs)
  ascends_put x [] s = (tt, tt)
  ascends_put x (y ∷ ys) s =
      elim (cases_Bool (key_lt (key y) (key x))) [
        | inl below ↦ rw below (put_above (key y) x ys below s.0, ascends_put x ys s.1)
        | inr not_below ↦ elim (cases_Bool (key_eq (key y) (key x))) [
          | inl same ↦ rw (not_below, same) (same_above (key y) (key x) ys same s.0, s.1)
          | inr other ↦ let up = lt_other (key y) (key x) not_below other in rw (not_below, other) ((up, above_all (key x) y ys up s.0), s)
        ]
      ]

  pub insert_where_absent : (x : X) (xs : List X) → Ascends key xs → is_some (row_at key (key x) xs) ≡ false → put_row key x xs ≡ insert xs (rows_below key (key x) xs) x
  insert_where_absent x xs s e = put_is_insert x xs (row_is_there (key x) xs s ∙ e)

  -- a key that is there stands at its place
  at_place : (k : ℕ × ℕ) (xs : List X) → Ascends key xs → is_some (row_at key k xs) ≡ true → is_row_at key k (slice_get xs (rows_below key k xs)) ≡ true
  at_place k xs s e = row_is_there k xs s ∙ e

  pub place_within : (k : ℕ × ℕ) (xs : List X) → Ascends key xs → is_some (row_at key k xs) ≡ true → rows_below key k xs < length xs
  place_within k xs s e = go xs (at_place k xs s e)
    where
      go : (xs : List X) → is_row_at key k (slice_get xs (rows_below key k xs)) ≡ true → rows_below key k xs < length xs
      go [] h = absurd (both_ways _ refl h)
      go (x ∷ xs) h =
          elim (cases_Bool (key_lt (key x) k)) [
            | inl below ↦ rw below (omega (arith, go xs (rw below at h)))
            | inr not_below ↦ rw not_below (omega arith)
          ]

  pub set_where_there : (x : X) (xs : List X) → Ascends key xs → is_some (row_at key (key x) xs) ≡ true → put_row key x xs ≡ set xs (rows_below key (key x) xs) x
  set_where_there x xs s e = go xs (at_place (key x) xs s e)
    where
      go : (ys : List X) → is_row_at key (key x) (slice_get ys (rows_below key (key x) ys)) ≡ true → put_row key x ys ≡ set ys (rows_below key (key x) ys) x
      go [] h = absurd (both_ways _ refl h)
      go (y ∷ ys) h =
          elim (cases_Bool (key_lt (key y) (key x))) [
            | inl below ↦ rw below (ap (λ z. y ∷ z) (go ys (rw below at h)))
            | inr not_below ↦ let same : key_eq (key y) (key x) ≡ true = rw not_below at h in rw (not_below, same) refl
          ]

  pub remove_where_there : (k : ℕ × ℕ) (xs : List X) → Ascends key xs → is_some (row_at key k xs) ≡ true → drop_row key k xs ≡ remove xs (rows_below key k xs)
  remove_where_there k xs s e = go xs (at_place k xs s e)
    where
      go : (ys : List X) → is_row_at key k (slice_get ys (rows_below key k ys)) ≡ true → drop_row key k ys ≡ remove ys (rows_below key k ys)
      go [] h = absurd (both_ways _ refl h)
      go (y ∷ ys) h =
          elim (cases_Bool (key_lt (key y) k)) [
            | inl below ↦ rw (below, lt_not_eq (key y) k below) (ap (λ z. y ∷ z) (go ys (rw below at h)))
            | inr not_below ↦ let same : key_eq (key y) k ≡ true = rw not_below at h in rw (not_below, same) refl
          ]

  pub drop_where_absent : (k : ℕ × ℕ) (xs : List X) → is_some (row_at key k xs) ≡ false → drop_row key k xs ≡ xs
  drop_where_absent k [] e = refl
  drop_where_absent k (x ∷ xs) e =
      elim (cases_Bool (key_eq (key x) k)) [
        | inl same ↦ absurd (both_ways _ (rw same at e) refl)
        | inr other ↦ rw other (ap (λ z. x ∷ z) (drop_where_absent k xs (rw other at e)))
      ]

  pub all_put : (P : X → Type 0) (x : X) (xs : List X) → P x → AllRows P xs → AllRows P (put_row key x xs)
  all_put P x [] p h = (p, tt)
  all_put P x (y ∷ ys) p h =
      elim (cases_Bool (key_lt (key y) (key x))) [
        | inl below ↦ rw below (h.0, all_put P x ys p h.1)
        | inr not_below ↦ elim (cases_Bool (key_eq (key y) (key x))) [
          | inl same ↦ rw (not_below, same) (p, h.1)
          | inr other ↦ rw (not_below, other) (p, h)
        ]
      ]

  pub all_drop : (P : X → Type 0) (k : ℕ × ℕ) (xs : List X) → AllRows P xs → AllRows P (drop_row key k xs)
  all_drop P k [] h = tt
  all_drop P k (x ∷ xs) h =
      elim (cases_Bool (key_eq (key x) k)) [
        | inl same ↦ rw same h.1
        | inr other ↦ rw other (h.0, all_drop P k xs h.1)
      ]

  pub ascends_drop : (k : ℕ × ℕ) (xs : List X) → Ascends key xs → Ascends key (drop_row key k xs)
  ascends_drop k [] s = tt
  ascends_drop k (x ∷ xs) s =
      elim (cases_Bool (key_eq (key x) k)) [
        | inl same ↦ rw same s.1
        | inr other ↦ rw other (all_drop (λ y. key_lt (key x) (key y) ≡ true) k xs s.0, ascends_drop k xs s.1)
      ]

  -- the keys of rows that ascend, below k, stand at the front
  pub ascends-partitioned : (k : ℕ × ℕ) (xs : List X) → Ascends key xs → IsPartitionedBy (λ x. key_lt (key x) k) xs
  ascends-partitioned k [] s i j d le lt h = absurd (omega (arith, lt))
  ascends-partitioned k (x ∷ xs) s zero zero d le lt h = h
  ascends-partitioned k (x ∷ xs) s zero (suc j) d le lt h = lt_trans (key x) (key (get_or xs j d)) k (row_of xs j s.0 (omega (arith, lt))) h
    where
      row_of : (ys : List X) (n : ℕ) → AllRows (λ y. key_lt (key x) (key y) ≡ true) ys → n < length ys → key_lt (key x) (key (get_or ys n d)) ≡ true
      row_of [] n a l = absurd (omega (arith, l))
      row_of (y ∷ ys) zero a l = a.0
      row_of (y ∷ ys) (suc n) a l = row_of ys n a.1 (omega (arith, l))
  ascends-partitioned k (x ∷ xs) s (suc i) zero d le lt h = absurd (omega (arith, le))
  ascends-partitioned k (x ∷ xs) s (suc i) (suc j) d le lt h = ascends-partitioned k xs s.1 i j d (omega (arith, le)) (omega (arith, lt)) h

  -- where the rows below k end, there are so many of them
  pub rows_below-point : (k : ℕ × ℕ) (xs : List X) (n : ℕ) → n ≤ length xs → IsPartitionPoint (λ x. key_lt (key x) k ≡ true) (λ x. key_lt (key x) k ≡ false) xs n → n ≡ rows_below key k xs
  rows_below-point k [] n le p = omega (arith, le)
  rows_below-point k (x ∷ xs) zero le p = rw (p.1 0 x (omega arith) (omega arith)) refl
  rows_below-point k (x ∷ xs) (suc n) le p =
      rw (p.0 0 x (omega arith) (omega arith))
      (ap suc (rows_below-point k xs n (omega (arith, le)) ((λ i d a b. p.0 (suc i) d (omega arith) (omega (arith, b))), (λ i d a b. p.1 (suc i) d (omega (arith, a)) (omega (arith, b))))))

  -- the row at the place of its key
  pub row_at-found : (k : ℕ × ℕ) (xs : List X) (n : ℕ) (x : X) → n ≡ rows_below key k xs → slice_get xs n ≡ Some x → key_eq (key x) k ≡ true → row_at key k xs ≡ Some x
  row_at-found k xs n x place there same = go xs (rw (sym place) there)
    where
      go : (ys : List X) → slice_get ys (rows_below key k ys) ≡ Some x → row_at key k ys ≡ Some x
      go [] e = e
      go (y ∷ ys) e =
          elim (cases_Bool (key_lt (key y) k)) [
            | inl below ↦ rw (lt_not_eq (key y) k below) (go ys (rw below at e))
            | inr not_below ↦
                let front : Some y ≡ Some x = rw not_below at e in
                let y_is_x : y ≡ x = cc in
                rw (y_is_x, same) refl
          ]

  -- a row behind the first one has a greater key
  behind-first : (y x : X) (zs : List X) (m : ℕ) → AllRows (λ z. key_lt (key y) (key z) ≡ true) zs → slice_get zs m ≡ Some x → key_lt (key y) (key x) ≡ true
  behind-first y x [] m all is = cc
  behind-first y x (z ∷ zs) zero all is = let same : z ≡ x = cc in rw (sym same) all.0
  behind-first y x (z ∷ zs) (suc m) all is = behind-first y x zs m all.1 is

  -- a row stands where those with keys below its own end
  pub row-place : (xs : List X) (n : ℕ) (x : X) → Ascends key xs → slice_get xs n ≡ Some x → n ≡ rows_below key (key x) xs
  row-place [] n x s there = cc
  row-place (y ∷ ys) zero x s there =
      let same : y ≡ x = cc in
      rw (same, lt_self (key x)) refl
    where
      lt_self : (k : ℕ × ℕ) → key_lt k k ≡ false
      lt_self k =
          elim (cases_Bool (key_lt k k)) [
            | inl below ↦ absurd (elim (lt_means k k below) [ inl h ↦ omega arith | inr h ↦ omega arith ])
            | inr not_below ↦ not_below
          ]
  row-place (y ∷ ys) (suc n) x s there = rw (behind-first y x ys n s.0 there) (ap suc (row-place ys n x s.1 there))

  -- all rows are below a key that the last one is below
  below-last : (k : ℕ × ℕ) (xs : List X) (n : ℕ) (x : X) → Ascends key xs → slice_get xs n ≡ Some x → length xs ≡ n + 1 → key_lt (key x) k ≡ true → rows_below key k xs ≡ length xs
  below-last k [] n x s there many lt = refl
  below-last k (y ∷ []) zero x s there many lt = let same : y ≡ x = cc in rw (same, lt) refl
  below-last k (y ∷ z ∷ zs) zero x s there many lt = absurd (omega (arith, many))
  below-last k (y ∷ ys) (suc n) x s there many lt =
      rw (lt_trans (key y) (key x) k (behind-first y x ys n s.0 there) lt) (ap suc (below-last k ys n x s.1 there (omega (arith, many)) lt))

  pub ends-below : (k : ℕ × ℕ) (xs : List X) (x : X) → Ascends key xs → slice_get xs (length xs - 1) ≡ Some x → key_lt (key x) k ≡ true → rows_below key k xs ≡ length xs
  ends-below k [] x s there lt = refl
  ends-below k (y ∷ ys) x s there lt = below-last k (y ∷ ys) (length (y ∷ ys) - 1) x s there (omega arith) lt

  -- where there is no row at that place, or one with another key, no row has this one
  pub row_at-absent : (k : ℕ × ℕ) (xs : List X) (n : ℕ) → n ≡ rows_below key k xs → Ascends key xs → is_row_at key k (slice_get xs n) ≡ false → row_at key k xs ≡ None
  row_at-absent k xs n place s e = none_of (row_at key k xs) (sym (row_is_there k xs s) ∙ rw (sym place) e)
    where
      none_of : (o : Option X) → is_some o ≡ false → o ≡ None
      none_of None h = refl
      none_of (Some x) h = absurd (both_ways _ h refl)

  at_least : (a : ℕ × ℕ) (n : ℕ) → n ≤ a.0 → key_lt a (n, 0) ≡ false
  at_least a n le =
      elim (cases_Bool (key_lt a (n, 0))) [
        | inl below ↦ absurd (elim (lt_means a (n, 0) below) [ inl less ↦ omega (arith, less, le) | inr same ↦ let none = same.1 in omega (arith, none) ])
        | inr not_below ↦ not_below
      ]

  sub_zero : (xs : List X) (n : ℕ) → slice_range xs 0 n ≡ take n xs
  sub_zero xs n = ap (λ m. take m xs) (omega arith)

  -- where the first key is not below k, no later key is
  none_below : (k : ℕ × ℕ) (x : X) (xs : List X) → key_lt (key x) k ≡ false → AllRows (λ y. key_lt (key x) (key y) ≡ true) xs → rows_below key k xs ≡ 0
  none_below k x [] e h = refl
  none_below k x (y ∷ ys) e h =
      elim (cases_Bool (key_lt (key y) k)) [
        | inl below ↦ absurd (both_ways _ e (lt_trans (key x) (key y) k h.0 below))
        | inr not_below ↦ rw not_below refl
      ]

  none_begin : (n : ℕ) (x : X) (xs : List X) → n < (key x).0 → AllRows (λ y. key_lt (key x) (key y) ≡ true) xs → filter (λ y. (key y).0 == n) xs ≡ []
  none_begin n x [] e h = refl
  none_begin n x (y ∷ ys) e h = rw (ne_eqb (key y).0 n (beyond (lt_means (key x) (key y) h.0))) (none_begin n x ys e h.1)
    where
      beyond : ((key x).0 < (key y).0) ⊎ (((key x).0 ≡ (key y).0) × ((key x).1 < (key y).1)) → (key y).0 ≢ n
      beyond (inl up) same = omega (arith, e, up, same)
      beyond (inr up) same = omega (arith, e, up.0, same)

  -- a key is below (n + 1, 0) where it begins with n or a smaller number
  pub lt_next : (a : ℕ × ℕ) (n : ℕ) → key_lt a (n + 1, 0) ≡ leb a.0 n
  lt_next a n =
      elim (cases_Bool (leb a.0 n)) [
        | inl low ↦ rw low (lt_from a (n + 1, 0) (inl (let le = leb-true _ _ low in omega (arith, le))))
        | inr high ↦ rw high (not_true (key_lt a (n + 1, 0)) (λ up. elim (lt_means a (n + 1, 0) up) [
          | inl less ↦ let gt = leb-false _ _ high in omega (arith, less, gt)
          | inr same ↦ let none = same.1 in omega (arith, none)
        ]))
      ]
    where
      not_true : (b : Bool) → (b ≡ true → ⊥) → b ≡ false
      not_true true h = absurd (h refl)
      not_true false h = refl

  pub rows_below-next : (n : ℕ) (xs : List X) → rows_below key (n, 0) xs ≤ rows_below key (n + 1, 0) xs
  rows_below-next n [] = omega arith
  rows_below-next n (x ∷ xs) =
      elim (cases_Bool (key_lt (key x) (n, 0))) [
        | inl below ↦ rw (below, lt_trans (key x) (n, 0) (n + 1, 0) below (lt_from (n, 0) (n + 1, 0) (inl (omega arith)))) (let later = rows_below-next n xs in omega (arith, later))
        | inr not_below ↦ rw not_below (omega arith)
      ]

  -- the rows whose keys begin with n are one run
  pub filter-run : (n : ℕ) (xs : List X) → Ascends key xs →
      filter (λ x. (key x).0 == n) xs ≡ slice_range xs (rows_below key (n, 0) xs) (rows_below key (n + 1, 0) xs)
  filter-run n [] s = refl
  filter-run n (x ∷ xs) s = by_order (cases_order (key x).0 n) (filter-run n xs s.1)
    where
      at_place : (a b : ℕ) → slice_range (x ∷ xs) (suc a) (suc b) ≡ slice_range xs a b
      at_place a b = ap (λ m. take m (drop a xs)) (omega arith)

      by_order : ((key x).0 ≡ n) ⊎ (((key x).0 < n) ⊎ (n < (key x).0)) → filter (λ y. (key y).0 == n) xs ≡ slice_range xs (rows_below key (n, 0) xs) (rows_below key (n + 1, 0) xs) → filter (λ y. (key y).0 == n) (x ∷ xs) ≡ slice_range (x ∷ xs) (rows_below key (n, 0) (x ∷ xs)) (rows_below key (n + 1, 0) (x ∷ xs))
      by_order (inl same) ih =
          let here : key_lt (key x) (n, 0) ≡ false = at_least (key x) n (omega (arith, same)) in
          let within : key_lt (key x) (n + 1, 0) ≡ true = lt_from (key x) (n + 1, 0) (inl (omega (arith, same))) in
          let later = none_below (n, 0) x xs here s.0 in
          rw (here, within, eq-eqb (key x).0 n same) (ap (λ ys. x ∷ ys) (ih ∙ rw later (sub_zero xs (rows_below key (n + 1, 0) xs))) ∙ sym (sub_zero (x ∷ xs) (suc (rows_below key (n + 1, 0) xs))))
      by_order (inr (inl less)) ih =
          let below : key_lt (key x) (n, 0) ≡ true = lt_from (key x) (n, 0) (inl less) in
          let within : key_lt (key x) (n + 1, 0) ≡ true = lt_from (key x) (n + 1, 0) (inl (omega (arith, less))) in
          rw (below, within, ne_eqb (key x).0 n (λ same. omega (arith, less, same))) (ih ∙ sym (at_place (rows_below key (n, 0) xs) (rows_below key (n + 1, 0) xs)))
      by_order (inr (inr more)) ih =
          let here : key_lt (key x) (n, 0) ≡ false = at_least (key x) n (omega (arith, more)) in
          let past : key_lt (key x) (n + 1, 0) ≡ false = at_least (key x) (n + 1) (omega (arith, more)) in
          rw (here, past, ne_eqb (key x).0 n (λ same. omega (arith, more, same))) (none_begin n x xs more s.0)

-- rows after a set that may fail, which then leaves them as they were
pub all_set : {X A E : Type 0} (key : X → ℕ × ℕ) (P : X → Type 0) (row : X) (old new : List X) (r : Result A E) → P row → AllRows P old →
    OnOk r (new ≡ put_row key row old) → OnErr r (new ≡ old) → AllRows P new
all_set key P row old new (Ok x) fits all ok err = rw ok (all_put key P row old fits all)
all_set key P row old new (Err e) fits all ok err = rw err all
