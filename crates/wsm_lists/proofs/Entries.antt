-- Entries of a map by pairs, and rows in the order of their keys.
use Rattle.wsm_lists.proofs.Common.{[], ℕ, ◌∙◌, ◌∷◌, ◌≡◌, ap, arith, cases_Bool, cases_order, drop_row, eq-eqb, inl, inr, insert_entry, is_at, key_eq, key_lt, Keyed, le-ltb, List, lt-ltb, ne_eqb, Ordering, put_row, refl, row_at, rows_of}
use Rattle.wsm_lists.proofs.{Common.{subst, sym}, Rows.eq_means}
use Rattle.std.specs.{Prelude.if◌then◌else◌, Ordering.{nat_cmp, ordering_then, is_eq, match_ordering}, Map.{lookup, remove_entry}}

abbrev pub pair_cmp : ℕ × ℕ → ℕ × ℕ → Ordering
pair_cmp a b = ordering_then (nat_cmp a.0 b.0) (nat_cmp a.1 b.1)

-- the order of pairs by the tests of keys
chosen : {X : Type 0} (k y : ℕ × ℕ) (a b c : X) → match_ordering (pair_cmp k y) a b c ≡ (if key_lt y k then c else (if key_eq y k then b else a))
chosen k y a b c =
    elim (cases_order k.0 y.0) [
      | inl same ↦ elim (cases_order k.1 y.1) [
        | inl same' ↦ rw (le-ltb k.0 y.0 (omega (arith, same)), eq-eqb k.0 y.0 same, le-ltb k.1 y.1 (omega (arith, same')), eq-eqb k.1 y.1 same', le-ltb y.0 k.0 (omega (arith, same)), eq-eqb y.0 k.0 (sym same), le-ltb y.1 k.1 (omega (arith, same')), eq-eqb y.1 k.1 (sym same')) refl
        | inr (inl less) ↦ rw (le-ltb k.0 y.0 (omega (arith, same)), eq-eqb k.0 y.0 same, lt-ltb k.1 y.1 less, le-ltb y.0 k.0 (omega (arith, same)), eq-eqb y.0 k.0 (sym same), le-ltb y.1 k.1 (omega (arith, less)), ne_eqb y.1 k.1 (omega (arith, less))) refl
        | inr (inr more) ↦ rw (le-ltb k.0 y.0 (omega (arith, same)), eq-eqb k.0 y.0 same, le-ltb k.1 y.1 (omega (arith, more)), ne_eqb k.1 y.1 (omega (arith, more)), le-ltb y.0 k.0 (omega (arith, same)), eq-eqb y.0 k.0 (sym same), lt-ltb y.1 k.1 more) refl
      ]
      | inr (inl less) ↦ rw (lt-ltb k.0 y.0 less, le-ltb y.0 k.0 (omega (arith, less)), ne_eqb y.0 k.0 (omega (arith, less))) refl
      | inr (inr more) ↦ rw (le-ltb k.0 y.0 (omega (arith, more)), ne_eqb k.0 y.0 (omega (arith, more)), lt-ltb y.0 k.0 more) refl
    ]

equal-key : (k y : ℕ × ℕ) → is_eq (pair_cmp k y) ≡ key_eq y k
equal-key k y =
    elim (cases_order k.0 y.0) [
      | inl same ↦ elim (cases_order k.1 y.1) [
        | inl same' ↦ rw (le-ltb k.0 y.0 (omega (arith, same)), eq-eqb k.0 y.0 same, le-ltb k.1 y.1 (omega (arith, same')), eq-eqb k.1 y.1 same', eq-eqb y.0 k.0 (sym same), eq-eqb y.1 k.1 (sym same')) refl
        | inr (inl less) ↦ rw (le-ltb k.0 y.0 (omega (arith, same)), eq-eqb k.0 y.0 same, lt-ltb k.1 y.1 less, eq-eqb y.0 k.0 (sym same), ne_eqb y.1 k.1 (omega (arith, less))) refl
        | inr (inr more) ↦ rw (le-ltb k.0 y.0 (omega (arith, same)), eq-eqb k.0 y.0 same, le-ltb k.1 y.1 (omega (arith, more)), ne_eqb k.1 y.1 (omega (arith, more)), eq-eqb y.0 k.0 (sym same), ne_eqb y.1 k.1 (omega (arith, more))) refl
      ]
      | inr (inl less) ↦ rw (lt-ltb k.0 y.0 less, ne_eqb y.0 k.0 (omega (arith, less))) refl
      | inr (inr more) ↦ rw (le-ltb k.0 y.0 (omega (arith, more)), ne_eqb k.0 y.0 (omega (arith, more)), ne_eqb y.0 k.0 (omega (arith, more))) refl
    ]

module _ {X : Type 0} (key : X → ℕ × ℕ) where
  -- what a key finds
  pub found-row : (k : ℕ × ℕ) (es : List ((ℕ × ℕ) × X)) → Keyed key es → lookup (is_at (pair_cmp k)) es ≡ row_at key k (rows_of es)
  found-row k [] h = refl
  found-row k (e ∷ es) h =
      let test : is_eq (pair_cmp k e.0) ≡ key_eq (key e.1) k = equal-key k e.0 ∙ ap (λ y. key_eq y k) h.0 in
      elim (cases_Bool (key_eq (key e.1) k)) [
        | inl here ↦ rw (test, here) refl
        | inr other ↦ rw (test, other) (found-row k es h.1)
      ]

  -- a new entry is a row at its place
  pub put-entry : (x : X) (es : List ((ℕ × ℕ) × X)) → Keyed key es → rows_of (insert_entry pair_cmp es (key x) x) ≡ put_row key x (rows_of es)
  put-entry x [] h = refl
  put-entry x (e ∷ es) h =
      let k : ℕ × ℕ = key x in
      let first : rows_of (insert_entry pair_cmp (e ∷ es) k x) ≡ rows_of (if key_lt e.0 k then (e ∷ insert_entry pair_cmp es k x) else (if key_eq e.0 k then ((e.0, x) ∷ es) else ((k, x) ∷ e ∷ es))) =
      ap rows_of (chosen k e.0 ((k, x) ∷ e ∷ es) ((e.0, x) ∷ es) (e ∷ insert_entry pair_cmp es k x)) in
      first ∙ elim (cases_Bool (key_lt (key e.1) k)) [
        | inl below ↦ rw (h.0, below) (ap (λ ys. e.1 ∷ ys) (put-entry x es h.1))
        | inr up ↦ elim (cases_Bool (key_eq (key e.1) k)) [
          | inl same ↦ rw (h.0, up, same) refl
          | inr other ↦ rw (h.0, up, other) refl
        ]
      ]

  pub keyed-entry : (x : X) (es : List ((ℕ × ℕ) × X)) → Keyed key es → Keyed key (insert_entry pair_cmp es (key x) x)
  keyed-entry x [] h = (refl, tt)
  keyed-entry x (e ∷ es) h =
      let k : ℕ × ℕ = key x in
      subst (Keyed key) (sym (chosen k e.0 ((k, x) ∷ e ∷ es) ((e.0, x) ∷ es) (e ∷ insert_entry pair_cmp es k x)))
      (elim (cases_Bool (key_lt e.0 k)) [
        | inl below ↦ rw below (h.0, keyed-entry x es h.1)
        | inr up ↦ elim (cases_Bool (key_eq e.0 k)) [
          | inl same ↦ rw (up, same) (let parts = eq_means e.0 k same in (ap (λ (n : ℕ). (n, e.0.1)) parts.0 ∙ ap (λ (n : ℕ). (k.0, n)) parts.1, h.1))
          | inr other ↦ rw (up, other) (refl, h)
        ]
      ])

  -- an entry less is a row less
  pub removed-entry : (k : ℕ × ℕ) (es : List ((ℕ × ℕ) × X)) → Keyed key es → rows_of (remove_entry (is_at (pair_cmp k)) es) ≡ drop_row key k (rows_of es)
  removed-entry k [] h = refl
  removed-entry k (e ∷ es) h =
      let test : is_eq (pair_cmp k e.0) ≡ key_eq (key e.1) k = equal-key k e.0 ∙ ap (λ y. key_eq y k) h.0 in
      elim (cases_Bool (key_eq (key e.1) k)) [
        | inl here ↦ rw (test, here) refl
        | inr other ↦ rw (test, other) (ap (λ ys. e.1 ∷ ys) (removed-entry k es h.1))
      ]

  pub keyed-removed : (k : ℕ × ℕ) (es : List ((ℕ × ℕ) × X)) → Keyed key es → Keyed key (remove_entry (is_at (pair_cmp k)) es)
  keyed-removed k [] h = tt
  keyed-removed k (e ∷ es) h =
      elim (cases_Bool (is_eq (pair_cmp k e.0))) [
        | inl here ↦ rw here h.1
        | inr other ↦ rw other (h.0, keyed-removed k es h.1)
      ]
