-- Where no element is wrong, the writes in order are those of the write edges.
use Rattle.std.proofs.Common.{◌≡◌, ℕ, Bool, true, false, ◌&&◌, ◌||◌, not, cond, eqb, ltb, List, [], ◌∷◌, ◌++◌, map, filter, fold, refl, ap, sym, ◌∙◌, subst, append_assoc, inl, inr, arith, Option, Some, None, is_some}
use Rattle.std.proofs.lemmas.Bool.{cases_Bool, both_ways, and_parts, or_cases, eqb-true, eq-eqb, ltb-true}
use Rattle.case_writes.specs.Writes.{only, only_value, writes_to, is_right, is_wrong, number_key, ascending, wrong_elements, by_element}
use Rattle.wsm_lists.specs.{declared.values.ElementKind.ElementKind, declared.values.Value.Value, Keys.first, Rows.{AllRows, Ascends, key_lt, key_eq, put_row, row_at}, Values.Written}
use Rattle.wsm_lists.proofs.{Lists.{rows-parts, rows-map}, Rows.{ascends_put, all_put}, ByNumber.{lt_number, eq_number, row_at-put}}
use Rattle.wsm_marks.proofs.NoFault.{not_false}
use Rattle.wsm_schema.specs.{Flat.kind_in, Replay.{fits_edges, is_of_kind}, Trail.is_one_of}

-- ---- an empty answer
is_empty : {X : Type 0} → List X → Bool
is_empty [] = true
is_empty (x ∷ xs) = false

put-some : {X : Type 0} (key : X → ℕ × ℕ) (x : X) (xs : List X) → is_empty (put_row key x xs) ≡ false
unfolding is_empty
put-some key x [] = refl
put-some key x (y ∷ ys) =
    elim (cases_Bool (key_lt (key y) (key x))) [
      | inl below ↦ rw below refl
      | inr not_below ↦ elim (cases_Bool (key_eq (key y) (key x))) [ inl same ↦ rw (not_below, same) refl | inr other ↦ rw (not_below, other) refl ]
    ]

fold-some : (ns sorted : List ℕ) → is_empty sorted ≡ false → is_empty (fold (λ sorted n. put_row number_key n sorted) sorted ns) ≡ false
fold-some [] sorted h = h
fold-some (n ∷ ns) sorted h = fold-some ns (put_row number_key n sorted) (put-some number_key n sorted)

none-sorted : (ns : List ℕ) → ascending ns ≡ [] → ns ≡ []
unfolding is_empty
none-sorted [] h = refl
none-sorted (n ∷ ns) h = absurd (both_ways _ (fold-some ns (n ∷ []) refl) (ap is_empty h))

none-pass : (test : ℕ → Bool) (ns : List ℕ) → filter test ns ≡ [] → AllRows (λ n. test n ≡ false) ns
unfolding is_empty
none-pass test [] h = tt
none-pass test (n ∷ ns) h =
    elim (cases_Bool (test n)) [
      | inl passes ↦ absurd (both_ways _ refl (ap is_empty (rw passes at h)))
      | inr fails ↦ (fails, none-pass test ns (rw fails at h))
    ]

-- ---- one of several
found-in : (Q : ℕ → Type 0) (n : ℕ) (ns : List ℕ) → AllRows Q ns → is_one_of n ns ≡ true → Q n
found-in Q n [] all h = absurd (both_ways _ refl h)
found-in Q n (m ∷ ms) all h =
    elim (or_cases (eqb m n) (is_one_of n ms) h) [
      | inl here ↦ subst Q (eqb-true m n here) all.0
      | inr later ↦ found-in Q n ms all.1 later
    ]

found-row : (Q : ℕ → Type 0) (d : ℕ) (ws : Written) → AllRows (λ w. Q w.0) ws → is_some (row_at first (d, 0) ws) ≡ true → Q d
found-row Q d [] all h = absurd (both_ways _ refl h)
found-row Q d (w ∷ ws) all h =
    elim (cases_Bool (key_eq (first w) (d, 0))) [
      | inl here ↦ subst Q (eqb-true w.0 d (sym (eq_number w.0 d) ∙ here)) all.0
      | inr later ↦ found-row Q d ws all.1 (rw later at h)
    ]

module _ (elements : List (ℕ × ElementKind)) where
  -- a write of an edge, with a value of its kind
  abbrev Fits : List ℕ → ℕ × Value → Type 0
  Fits edges w = (is_one_of w.0 edges ≡ true) × (is_of_kind (kind_in w.0 elements) w.1 ≡ true)

  same-first : (w : ℕ × Value) (ws : Written) (d : ℕ) (ds : List ℕ) → Ascends first (w ∷ ws) → Ascends number_key (d ∷ ds) →
      is_one_of w.0 (d ∷ ds) ≡ true → is_some (row_at first (d, 0) (w ∷ ws)) ≡ true → w.0 ≡ d
  same-first w ws d ds up ups edge row =
      elim (or_cases (eqb d w.0) (is_one_of w.0 ds) edge) [
        | inl here ↦ sym (eqb-true d w.0 here)
        | inr later ↦
            let above = found-in (λ n. key_lt (d, 0) (n, 0) ≡ true) w.0 ds ups.0 later in
            elim (cases_Bool (key_eq (first w) (d, 0))) [
              | inl same ↦ eqb-true w.0 d (sym (eq_number w.0 d) ∙ same)
              | inr other ↦
                  let below = found-row (λ n. key_lt (w.0, 0) (n, 0) ≡ true) d ws up.0 (rw other at row) in
                  absurd (omega (arith, ltb-true d w.0 (sym (lt_number d w.0) ∙ above), ltb-true w.0 d (sym (lt_number w.0 d) ∙ below)))
            ]
      ]

  -- behind the first, each row is one of the edges behind the first
  edge-behind : (d n : ℕ) (ds : List ℕ) → key_lt (d, 0) (n, 0) ≡ true → is_one_of n (d ∷ ds) ≡ true → is_one_of n ds ≡ true
  edge-behind d n ds below h =
      elim (or_cases (eqb d n) (is_one_of n ds) h) [
        | inl here ↦ absurd (omega (arith, ltb-true d n (sym (lt_number d n) ∙ below), eqb-true d n here))
        | inr later ↦ later
      ]

  rows-behind : (d : ℕ) (ds : List ℕ) (ws : Written) → AllRows (λ w. key_lt (d, 0) (first w) ≡ true) ws → AllRows (Fits (d ∷ ds)) ws → AllRows (Fits ds) ws
  rows-behind d ds [] below all = tt
  rows-behind d ds (w ∷ ws) below all = ((edge-behind d w.0 ds below.0 all.0.0, all.0.1), rows-behind d ds ws below.1 all.1)

  row-behind : (w : ℕ × Value) (ws : Written) (n : ℕ) → key_lt (w.0, 0) (n, 0) ≡ true → is_some (row_at first (n, 0) (w ∷ ws)) ≡ true → is_some (row_at first (n, 0) ws) ≡ true
  row-behind w ws n below h =
      elim (cases_Bool (key_eq (first w) (n, 0))) [
        | inl same ↦ absurd (omega (arith, ltb-true w.0 n (sym (lt_number w.0 n) ∙ below), eqb-true w.0 n (sym (eq_number w.0 n) ∙ same)))
        | inr other ↦ rw other at h
      ]

  edges-behind : (w : ℕ × Value) (ws : Written) (ds : List ℕ) → AllRows (λ n. key_lt (w.0, 0) (n, 0) ≡ true) ds →
      AllRows (λ n. is_some (row_at first (n, 0) (w ∷ ws)) ≡ true) ds → AllRows (λ n. is_some (row_at first (n, 0) ws) ≡ true) ds
  edges-behind w ws [] below all = tt
  edges-behind w ws (d ∷ ds) below all = (row-behind w ws d below.0 all.0, edges-behind w ws ds below.1 all.1)

  -- ascending rows with the keys of ascending edges
  fits-rows : (ws : Written) (ds : List ℕ) → Ascends first ws → Ascends number_key ds → AllRows (Fits ds) ws → AllRows (λ d. is_some (row_at first (d, 0) ws) ≡ true) ds →
      fits_edges elements ws ds ≡ true
  fits-rows [] [] up ups all rows = refl
  fits-rows [] (d ∷ ds) up ups all rows = absurd (both_ways _ refl rows.0)
  fits-rows (w ∷ ws) [] up ups all rows = absurd (both_ways _ refl all.0.0)
  fits-rows (w ∷ ws) (d ∷ ds) up ups all rows =
      let same : w.0 ≡ d = same-first w ws d ds up ups all.0.0 rows.0 in
      let below = subst (λ n. AllRows (λ v. key_lt (n, 0) (first v) ≡ true) ws) same up.0 in
      let above = subst (λ n. AllRows (λ m. key_lt (n, 0) (m, 0) ≡ true) ds) (sym same) ups.0 in
      let rest = fits-rows ws ds up.1 ups.1 (rows-behind d ds ws below all.1) (edges-behind w ws ds above rows.1) in
      let kind = subst (λ n. is_of_kind (kind_in n elements) w.1 ≡ true) same all.0.1 in
      rw (eq-eqb w.0 d same, kind, rest) refl

  -- ---- the rows of the writes in order
  sorted-ascends : (ws sorted : Written) → Ascends first sorted → Ascends first (fold (λ sorted w. put_row first w sorted) sorted ws)
  sorted-ascends [] sorted h = h
  sorted-ascends (w ∷ ws) sorted h = sorted-ascends ws (put_row first w sorted) (ascends_put first w sorted h)

  sorted-all : (P : ℕ × Value → Type 0) (ws sorted : Written) → AllRows P ws → AllRows P sorted → AllRows P (fold (λ sorted w. put_row first w sorted) sorted ws)
  sorted-all P [] sorted all h = h
  sorted-all P (w ∷ ws) sorted all h = sorted-all P ws (put_row first w sorted) all.1 (all_put first P w sorted all.0 h)

  put-has : (d : ℕ) (w : ℕ × Value) (sorted : Written) → is_some (row_at first (d, 0) sorted) ≡ true → is_some (row_at first (d, 0) (put_row first w sorted)) ≡ true
  put-has d w sorted h =
      elim (cases_Bool (key_eq (first w) (d, 0))) [
        | inl here ↦ rw (row_at-put first (d, 0) w sorted, here) refl
        | inr away ↦ rw (row_at-put first (d, 0) w sorted, away) h
      ]

  sorted-has : (d : ℕ) (ws sorted : Written) → is_some (row_at first (d, 0) sorted) ≡ true → is_some (row_at first (d, 0) (fold (λ sorted w. put_row first w sorted) sorted ws)) ≡ true
  sorted-has d [] sorted h = h
  sorted-has d (w ∷ ws) sorted h = sorted-has d ws (put_row first w sorted) (put-has d w sorted h)

  written-has : (d : ℕ) (ws sorted : Written) → is_empty (writes_to d ws) ≡ false → is_some (row_at first (d, 0) (fold (λ sorted w. put_row first w sorted) sorted ws)) ≡ true
  unfolding is_empty
  written-has d [] sorted h = absurd (both_ways _ h refl)
  written-has d (w ∷ ws) sorted h =
      elim (cases_Bool (eqb w.0 d)) [
        | inl here ↦ sorted-has d ws (put_row first w sorted) (rw (row_at-put first (d, 0) w sorted, eq_number w.0 d, here) refl)
        | inr away ↦ written-has d ws (put_row first w sorted) (rw away at h)
      ]

  -- ---- what is not wrong
  right-parts : (edges : List ℕ) (writes : Written) (d : ℕ) → is_wrong elements edges writes d ≡ false → (is_one_of d edges ≡ true) × (is_right elements (only_value (writes_to d writes)) d ≡ true)
  right-parts edges writes d h = and_parts (is_one_of d edges) (is_right elements (only_value (writes_to d writes)) d) (not_false (is_one_of d edges && is_right elements (only_value (writes_to d writes)) d) h)

  right-some : (ws : Written) (d : ℕ) → is_right elements (only_value ws) d ≡ true → is_empty ws ≡ false
  unfolding is_empty
  right-some [] d h = absurd (both_ways _ refl h)
  right-some (w ∷ ws) d h = refl

  has-written : (edges : List ℕ) (writes : Written) (ds : List ℕ) → AllRows (λ d. is_wrong elements edges writes d ≡ false) ds → AllRows (λ d. is_some (row_at first (d, 0) (by_element writes)) ≡ true) ds
  has-written edges writes [] all = tt
  has-written edges writes (d ∷ ds) all =
      (written-has d writes [] (right-some (writes_to d writes) d (right-parts edges writes d all.0).1), has-written edges writes ds all.1)

  -- the only write to an element is the write
  first-only : (w : ℕ × Value) (ws : Written) (d : ℕ) → is_right elements (only_value (w ∷ ws)) d ≡ true → is_of_kind (kind_in d elements) w.1 ≡ true
  first-only w [] d h = h
  first-only w (v ∷ vs) d h = absurd (both_ways _ refl h)

  last-only : (front : Written) (w : ℕ × Value) (ws : Written) (d : ℕ) → is_right elements (only_value (front ++ w ∷ ws)) d ≡ true → is_of_kind (kind_in d elements) w.1 ≡ true
  last-only [] w ws d h = first-only w ws d h
  last-only (v ∷ []) w ws d h = absurd (both_ways _ refl h)
  last-only (v ∷ u ∷ us) w ws d h = absurd (both_ways _ refl h)

  filter-append : (d : ℕ) (xs ys : Written) → writes_to d (xs ++ ys) ≡ writes_to d xs ++ writes_to d ys
  filter-append d [] ys = refl
  filter-append d (x ∷ xs) ys =
      elim (cases_Bool (eqb x.0 d)) [
        | inl here ↦ rw (here, filter-append d xs ys) refl
        | inr away ↦ rw (away, filter-append d xs ys) refl
      ]

  kind-right : (edges : List ℕ) (front : Written) (w : ℕ × Value) (ws : Written) → is_wrong elements edges (front ++ w ∷ ws) w.0 ≡ false → Fits edges w
  kind-right edges front w ws h =
      let r = right-parts edges (front ++ w ∷ ws) w.0 h in
      let at : writes_to w.0 (front ++ w ∷ ws) ≡ writes_to w.0 front ++ w ∷ writes_to w.0 ws =
      filter-append w.0 front (w ∷ ws) ∙ ap (λ (b : Bool). writes_to w.0 front ++ cond b (w ∷ writes_to w.0 ws) (writes_to w.0 ws)) (eq-eqb w.0 w.0 refl) in
      (r.0, last-only (writes_to w.0 front) w (writes_to w.0 ws) w.0 (subst (λ vs. is_right elements (only_value vs) w.0 ≡ true) at r.1))

  all-right : (edges : List ℕ) (front ws : Written) → AllRows (λ w. is_wrong elements edges (front ++ ws) w.0 ≡ false) ws → AllRows (Fits edges) ws
  all-right edges front [] all = tt
  all-right edges front (w ∷ ws) all =
      (kind-right edges front w ws all.0, all-right edges (front ++ w ∷ []) ws (subst (λ vs. AllRows (λ w. is_wrong elements edges vs w.0 ≡ false) ws) (sym (append_assoc front (w ∷ []) ws)) all.1))

  rows-of_map : (P : ℕ → Type 0) (ws : Written) → AllRows P (map (λ w. w.0) ws) → AllRows (λ w. P w.0) ws
  rows-of_map P [] all = tt
  rows-of_map P (w ∷ ws) all = (all.0, rows-of_map P ws all.1)

  -- writes of which no element is wrong are applicable
  pub right-writes : (edges : List ℕ) (writes : Written) → Ascends number_key edges → wrong_elements elements edges writes ≡ [] → fits_edges elements (by_element writes) edges ≡ true
  right-writes edges writes up none =
      let right = none-pass (is_wrong elements edges writes) (edges ++ map (λ w. w.0) writes) (none-sorted _ none) in
      let parts = rows-parts (λ d. is_wrong elements edges writes d ≡ false) edges (map (λ w. w.0) writes) right in
      let fit = all-right edges [] writes (rows-of_map (λ d. is_wrong elements edges writes d ≡ false) writes parts.1) in
      fits-rows (by_element writes) edges (sorted-ascends writes [] tt) up (sorted-all (Fits edges) writes [] fit tt) (has-written edges writes edges parts.0)
