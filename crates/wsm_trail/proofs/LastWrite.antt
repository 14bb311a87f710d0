-- The table of last writes tells the value of each element.
use Rattle.wsm_trail.proofs.Common.{[], ℕ, ◌++◌, ◌+◌, ◌<◌, ◌∙◌, ◌∷◌, ◌≡◌, ◌≤◌, AllRows, ap, arith, Ascends, ascends_put, Bool, both_ways, cases_Bool, cond, Entry, entry_at, entry_of, eq-eqb, eq_number, eqb, eqb-true, false, first, fold}
use Rattle.wsm_trail.proofs.Common.{inl, inr, is_some, item_at, item_at-put, key_lt, later_or, le-ltb, List, lt-ltb, lt_number, ltb, ltb-true, ne_eqb, None, noted, noted_entries, noted_entry, Option, option_or, put_row, refl, Rises, Some}
use Rattle.wsm_trail.proofs.{Common.{subst, sym, true, Value, value_below, value_in, value_noted, values_at, write_of, Written, written_by, written_to}, Rising.rises-le}

-- ---- the table

-- what stands there of an element after writes at a position
item_at-noted : (d p : ℕ) (m : List (ℕ × ℕ)) (ws : Written) → item_at d (noted p m ws) ≡ cond (is_some (value_in d ws)) (Some p) (item_at d m)
item_at-noted d p m [] = refl
item_at-noted d p m (w ∷ ws) =
    item_at-noted d p (put_row first (w.0, p) m) ws
    ∙ ap (λ o. cond (is_some (value_in d ws)) (Some p) o) (item_at-put d (w.0, p) m)
    ∙ elim (cases_Bool (eqb w.0 d)) [
      | inl same ↦ rw same (either (is_some (value_in d ws)))
      | inr other ↦ rw other refl
    ]
  where
    either : (b : Bool) → cond b (Some p) (Some p) ≡ Some p
    either true = refl
    either false = refl

pub ascends-noted : (p : ℕ) (m : List (ℕ × ℕ)) (ws : Written) → Ascends first m → Ascends first (noted p m ws)
ascends-noted p m [] h = h
ascends-noted p m (w ∷ ws) h = ascends-noted p (put_row first (w.0, p) m) ws (ascends_put first (w.0, p) m h)

-- the position of an element's last write
abbrev last_position : ℕ → List (ℕ × Entry) → Option ℕ
last_position d [] = None
last_position d (e ∷ es) = option_or (last_position d es) (cond (is_some (value_in d (written_by e.1))) (Some e.0) None)

item_at-entries : (d : ℕ) (m : List (ℕ × ℕ)) (es : List (ℕ × Entry)) → item_at d (fold noted_entry m es) ≡ option_or (last_position d es) (item_at d m)
item_at-entries d m [] = refl
item_at-entries d m (e ∷ es) =
    item_at-entries d (noted_entry m e) es
    ∙ ap (option_or (last_position d es)) (item_at-noted d e.0 m (written_by e.1))
    ∙ apart (last_position d es) (is_some (value_in d (written_by e.1)))
  where
    apart : (o : Option ℕ) (b : Bool) → option_or o (cond b (Some e.0) (item_at d m)) ≡ option_or (option_or o (cond b (Some e.0) None)) (item_at d m)
    apart (Some p) b = refl
    apart None true = refl
    apart None false = refl

-- ---- the value at that position

-- what the position of an element's last write tells of its value
abbrev Tells : ℕ → ℕ → ℕ → List (ℕ × Entry) → Option ℕ → Type 0
Tells d low high es None = value_below d high es ≡ None
Tells d low high es (Some p) = (low ≤ p) × (v : Value) × (value_below d high es ≡ Some v) × (written_to d (entry_at p es) ≡ Some v)

entry_at-first : (e : ℕ × Entry) (es : List (ℕ × Entry)) → entry_at e.0 (e ∷ es) ≡ Some e.1
entry_at-first e es = rw (eq_number e.0 e.0, eq-eqb e.0 e.0 refl) refl

entry_at-later : (e : ℕ × Entry) (es : List (ℕ × Entry)) (p : ℕ) → e.0 < p → entry_at p (e ∷ es) ≡ entry_at p es
entry_at-later e es p lt = rw (eq_number e.0 p, ne_eqb e.0 p (λ same. omega (arith, lt, same))) refl

tells : (d low high : ℕ) (es : List (ℕ × Entry)) → Rises low high es → Tells d low high es (last_position d es)
tells d low high [] h = refl
tells d low high (e ∷ es) h = step (last_position d es) (tells d (e.0 + 1) high es h.1)
  where
    below : ltb e.0 high ≡ true
    below = let le = rises-le (e.0 + 1) high es h.1 in lt-ltb e.0 high (omega (arith, le))

    here : (v : Option Value) → value_in d (written_by e.1) ≡ v → value_below d high es ≡ None → Tells d low high (e ∷ es) (cond (is_some v) (Some e.0) None)
    here None written rest = rw (rest, below, written) refl
    here (Some v) written rest = (h.0, v, rw (rest, below, written) refl, rw (entry_at-first e es) written)

    step : (o : Option ℕ) → Tells d (e.0 + 1) high es o → Tells d low high (e ∷ es) (option_or o (cond (is_some (value_in d (written_by e.1))) (Some e.0) None))
    step None rest = here (value_in d (written_by e.1)) refl rest
    step (Some p) rest =
        let le = rest.0 in
        (omega (arith, le, h.0), rest.1, rw rest.2 refl, rw (entry_at-later e es p (omega (arith, le))) rest.3)

value_of : (d low high : ℕ) (es : List (ℕ × Entry)) (o : Option ℕ) → Tells d low high es o → value_below d high es ≡ written_to d (entry_of es o)
value_of d low high es None t = t
value_of d low high es (Some p) t = t.2 ∙ sym t.3

-- the table of a trail tells each element's value
pub value_below-noted : (d low high : ℕ) (es : List (ℕ × Entry)) → Rises low high es → value_below d high es ≡ written_to d (entry_of es (item_at d (noted_entries es)))
value_below-noted d low high es h =
    value_of d low high es (last_position d es) (tells d low high es h)
    ∙ ap (λ o. written_to d (entry_of es o)) (sym (item_at-entries d [] es ∙ or_none (last_position d es)))
  where
    or_none : (o : Option ℕ) → option_or o None ≡ o
    or_none None = refl
    or_none (Some p) = refl

pub value_where_noted : (d p low high : ℕ) (es : List (ℕ × Entry)) → Rises low high es → item_at d (noted_entries es) ≡ Some p → written_to d (entry_at p es) ≡ value_below d high es
value_where_noted d p low high es h at = sym (value_below-noted d low high es h ∙ ap (λ o. written_to d (entry_of es o)) at)

pub value_where_none : (d low high : ℕ) (es : List (ℕ × Entry)) → Rises low high es → item_at d (noted_entries es) ≡ None → None ≡ value_below d high es
value_where_none d low high es h at = sym (value_below-noted d low high es h ∙ ap (λ o. written_to d (entry_of es o)) at)

-- ---- the values before an entry

pub below-none : (d p low high : ℕ) (es : List (ℕ × Entry)) → p ≤ low → Rises low high es → value_below d p es ≡ None
below-none d p low high [] le h = refl
below-none d p low high (e ∷ es) le h =
    rw (below-none d p (e.0 + 1) high es (omega (arith, le, h.0)) h.1, le-ltb e.0 p (omega (arith, le, h.0))) refl

pub below-append : (d p : ℕ) (xs ys : List (ℕ × Entry)) → value_below d p ys ≡ None → value_below d p (xs ++ ys) ≡ value_below d p xs
below-append d p [] ys h = h
below-append d p (x ∷ xs) ys h = ap (λ o. later_or o (cond (ltb x.0 p) (value_in d (written_by x.1)) None)) (below-append d p xs ys h)

entry_at-append : (p : ℕ) (xs ys : List (ℕ × Entry)) (e : Entry) → entry_at p xs ≡ Some e → entry_at p (xs ++ ys) ≡ Some e
entry_at-append p [] ys e h = absurd (both_ways false refl (ap is_some h))
entry_at-append p (x ∷ xs) ys e h =
    elim (cases_Bool (eqb x.0 p)) [
      | inl same ↦ rw (eq_number x.0 p, same) (rw (eq_number x.0 p, same) at h)
      | inr other ↦ rw (eq_number x.0 p, other) (entry_at-append p xs ys e (rw (eq_number x.0 p, other) at h))
    ]

-- the rows of the entries in front of a position tell the values before it
pub value_before-from : (d low p high : ℕ) (xs ys : List (ℕ × Entry)) → Rises low p xs → Rises p high ys → value_below d p (xs ++ ys) ≡ value_noted (xs ++ ys) (noted_entries xs) d
value_before-from d low p high xs ys front behind =
    below-append d p xs ys (below-none d p p high ys (omega arith) behind)
    ∙ told (last_position d xs) (tells d low p xs front)
    ∙ ap (λ o. written_to d (entry_of (xs ++ ys) o)) (sym (item_at-entries d [] xs ∙ or_none (last_position d xs)))
  where
    or_none : (o : Option ℕ) → option_or o None ≡ o
    or_none None = refl
    or_none (Some q) = refl

    there : (q : ℕ) (v : Value) (o : Option Entry) → entry_at q xs ≡ o → written_to d o ≡ Some v → written_to d (entry_at q (xs ++ ys)) ≡ Some v
    there q v None at wrote = absurd (both_ways false refl (ap is_some wrote))
    there q v (Some e) at wrote = ap (written_to d) (entry_at-append q xs ys e at) ∙ wrote

    told : (o : Option ℕ) → Tells d low p xs o → value_below d p xs ≡ written_to d (entry_of (xs ++ ys) o)
    told None t = t
    told (Some q) t = t.2 ∙ sym (there q t.1 (entry_at q xs) refl t.3)

pub value_before : (d p high : ℕ) (xs ys : List (ℕ × Entry)) → Rises 1 p xs → Rises p high ys → value_below d p (xs ++ ys) ≡ value_noted (xs ++ ys) (noted_entries xs) d
value_before d p high xs ys front behind = value_before-from d 1 p high xs ys front behind

-- ---- all values

ascends-entries : (m : List (ℕ × ℕ)) (es : List (ℕ × Entry)) → Ascends first m → Ascends first (fold noted_entry m es)
ascends-entries m [] h = h
ascends-entries m (e ∷ es) h = ascends-entries (noted_entry m e) es (ascends-noted e.0 m (written_by e.1) h)

values-above : (k : ℕ × ℕ) (es : List (ℕ × Entry)) (rs : List (ℕ × ℕ)) → AllRows (λ y. key_lt k (first y) ≡ true) rs → AllRows (λ y. key_lt k (first y) ≡ true) (values_at es rs)
values-above k es [] h = tt
values-above k es (r ∷ rs) h = put (written_to r.0 (entry_at r.1 es)) (values-above k es rs h.1)
  where
    put : (v : Option Value) → AllRows (λ y. key_lt k (first y) ≡ true) (values_at es rs) → AllRows (λ y. key_lt k (first y) ≡ true) (write_of r.0 v ++ values_at es rs)
    put None rest = rest
    put (Some v) rest = (h.0, rest)

values-ascend : (es : List (ℕ × Entry)) (rs : List (ℕ × ℕ)) → Ascends first rs → Ascends first (values_at es rs)
values-ascend es [] h = tt
values-ascend es (r ∷ rs) h = put (written_to r.0 (entry_at r.1 es)) (values-ascend es rs h.1)
  where
    put : (v : Option Value) → Ascends first (values_at es rs) → Ascends first (write_of r.0 v ++ values_at es rs)
    put None rest = rest
    put (Some v) rest = (values-above (first r) es rs h.0, rest)

none_above : (d : ℕ) (rs : List (ℕ × ℕ)) → AllRows (λ y. key_lt (d, 0) (first y) ≡ true) rs → item_at d rs ≡ None
none_above d [] h = refl
none_above d (r ∷ rs) h =
    elim (cases_Bool (eqb r.0 d)) [
      | inl same ↦ let less = ltb_means (sym (lt_number d r.0) ∙ h.0) in absurd (let eq = eqb-true r.0 d same in omega (arith, less, eq))
      | inr other ↦ rw (eq_number r.0 d, other) (none_above d rs h.1)
    ]
  where
    ltb_means : ltb d r.0 ≡ true → d < r.0
    ltb_means e = ltb-true d r.0 e

value_in-values : (d : ℕ) (es : List (ℕ × Entry)) (rs : List (ℕ × ℕ)) → Ascends first rs → value_in d (values_at es rs) ≡ written_to d (entry_of es (item_at d rs))
value_in-values d es [] h = refl
value_in-values d es (r ∷ rs) h =
    elim (cases_Bool (eqb r.0 d)) [
      | inl same ↦
          let eq = eqb-true r.0 d same in
          let after : AllRows (λ y. key_lt (d, 0) (first y) ≡ true) rs = subst (λ n. AllRows (λ y. key_lt (n, 0) (first y) ≡ true) rs) eq h.0 in
          let rest : value_in d (values_at es rs) ≡ None = value_in-values d es rs h.1 ∙ ap (λ o. written_to d (entry_of es o)) (none_above d rs after) in
          rw (eq_number r.0 d, same) (first_is (written_to r.0 (entry_at r.1 es)) same rest ∙ ap (λ n. written_to n (entry_at r.1 es)) eq)
      | inr other ↦ rw (eq_number r.0 d, other) (skips (written_to r.0 (entry_at r.1 es)) other ∙ value_in-values d es rs h.1)
    ]
  where
    first_is : (v : Option Value) → eqb r.0 d ≡ true → value_in d (values_at es rs) ≡ None → value_in d (write_of r.0 v ++ values_at es rs) ≡ v
    first_is None same rest = rest
    first_is (Some v) same rest = rw same refl

    skips : (v : Option Value) → eqb r.0 d ≡ false → value_in d (write_of r.0 v ++ values_at es rs) ≡ value_in d (values_at es rs)
    skips None other = refl
    skips (Some v) other = rw other refl

pub all_values-ascend : (es : List (ℕ × Entry)) → Ascends first (values_at es (noted_entries es))
all_values-ascend es = values-ascend es (noted_entries es) (ascends-entries [] es tt)

pub value_in-all_values : (d low high : ℕ) (es : List (ℕ × Entry)) → Rises low high es → value_in d (values_at es (noted_entries es)) ≡ value_below d high es
value_in-all_values d low high es h = value_in-values d es (noted_entries es) (ascends-entries [] es tt) ∙ sym (value_below-noted d low high es h)
