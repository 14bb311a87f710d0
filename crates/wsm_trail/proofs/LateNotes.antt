-- Writes that are noted late: what a push, a cut and a look at the late entries owe.
use Rattle.wsm_trail.proofs.Common.{[], ℕ, ◌++◌, ◌+◌, ◌<◌, ◌∙◌, ◌∷◌, ◌≡◌, ◌≤◌, ◌⊎◌, ap, arith, cases_Bool, cut_entries, cut_entry, drop, Entry, filter, first, inl, inr, is_one_of, is_start_of, last_written, later_or, le-ltb, length, List}
use Rattle.wsm_trail.proofs.Common.{lt-ltb, lt_number, ltb-false, ltb-true, nat_lt, None, noted, noted_entries, noted_until, Option, refl, Rises, rows_below, Some, subst, suc, sym, take, take-append-drop, Value, value_below, value_in}
use Rattle.wsm_trail.proofs.{Common.{value_noted, without_start, Written, written_by, wrote, zero}, Cutting.{noted_entries-cut, noted_entries-push}, LastWrite.{below-append, below-none, value_before-from}, Rising.{rises-le, rises-parts}}
use Rattle.wsm_trail.proofs.{Rising.rises_lower, Withdrawing.noted_entries-left}
use Rattle.std.specs.Prelude.{get_or}
use Rattle.wsm_schema.specs.declared.entries.Entry.TheVariants as entry

-- ---- what is below a position

-- no position is below one from which all rise
filter-none : (p low high : ℕ) (es : List (ℕ × Entry)) → p ≤ low → Rises low high es → filter (λ x. nat_lt x.0 p) es ≡ []
filter-none p low high [] le rises = refl
filter-none p low high (x ∷ xs) le rises = rw (le-ltb x.0 p (omega (arith, le, rises.0))) (filter-none p (x.0 + 1) high xs (omega (arith, le, rises.0)) rises.1)

-- what is below a position stands in front
below-take : (p low high : ℕ) (es : List (ℕ × Entry)) → Rises low high es → filter (λ x. nat_lt x.0 p) es ≡ take (rows_below first (p, 0) es) es
below-take p low high [] rises = refl
below-take p low high (x ∷ xs) rises =
    elim (cases_Bool (nat_lt x.0 p)) [
      | inl it ↦ rw (lt_number x.0 p, it) (ap (λ l. x ∷ l) (below-take p (x.0 + 1) high xs rises.1))
      | inr other ↦ rw (lt_number x.0 p, other) (filter-none p (x.0 + 1) high xs (omega (arith, ltb-false x.0 p other)) rises.1)
    ]

pub noted-take : (p low high : ℕ) (es : List (ℕ × Entry)) → Rises low high es → noted_until p es ≡ noted_entries (take (rows_below first (p, 0) es) es)
noted-take p low high es rises = ap noted_entries (below-take p low high es rises)

-- entries rise up to a position, and from it on
rises-split : (p low high : ℕ) (es : List (ℕ × Entry)) → low ≤ p → p ≤ high → Rises low high es →
    Rises low p (take (rows_below first (p, 0) es) es) × Rises p high (drop (rows_below first (p, 0) es) es)
rises-split p low high [] from to rises = (from, to)
rises-split p low high (x ∷ xs) from to rises =
    elim (cases_Bool (nat_lt x.0 p)) [
      | inl it ↦
          let lt = ltb-true x.0 p it in
          let rest = rises-split p (x.0 + 1) high xs (omega (arith, lt)) to rises.1 in
          rw (lt_number x.0 p, it) ((rises.0, rest.0), rest.1)
      | inr other ↦ rw (lt_number x.0 p, other) (from, (omega (arith, ltb-false x.0 p other), rises.1))
    ]

-- ---- the last write

-- below the next position stand all entries
below-last : (d low high : ℕ) (es : List (ℕ × Entry)) → Rises low high es → value_below d high es ≡ last_written d es
below-last d low high [] rises = refl
below-last d low high (x ∷ xs) rises =
    let le = rises-le (x.0 + 1) high xs rises.1 in
    rw (lt-ltb x.0 high (omega (arith, le))) (ap (λ o. later_or o (value_in d (written_by x.1))) (below-last d (x.0 + 1) high xs rises.1))

pub later-none : (o : Option Value) → later_or o None ≡ o
later-none None = refl
later-none (Some v) = refl

later-assoc : (a b c : Option Value) → later_or (later_or a b) c ≡ later_or a (later_or b c)
later-assoc None b c = refl
later-assoc (Some v) b c = refl

last-append : (d : ℕ) (xs ys : List (ℕ × Entry)) → last_written d (xs ++ ys) ≡ later_or (last_written d ys) (last_written d xs)
last-append d [] ys = sym (later-none (last_written d ys))
last-append d (x ∷ xs) ys =
    let own : Option Value = value_in d (written_by x.1) in
    ap (λ o. later_or o own) (last-append d xs ys) ∙ later-assoc (last_written d ys) (last_written d xs) own

-- a value is that of the late entries, else the noted one
pub value-late : (d p high : ℕ) (es : List (ℕ × Entry)) → p ≤ high → Rises 1 high es →
    value_below d high es ≡ later_or (last_written d (drop (rows_below first (p, 0) es) es)) (value_noted es (noted_until p es) d)
value-late d p high es to rises =
    let all : Rises 0 high es = rises_lower 1 0 high es (omega arith) rises in
    let k : ℕ = rows_below first (p, 0) es in
    let split = rises-split p 0 high es (omega arith) to all in
    let front : last_written d (take k es) ≡ value_noted es (noted_until p es) d =
    sym (below-last d 0 p (take k es) split.0)
    ∙ sym (below-append d p (take k es) (drop k es) (below-none d p p high (drop k es) (omega arith) split.1))
    ∙ value_before-from d 0 p high (take k es) (drop k es) split.0 split.1
    ∙ ap (λ xs. value_noted xs (noted_entries (take k es)) d) (take-append-drop k es)
    ∙ ap (λ rows. value_noted es rows d) (sym (noted-take p 1 high es rises)) in
    below-last d 1 high es rises
    ∙ ap (last_written d) (sym (take-append-drop k es))
    ∙ last-append d (take k es) (drop k es)
    ∙ ap (later_or (last_written d (drop k es))) front

-- ---- what changes no late notes

-- one more entry at the end
pub noted_until-push : (p q : ℕ) (e : Entry) (es : List (ℕ × Entry)) → p ≤ q → noted_until p (es ++ (q, e) ∷ []) ≡ noted_until p es
noted_until-push p q e es le = ap noted_entries (go es)
  where
    go : (xs : List (ℕ × Entry)) → filter (λ x. nat_lt x.0 p) (xs ++ (q, e) ∷ []) ≡ filter (λ x. nat_lt x.0 p) xs
    go [] = rw (le-ltb q p le) refl
    go (x ∷ xs) = elim (cases_Bool (nat_lt x.0 p)) [ inl it ↦ rw it (ap (λ l. x ∷ l) (go xs)) | inr other ↦ rw other (go xs) ]

-- a cut: what stays of an entry stays at its position
wrote-stays : (p : ℕ) (ws : Written) → (wrote p ws ≡ None) ⊎ ((y : Entry) × (wrote p ws ≡ Some (p, y)))
wrote-stays p [] = inl refl
wrote-stays p (w ∷ ws) = inr (entry.Wrote (w ∷ ws), refl)

cut-stays : (body : List ℕ) (p : ℕ) (x : Entry) → (cut_entry body p x ≡ None) ⊎ ((y : Entry) × (cut_entry body p x ≡ Some (p, y)))
cut-stays body p (entry.Start node user reads) =
    elim (cases_Bool (is_one_of node body)) [ inl it ↦ inl (rw it refl) | inr out ↦ inr (entry.Start node user reads, rw out refl) ]
cut-stays body p (entry.End node writes choice) =
    elim (cases_Bool (is_one_of node body)) [
      | inr out ↦ inr (entry.End node writes choice, rw out refl)
      | inl it ↦ elim (wrote-stays p writes) [ inl gone ↦ inl (rw it gone) | inr left ↦ inr (left.0, rw it left.1) ]
    ]
cut-stays body p (entry.Again node writes) =
    elim (cases_Bool (is_one_of node body)) [
      | inr out ↦ inr (entry.Again node writes, rw out refl)
      | inl it ↦ elim (wrote-stays p writes) [ inl gone ↦ inl (rw it gone) | inr left ↦ inr (left.0, rw it left.1) ]
    ]
cut-stays body p (entry.Wrote writes) = inr (entry.Wrote writes, refl)

cut-below : (body : List ℕ) (p : ℕ) (es : List (ℕ × Entry)) → filter (λ x. nat_lt x.0 p) (cut_entries body es) ≡ cut_entries body (filter (λ x. nat_lt x.0 p) es)
cut-below body p [] = refl
cut-below body p (e ∷ es) =
    elim (cut-stays body e.0 e.1) [
      | inl gone ↦ elim (cases_Bool (nat_lt e.0 p)) [ inl it ↦ rw (gone, it, gone) (cut-below body p es) | inr other ↦ rw (gone, other) (cut-below body p es) ]
      | inr left ↦ elim (cases_Bool (nat_lt e.0 p)) [
        | inl it ↦ rw (left.1, it, left.1) (ap (λ l. (e.0, left.0) ∷ l) (cut-below body p es))
        | inr other ↦ rw (left.1, other) (cut-below body p es)
      ]
    ]

pub noted_until-cut : (body : List ℕ) (p : ℕ) (es : List (ℕ × Entry)) → noted_until p (cut_entries body es) ≡ noted_until p es
noted_until-cut body p es = ap noted_entries (cut-below body p es) ∙ noted_entries-cut body (filter (λ x. nat_lt x.0 p) es)

-- a Start that is given back
left-below : (n p : ℕ) (es : List (ℕ × Entry)) → filter (λ x. nat_lt x.0 p) (without_start n es) ≡ without_start n (filter (λ x. nat_lt x.0 p) es)
left-below n p [] = refl
left-below n p (e ∷ es) =
    elim (cases_Bool (is_start_of n e.1)) [
      | inl gone ↦ elim (cases_Bool (nat_lt e.0 p)) [ inl it ↦ rw (gone, it, gone) (left-below n p es) | inr other ↦ rw (gone, other) (left-below n p es) ]
      | inr stays ↦ elim (cases_Bool (nat_lt e.0 p)) [
        | inl it ↦ rw (stays, it, stays) (ap (λ l. e ∷ l) (left-below n p es))
        | inr other ↦ rw (stays, other) (left-below n p es)
      ]
    ]

pub noted_until-left : (n p : ℕ) (es : List (ℕ × Entry)) → noted_until p (without_start n es) ≡ noted_until p es
noted_until-left n p es = ap noted_entries (left-below n p es) ∙ noted_entries-left n (filter (λ x. nat_lt x.0 p) es)

-- ---- one entry more is noted

-- the entries up to one of them
filter-front : (low high : ℕ) (front : List (ℕ × Entry)) (e : ℕ × Entry) (back : List (ℕ × Entry)) → Rises low high (front ++ e ∷ back) → filter (λ x. nat_lt x.0 (e.0 + 1)) (front ++ e ∷ back) ≡ front ++ e ∷ []
filter-front low high [] e back rises = rw (lt-ltb e.0 (e.0 + 1) (omega arith)) (ap (λ l. e ∷ l) (filter-none (e.0 + 1) (e.0 + 1) high back (omega arith) rises.1))
filter-front low high (x ∷ xs) e back rises =
    let parts = rises-parts (x.0 + 1) high xs back e rises.1 in
    let le : x.0 + 1 ≤ e.0 = rises-le (x.0 + 1) e.0 xs parts.0 in
    rw (lt-ltb x.0 (e.0 + 1) (omega (arith, le))) (ap (λ l. x ∷ l) (filter-front (x.0 + 1) high xs e back rises.1))

noted-step : (low high : ℕ) (front : List (ℕ × Entry)) (e : ℕ × Entry) (back : List (ℕ × Entry)) → Rises low high (front ++ e ∷ back) →
    noted_until (e.0 + 1) (front ++ e ∷ back) ≡ noted e.0 (noted_entries front) (written_by e.1)
noted-step low high front e back rises = ap noted_entries (filter-front low high front e back rises) ∙ noted_entries-push e.0 e.1 front

-- a list at a place
at-place : (es : List (ℕ × Entry)) (i : ℕ) (d : ℕ × Entry) → i < length es → (es ≡ take i es ++ (get_or es i d ∷ drop (suc i) es)) × (take (suc i) es ≡ take i es ++ (get_or es i d ∷ []))
at-place [] i d lt = absurd (omega (arith, lt))
at-place (x ∷ xs) zero d lt = (refl, refl)
at-place (x ∷ xs) (suc i) d lt = let s = at-place xs i d (omega (arith, lt)) in (ap (λ l. x ∷ l) s.0, ap (λ l. x ∷ l) s.1)

-- a position is below the next one
place-below : (low high : ℕ) (es : List (ℕ × Entry)) (i : ℕ) (d : ℕ × Entry) → i < length es → Rises low high es → (get_or es i d).0 + 1 ≤ high
place-below low high [] i d lt rises = absurd (omega (arith, lt))
place-below low high (x ∷ xs) zero d lt rises = rises-le (x.0 + 1) high xs rises.1
place-below low high (x ∷ xs) (suc i) d lt rises = place-below (x.0 + 1) high xs i d (omega (arith, lt)) rises.1

-- the entry at a place is noted after those before it
pub one-more : (high : ℕ) (es : List (ℕ × Entry)) (i : ℕ) (x : ℕ × Entry) → i < length es → x ≡ get_or es i x → Rises 1 high es →
    (noted_until (x.0 + 1) es ≡ noted x.0 (noted_entries (take i es)) (written_by x.1)) × (noted_entries (take (i + 1) es) ≡ noted x.0 (noted_entries (take i es)) (written_by x.1))
one-more high es i x lt hx rises =
    let s = at-place es i x lt in
    let all : es ≡ take i es ++ (x ∷ drop (suc i) es) = s.0 ∙ ap (λ y. take i es ++ (y ∷ drop (suc i) es)) (sym hx) in
    let next : i + 1 ≡ suc i = omega arith in
    let up : take (i + 1) es ≡ take i es ++ (x ∷ []) = ap (λ k. take k es) next ∙ s.1 ∙ ap (λ y. take i es ++ (y ∷ [])) (sym hx) in (
      ap (noted_until (x.0 + 1)) all ∙ noted-step 1 high (take i es) x (drop (suc i) es) (subst (Rises 1 high) all rises),
      ap noted_entries up ∙ noted_entries-push x.0 x.1 (take i es),
    )

pub below-next : (high : ℕ) (es : List (ℕ × Entry)) (i : ℕ) (x : ℕ × Entry) → i < length es → x ≡ get_or es i x → Rises 1 high es → x.0 + 1 ≤ high
below-next high es i x lt hx rises = subst (λ y. y.0 + 1 ≤ high) (sym hx) (place-below 1 high es i x lt rises)
