-- Flags of which some were raised.
use Rattle.adept_server.proofs.Common.{[], ℕ, ◌++◌, ◌<◌, ◌∷◌, ◌≡◌, ◌≢◌, ap, arith, at_case, Bool, CaseId, false, in_row, length, length-map, List, lists_of, map-set, NoneLowered, replicate, set, slice_get, slice_get_within, Some, subst}
use Rattle.adept_server.proofs.{Common.{suc, sym, true, Vec, zero}, Rows.cell_there, Zips.row_of_case}

-- a flag that is lowered behind the raising of one was lowered, and is another
pub flag-calm : (flags : List Bool) (i j : ℕ) → slice_get (set flags i true) j ≡ Some false → (slice_get flags j ≡ Some false) × (j ≢ i)
flag-calm [] i j is = absurd (cc (is))
flag-calm (b ∷ flags) zero zero is = absurd (cc (is))
flag-calm (b ∷ flags) zero (suc j) is = (is, λ same. omega (arith, same))
flag-calm (b ∷ flags) (suc i) zero is = (is, λ same. omega (arith, same))
flag-calm (b ∷ flags) (suc i) (suc j) is = let k = flag-calm flags i j is in (k.0, λ same. k.1 (cc (same)))

-- where all are raised none is lowered
pub all-raised : (n j : ℕ) → slice_get (replicate n true) j ≡ Some false → ⊥
all-raised zero j is = cc (is)
all-raised (suc n) zero is = cc (is)
all-raised (suc n) (suc j) is = all-raised n j is

-- A row is changed, so that what is lowered in it was so before, and stands at a place that is left.
row-calm : (left : ℕ → Type 0) (rows : List (List Bool)) (t : ℕ) (row new : List Bool) → slice_get rows t ≡ Some row → ((p : ℕ) → slice_get new p ≡ Some false → (slice_get row p ≡ Some false) × left p) → (u p : ℕ)
    → in_row p (slice_get (set rows t new) u) ≡ Some false → (in_row p (slice_get rows u) ≡ Some false) × (u ≡ t → left p)
row-calm left [] t row new there calm u p is = absurd (cc (there))
row-calm left (r ∷ rows) zero row new there calm zero p is =
    let same : r ≡ row = cc (there) in
    let k = calm p is in
    (subst (λ (x : List Bool). slice_get x p ≡ Some false) (sym same) k.0, λ e. k.1)
row-calm left (r ∷ rows) zero row new there calm (suc u) p is = (is, λ e. absurd (omega (arith, e)))
row-calm left (r ∷ rows) (suc t) row new there calm zero p is = (is, λ e. absurd (omega (arith, e)))
row-calm left (r ∷ rows) (suc t) row new there calm (suc u) p is = let k = row-calm left rows t row new there calm u p is in (k.0, λ e. k.1 (cc (e)))

module _ {A : Type 0} (rows : List (Vec Bool A)) (t : ℕ) (row new : Vec Bool A) (there : slice_get rows t ≡ Some row) where
  -- the same of rows that are kept in Vecs
  vec-calm : (left : ℕ → Type 0) → ((p : ℕ) → slice_get new.items p ≡ Some false → (slice_get row.items p ≡ Some false) × left p) → (c : CaseId) → at_case (lists_of (set rows t new)) c ≡ Some false
      → (at_case (lists_of rows) c ≡ Some false) × (c.type_no ≡ t → left c.place)
  vec-calm left calm c is =
      row-calm left (lists_of rows) t row.items new.items (cell_there rows t row there) calm c.type_no c.place
      (subst (λ (xs : List (List Bool)). at_case xs c ≡ Some false) (map-set (λ (v : Vec Bool A). v.items) rows t new) is)

  -- one flag of a row was raised, or all of them
  pub case-calm : (place : ℕ) → new.items ≡ set row.items place true → (c : CaseId) → at_case (lists_of (set rows t new)) c ≡ Some false → (at_case (lists_of rows) c ≡ Some false) × (c ≢ record { type_no = t; place = place })
  case-calm place raised c is =
      let k = vec-calm (λ p. p ≢ place) (λ p calm. flag-calm row.items place p (subst (λ (xs : List Bool). slice_get xs p ≡ Some false) raised calm)) c is in
      (k.0, λ same. k.1 (ap (λ (d : CaseId). d.type_no) same) (ap (λ (d : CaseId). d.place) same))

  pub cases-calm : (n : ℕ) → new.items ≡ replicate n true → (c : CaseId) → at_case (lists_of (set rows t new)) c ≡ Some false → (at_case (lists_of rows) c ≡ Some false) × (c.type_no ≢ t)
  cases-calm n raised c is = vec-calm (λ p. ⊥) (λ p calm. absurd (all-raised n p (subst (λ (xs : List Bool). slice_get xs p ≡ Some false) raised calm))) c is

-- there is no case of a type without a row
pub no-row : {A : Type 0} (rows : List (Vec Bool A)) (t : ℕ) → (t < length rows → ⊥) → (c : CaseId) → at_case (lists_of rows) c ≡ Some false → c.type_no ≢ t
no-row {A} rows t past c is = λ same.
    let r = row_of_case (lists_of rows) c false is in
    let lt = slice_get_within (lists_of rows) c.type_no r.0 r.1 in
    past (omega (arith, same, lt, length-map rows (λ (v : Vec Bool A). v.items)))

-- one row more, in which none is lowered
raised-push : {A : Type 0} (rows : List (Vec Bool A)) (row : Vec Bool A) → ((p : ℕ) → slice_get row.items p ≡ Some false → ⊥) → ((t p : ℕ) → in_row p (slice_get (lists_of rows) t) ≡ Some false → ⊥) → (t p : ℕ)
    → in_row p (slice_get (lists_of (rows ++ row ∷ [])) t) ≡ Some false → ⊥
raised-push [] row none all zero p is = none p is
raised-push [] row none all (suc t) p is = cc (is)
raised-push (r ∷ rows) row none all zero p is = all zero p is
raised-push (r ∷ rows) row none all (suc t) p is = raised-push rows row none (λ u q. all (suc u) q) t p is

pub raised-more : {A : Type 0} (rows new : List (Vec Bool A)) (row : Vec Bool A) (n : ℕ) → new ≡ rows ++ row ∷ [] → row.items ≡ replicate n true → NoneLowered (lists_of rows) → NoneLowered (lists_of new)
raised-more rows new row n is raised all = λ c lowered.
    raised-push rows row (λ p calm. all-raised n p (subst (λ (xs : List Bool). slice_get xs p ≡ Some false) raised calm)) (λ t p there. all (record { type_no = t; place = p }) there) c.type_no c.place
    (subst (λ (xs : List (Vec Bool _)). at_case (lists_of xs) c ≡ Some false) is lowered)

pub none-lowered : {A : Type 0} (rows : List (Vec Bool A)) → rows ≡ [] → NoneLowered (lists_of rows)
none-lowered rows is = λ c lowered. cc (subst (λ (xs : List (Vec Bool _)). at_case (lists_of xs) c ≡ Some false) is lowered)
