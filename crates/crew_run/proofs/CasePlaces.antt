-- A declared case stands at its place where each type has as many as are declared.
use Rattle.crew_run.proofs.Common.{[], ℕ, ◌<◌, ◌∙◌, ◌∷◌, ◌≡◌, any_passes_from_place, ap, AreCounts, arith, at_case, CaseDecl, CaseId, cases_of_type, declared-placed, declared-typed, File, get_or, has_id, in_row, is_some, IsDeclared, IsSome}
use Rattle.crew_run.proofs.Common.{IsWorkable, length, List, map, refl, slice_get, slice_get-get_or, Some, suc, sym, there_at, true, zero}
use Rattle.std.proofs.lemmas.Bool.{eq-eqb}

-- a declared case has the id that it was declared with
own-id : (d : CaseDecl) → has_id d.id d ≡ true
own-id d = rw (eq-eqb d.id.type_no d.id.type_no refl, eq-eqb d.id.place d.id.place refl)

pub declared_at : (cases : List CaseDecl) (i : ℕ) (d : CaseDecl) → slice_get cases i ≡ Some d → IsDeclared d.id cases
declared_at cases i d is = any_passes_from_place (has_id d.id) cases i d is (own-id d)

pub typed_at : (f : File) → IsWorkable f → (k : ℕ) (d : CaseDecl) → k < length f.cases → d ≡ get_or f.cases k d → d.id.type_no < length f.types
typed_at f workable k d lt at =
    declared-typed (length f.types) f.cases d.id workable.typed (declared_at f.cases k d (slice_get-get_or f.cases k d lt ∙ ap (λ (e : CaseDecl). Some e) (sym at)))

module _ {X : Type 0} where
  pub row_counted : (rows : List (List X)) (t n : ℕ) → slice_get (map length rows) t ≡ Some n → (row : List X) × (slice_get rows t ≡ Some row) × (length row ≡ n)
  row_counted [] t n is = absurd (cc)
  row_counted (row ∷ rows) zero n is = (row, refl, cc)
  row_counted (row ∷ rows) (suc t) n is = row_counted rows t n is

  -- in rows that are as long as a file has cases of each type there is something for each declared case
  pub there-for_declared : (f : File) (rows : List (List X)) (c : CaseId) → IsWorkable f → AreCounts f (map length rows) → IsDeclared c f.cases → (x : X) × (at_case rows c ≡ Some x)
  there-for_declared f rows c workable counts declared =
      let typed = declared-typed (length f.types) f.cases c workable.typed declared in
      let placed = declared-placed f.cases c workable.placed declared in
      let row = row_counted rows c.type_no (cases_of_type c.type_no f.cases) (counts.each c.type_no typed) in
      let at = there_at row.0 c.place (omega (arith, placed, row.2)) in
      (at.0, ap (in_row c.place) row.1 ∙ at.1)

  pub has-declared : (f : File) (rows : List (List X)) (c : CaseId) → IsWorkable f → AreCounts f (map length rows) → IsDeclared c f.cases → IsSome (at_case rows c)
  has-declared f rows c workable counts declared = ap is_some (there-for_declared f rows c workable counts declared).1

  pub there-for_case : (f : File) (rows : List (List X)) (i : ℕ) (d : CaseDecl) → IsWorkable f → AreCounts f (map length rows) → slice_get f.cases i ≡ Some d → (x : X) × (at_case rows d.id ≡ Some x)
  there-for_case f rows i d workable counts is = there-for_declared f rows d.id workable counts (declared_at f.cases i d is)
