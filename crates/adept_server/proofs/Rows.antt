-- Rows of cells and of passes.
use Rattle.adept_server.proofs.Common.{[], ℕ, ◌<◌, ◌∙◌, ◌∷◌, ◌≡◌, ◌≤◌, ◌⊎◌, ap, AreOf, AreRowsOf, arith, at_case, CaseId, Cell, get_or, get_or_from_slice_get, in_row, inl, inr, is_some, IsSome, length, length-map, List, ltb, map, map-set}
use Rattle.adept_server.proofs.{Common.{None, Option, option_map, Pass, PassView, refl, set, slice_get, slice_get-map, slice_get_read, slice_get_within, Some, subst, suc, sym, true, Vec, view_of, zero}, Places.set_cases}
use borrow.Author.Tests.{ltb-true, lt-ltb, true-ltb}

module _ {M E R W S : Type 0} {g : _} where
  pub length-rows : (cs : List (List (Cell M E R W S))) (ps : List (List (Pass M E R W S g))) → AreRowsOf cs ps → length ps ≡ length cs
  length-rows [] [] k = refl
  length-rows [] (p ∷ ps) k = absurd k
  length-rows (c ∷ cs) [] k = absurd k
  length-rows (c ∷ cs) (p ∷ ps) k = ap suc (length-rows cs ps k.1)

  -- the row of passes at a place is of the cells there
  pub row_at : (cs : List (List (Cell M E R W S))) (ps : List (List (Pass M E R W S g))) → AreRowsOf cs ps → (t : ℕ) (c : List (Cell M E R W S)) (p : List (Pass M E R W S g)) → slice_get cs t ≡ Some c → slice_get ps t ≡ Some p → AreOf c p
  row_at [] [] k t c p cells passes = absurd (cc)
  row_at [] (q ∷ ps) k t c p cells passes = absurd k
  row_at (d ∷ cs) [] k t c p cells passes = absurd k
  row_at (d ∷ cs) (q ∷ ps) k zero c p cells passes =
      let same_cells : d ≡ c = cc (cells) in
      let same_passes : q ≡ p = cc (passes) in
      subst (λ x. AreOf c x) same_passes (subst (λ x. AreOf x q) same_cells k.0)
  row_at (d ∷ cs) (q ∷ ps) k (suc t) c p cells passes = row_at cs ps k.1 t c p cells passes

  -- a row of passes in another's place
  pub rows-of_set : (cs : List (List (Cell M E R W S))) (ps : List (List (Pass M E R W S g))) → AreRowsOf cs ps → (t : ℕ) (c : List (Cell M E R W S)) (q : List (Pass M E R W S g)) → slice_get cs t ≡ Some c → AreOf c q → AreRowsOf cs (set ps t q)
  rows-of_set [] [] k t c q there of = tt
  rows-of_set [] (p ∷ ps) k t c q there of = absurd k
  rows-of_set (d ∷ cs) [] k t c q there of = absurd k
  rows-of_set (d ∷ cs) (p ∷ ps) k zero c q there of = (let same : c ≡ d = cc (there) in subst (λ x. AreOf x q) same of, k.1)
  rows-of_set (d ∷ cs) (p ∷ ps) k (suc t) c q there of = (k.0, rows-of_set cs ps k.1 t c q there of)

module _ {X : Type 0} where
  -- where a row is changed, a case of that type stands in the new row, and another where it stood
  pub case_cases : (rows : List (List X)) (t : ℕ) (row : List X) (c : CaseId) (q : X) → at_case (set rows t row) c ≡ Some q → ((c.type_no ≡ t) × (slice_get row c.place ≡ Some q)) ⊎ (at_case rows c ≡ Some q)
  case_cases rows t row c q is = go (slice_get (set rows t row) c.type_no) refl is
    where
      go : (o : Option (List X)) → slice_get (set rows t row) c.type_no ≡ o → in_row c.place o ≡ Some q → ((c.type_no ≡ t) × (slice_get row c.place ≡ Some q)) ⊎ (at_case rows c ≡ Some q)
      go None stands is = absurd (cc)
      go (Some r) stands is = elim (set_cases rows t c.type_no row r stands) [
        | inl k ↦ inl (k.0, subst (λ x. slice_get x c.place ≡ Some q) k.1 is)
        | inr k ↦ inr (ap (in_row c.place) k ∙ is)
      ]

-- what stands behind an item of a list that was mapped
from_map : {A B : Type 0} (f : A → B) (xs : List A) (i : ℕ) (y : B) → slice_get (map f xs) i ≡ Some y → (x : A) × (slice_get xs i ≡ Some x) × (f x ≡ y)
from_map f [] i y is = absurd (cc)
from_map f (x ∷ xs) zero y is = (x, refl, cc)
from_map f (x ∷ xs) (suc i) y is = from_map f xs i y is

pub there_at : {X : Type 0} (xs : List X) (i : ℕ) → i < length xs → (x : X) × (slice_get xs i ≡ Some x)
there_at [] i lt = absurd (omega arith)
there_at (x ∷ xs) zero lt = (x, refl)
there_at (x ∷ xs) (suc i) lt = there_at xs i (omega arith)

within : {X : Type 0} (xs : List X) (i : ℕ) → IsSome (slice_get xs i) → i < length xs
within [] i is = absurd (cc)
within (x ∷ xs) zero is = omega arith
within (x ∷ xs) (suc i) is = let lt = within xs i is in omega arith

-- where a case is there, its type has a row, and the row its place
pub in_there : {X : Type 0} (place : ℕ) (o : Option (List X)) → IsSome (in_row place o) → (row : List X) × (o ≡ Some row) × (place < length row)
in_there place None is = absurd (cc)
in_there place (Some row) is = (row, refl, within row place is)

module _ {M E R W S A : Type 0} {g : _} where
  -- the cells of a type's cases, and the passes of them
  pub record RowAt (cs : List (Vec (Cell M E R W S) A)) (ps : List (Vec (Pass M E R W S g) A)) (t : ℕ) : Type 0 where
    pub cells : Vec (Cell M E R W S) A
    pub passes : Vec (Pass M E R W S g) A
    pub cells_there : slice_get cs t ≡ Some cells
    pub passes_there : slice_get ps t ≡ Some passes
    pub of : AreOf cells.items passes.items

  -- those of a case's type, with its place among them
  pub record HasRow (cs : List (Vec (Cell M E R W S) A)) (ps : List (Vec (Pass M E R W S g) A)) (id : CaseId) : Type 0 where
    pub row : RowAt cs ps id.type_no
    pub place_there : id.place < length row.passes.items

  abbrev pub AreVecsOf : List (Vec (Cell M E R W S) A) → List (Vec (Pass M E R W S g) A) → Type 0
  AreVecsOf cs ps = AreRowsOf (map (λ row. row.items) cs) (map (λ row. row.items) ps)

  row_by : (cs : List (Vec (Cell M E R W S) A)) (ps : List (Vec (Pass M E R W S g) A)) (t : ℕ) (passes : Vec (Pass M E R W S g) A) → AreVecsOf cs ps → slice_get ps t ≡ Some passes
      → (r : RowAt cs ps t) × (r.passes ≡ passes)
  row_by cs ps t passes k there =
      let same = length-rows (map (λ (row : Vec (Cell M E R W S) A). row.items) cs) (map (λ (row : Vec (Pass M E R W S g) A). row.items) ps) k in
      let within = slice_get_within ps t passes there in
      let cells = there_at cs t (omega (arith, length-map cs (λ (row : Vec (Cell M E R W S) A). row.items), length-map ps (λ (row : Vec (Pass M E R W S g) A). row.items))) in (
        record {
          cells = cells.0;
          passes = passes;
          cells_there = cells.1;
          passes_there = there;
          of = row_at (map (λ (row : Vec (Cell M E R W S) A). row.items) cs) (map (λ (row : Vec (Pass M E R W S g) A). row.items) ps) k t cells.0.items passes.items
              (slice_get-map (λ (row : Vec (Cell M E R W S) A). row.items) cs t ∙ ap (option_map (λ (row : Vec (Cell M E R W S) A). row.items)) cells.1)
              (slice_get-map (λ (row : Vec (Pass M E R W S g) A). row.items) ps t ∙ ap (option_map (λ (row : Vec (Pass M E R W S g) A). row.items)) there);
        },
        refl,
      )

  pub row_of : (cs : List (Vec (Cell M E R W S) A)) (ps : List (Vec (Pass M E R W S g) A)) (t : ℕ) → AreVecsOf cs ps → t < length ps → RowAt cs ps t
  row_of cs ps t k lt = let passes = there_at ps t lt in (row_by cs ps t passes.0 k passes.1).0

  pub row_there : (cs : List (Vec (Cell M E R W S) A)) (ps : List (Vec (Pass M E R W S g) A)) (id : CaseId) → AreVecsOf cs ps → IsSome (at_case (map (λ row. map view_of row.items) ps) id) → HasRow cs ps id
  row_there cs ps id k there =
      let row = in_there id.place (slice_get (map (λ (row : Vec (Pass M E R W S g) A). map view_of row.items) ps) id.type_no) there in
      let passes = from_map (λ (row : Vec (Pass M E R W S g) A). map view_of row.items) ps id.type_no row.0 row.1 in
      let lt : id.place < length (map view_of passes.0.items) = subst (λ (xs : List (PassView M E R W S)). id.place < length xs) (sym passes.2) row.2 in
      let by = row_by cs ps id.type_no passes.0 k passes.1 in
      record { row = by.0; place_there = subst (λ (v : Vec (Pass M E R W S g) A). id.place < length v.items) (sym by.1) (omega (arith, length-map passes.0.items view_of)) }

  -- where a row of passes is changed
  pub rows_behind : (cs : List (Vec (Cell M E R W S) A)) (ps qs : List (Vec (Pass M E R W S g) A)) (t : ℕ) (r : RowAt cs ps t) (row : Vec (Pass M E R W S g) A) → qs ≡ set ps t row → AreVecsOf cs ps → AreOf r.cells.items row.items → AreVecsOf cs qs
  rows_behind cs ps qs t r row behind k of =
      subst (AreRowsOf (map (λ (v : Vec (Cell M E R W S) A). v.items) cs)) (sym (ap (map (λ (v : Vec (Pass M E R W S g) A). v.items)) behind ∙ map-set (λ (v : Vec (Pass M E R W S g) A). v.items) ps t row))
      (rows-of_set (map (λ (v : Vec (Cell M E R W S) A). v.items) cs) (map (λ (v : Vec (Pass M E R W S g) A). v.items) ps) k t r.cells.items row.items
      (slice_get-map (λ (v : Vec (Cell M E R W S) A). v.items) cs t ∙ ap (option_map (λ (v : Vec (Cell M E R W S) A). v.items)) r.cells_there) of)

  pub view_there : (cs : List (Vec (Cell M E R W S) A)) (ps : List (Vec (Pass M E R W S g) A)) (t : ℕ) (r : RowAt cs ps t) → slice_get (map (λ row. map view_of row.items) ps) t ≡ Some (map view_of r.passes.items)
  view_there cs ps t r = slice_get-map (λ (v : Vec (Pass M E R W S g) A). map view_of v.items) ps t ∙ ap (option_map (λ (v : Vec (Pass M E R W S g) A). map view_of v.items)) r.passes_there

  pub views_behind : (ps qs : List (Vec (Pass M E R W S g) A)) (t : ℕ) (row : Vec (Pass M E R W S g) A) → qs ≡ set ps t row → map (λ row. map view_of row.items) qs ≡ set (map (λ row. map view_of row.items) ps) t (map view_of row.items)
  views_behind ps qs t row behind = ap (map (λ (v : Vec (Pass M E R W S g) A). map view_of v.items)) behind ∙ map-set (λ (v : Vec (Pass M E R W S g) A). map view_of v.items) ps t row

-- what a row that was read has is what stands there
pub items_at : {X A : Type 0} (rows : List (Vec X A)) (t : ℕ) (row read : Vec X A) (items : List X) → slice_get rows t ≡ Some row → items ≡ read.items → read ≡ get_or rows t read → items ≡ row.items
items_at {X} {A} rows t row read items there is from = is ∙ ap (λ (v : Vec X A). v.items) (from ∙ get_or_from_slice_get rows t row read there)

-- a case that has no row, and one that has
pub no_cell : {X A : Type 0} (rows : List (Vec X A)) (t place : ℕ) → length rows ≤ t → IsSome (in_row place (slice_get (map (λ (v : Vec X A). v.items) rows) t)) → ⊥
no_cell [] t place past is = cc
no_cell (r ∷ rows) zero place past is = absurd (omega arith)
no_cell (r ∷ rows) (suc t) place past is = no_cell rows t place (omega arith) is

pub cell_there : {X A : Type 0} (rows : List (Vec X A)) (t : ℕ) (row : Vec X A) → slice_get rows t ≡ Some row → slice_get (map (λ (v : Vec X A). v.items) rows) t ≡ Some row.items
cell_there {X} {A} rows t row there = slice_get-map (λ (v : Vec X A). v.items) rows t ∙ ap (option_map (λ (v : Vec X A). v.items)) there

pub place_within : {X : Type 0} (xs : List X) (i : ℕ) → i < length xs → IsSome (slice_get xs i)
place_within xs i lt = ap is_some (there_at xs i lt).1

-- what was read at a place stands there
pub read_there : {X : Type 0} (xs read : List X) (i : ℕ) (x : X) → read ≡ xs → true ≡ ltb i (length read) → x ≡ get_or read i x → slice_get xs i ≡ Some x
read_there xs read i x is within from = subst (λ ys. slice_get ys i ≡ Some x) is (slice_get_read read (length read) i x refl (true-ltb i (length read) within) from)

-- a case is there where its place is within its type's row
pub has_by : {X A : Type 0} (rows : List (Vec X A)) (t place n : ℕ) (row : Vec X A) → slice_get rows t ≡ Some row → n ≡ length row.items
    → (ltb place n ≡ true → IsSome (in_row place (slice_get (map (λ (v : Vec X A). v.items) rows) t))) × (IsSome (in_row place (slice_get (map (λ (v : Vec X A). v.items) rows) t)) → ltb place n ≡ true)
has_by {X} {A} rows t place n row there count =
    let stands = cell_there rows t row there in (
      (λ lt. ap (λ o. is_some (in_row place o)) stands ∙ place_within row.items place (let l = ltb-true place n lt in omega arith)),
      λ some. lt-ltb place n (let l = within row.items place (ap (λ o. is_some (in_row place o)) (sym stands) ∙ some) in omega arith),
    )

module _ {M E R W S : Type 0} {g : _} where
  cell_and_pass : (cs : List (Cell M E R W S)) (ps : List (Pass M E R W S g)) → AreOf cs ps → (i : ℕ) → is_some (slice_get cs i) ≡ is_some (slice_get (map view_of ps) i)
  cell_and_pass [] [] k i = refl
  cell_and_pass [] (p ∷ ps) k i = absurd k
  cell_and_pass (c ∷ cs) [] k i = absurd k
  cell_and_pass (c ∷ cs) (p ∷ ps) k zero = refl
  cell_and_pass (c ∷ cs) (p ∷ ps) k (suc i) = cell_and_pass cs ps k.1 i

  -- a case has a pass where it has a cell
  pub cells_and_passes : {A : Type 0} (cs : List (Vec (Cell M E R W S) A)) (ps : List (Vec (Pass M E R W S g) A)) → AreVecsOf cs ps → (t place : ℕ)
      → is_some (in_row place (slice_get (map (λ (v : Vec (Cell M E R W S) A). v.items) cs) t)) ≡ is_some (in_row place (slice_get (map (λ (v : Vec (Pass M E R W S g) A). map view_of v.items) ps) t))
  cells_and_passes [] [] k t place = refl
  cells_and_passes [] (p ∷ ps) k t place = absurd k
  cells_and_passes (c ∷ cs) [] k t place = absurd k
  cells_and_passes (c ∷ cs) (p ∷ ps) k zero place = cell_and_pass c.items p.items k.0 place
  cells_and_passes (c ∷ cs) (p ∷ ps) k (suc t) place = cells_and_passes cs ps k.1 t place

  -- the first row and the others
  pub first_row : {A : Type 0} (cs rest : List (Vec (Cell M E R W S) A)) (c : Vec (Cell M E R W S) A) (p : Vec (Pass M E R W S g) A) (ps : List (Vec (Pass M E R W S g) A)) → cs ≡ c ∷ rest → AreOf c.items p.items → AreVecsOf rest ps → AreVecsOf cs (p ∷ ps)
  first_row cs rest c p ps is of others = subst (λ (xs : _). AreVecsOf xs (p ∷ ps)) (sym is) (of, others)

  pub rest_of_rows : {A : Type 0} (cs rest : List (Vec (Cell M E R W S) A)) (c : Vec (Cell M E R W S) A) (ps left : List (Vec (Pass M E R W S g) A)) (p : Vec (Pass M E R W S g) A) → cs ≡ c ∷ rest → ps ≡ p ∷ left → AreVecsOf cs ps → AreVecsOf rest left
  rest_of_rows cs rest c ps left p cells passes of =
      let both : AreVecsOf (c ∷ rest) (p ∷ left) = subst (λ (xs : _). AreVecsOf xs (p ∷ left)) cells (subst (λ (xs : _). AreVecsOf cs xs) passes of) in both.1
