-- Rows of cases are emptied from behind, declaration by declaration.
use Rattle.crew_run.proofs.Common.{[], ℕ, ◌++◌, ◌+◌, ◌-◌, ◌<◌, ◌∙◌, ◌∷◌, ◌≡◌, AllZip, ap, AreCounts, arith, at_case, CaseDecl, cases_of_type, declared-placed, declared-typed, drop, drop_all, drop_more, File, get-set_same, get_or}
use Rattle.crew_run.proofs.Common.{get_or-take, get_or_from_slice_get, in_row, IsWorkable, length, length-map, length-set, length-take-le, List, map, refl, reverse, reverse-append, set, slice_get, slice_get-get_or, slice_get_within, Some}
use Rattle.crew_run.proofs.{Common.{subst, sym, take, take-take, take_all}, CasePlaces.{declared_at, row_counted}, CasesCounted.{counted-other, counted-own, other_at}}
use mathlib.Core.Logic.{dite}
use native.Mathlib.Decide.{ℕ_discrete}

module _ {X : Type 0} where
  -- of each row the first ones are left, as many as there are cases of its type among these
  abbrev pub AreLeft : List CaseDecl → List (List X) → List (List X) → Type 0
  AreLeft ds rows left = (t : ℕ) (row : List X) → slice_get rows t ≡ Some row → slice_get left t ≡ Some (take (cases_of_type t ds) row)

  all_left : (f : File) (rows : List (List X)) → AreCounts f (map length rows) → AreLeft f.cases rows rows
  all_left f rows counts t row is =
      let within = slice_get_within rows t row is in
      let counted = row_counted rows t (cases_of_type t f.cases) (counts.each t (omega (arith, within, counts.types, length-map rows length))) in
      let same : counted.0 ≡ row = cc (is, counted.1) in
      is ∙ ap (λ (xs : List X). Some xs) (sym (take_all (cases_of_type t f.cases) row (omega (arith, ap length same, counted.2))))

module _ {X K : Type 0} (g : X → K) (f : File) (rows : List (List X)) where
  -- what a declared case became
  abbrev pub Became : CaseDecl → K → Type 0
  Became d k = (x : X) × (at_case rows d.id ≡ Some x) × (k ≡ g x)

  -- All declarations from k on were worked, from the last one: this is left of the rows, and these were made.
  pub record EmptiedTo (k : ℕ) (left : List (List X)) (made : List K) : Type 0 where
    pub rest : AreLeft (take k f.cases) rows left
    pub even : length left ≡ length rows
    pub became : AllZip Became (drop k f.cases) (reverse made)

  pub none_emptied : AreCounts f (map length rows) → EmptiedTo (length f.cases) rows []
  none_emptied counts = record {
    rest = rw (take_all (length f.cases) f.cases (omega arith)) (all_left f rows counts);
    even = refl;
    became = rw (drop_all (length f.cases) f.cases (omega arith)) tt;
  }

  pub all_emptied : (left : List (List X)) (made : List K) → EmptiedTo 0 left made → AllZip Became f.cases (reverse made)
  all_emptied left made e = e.became

  module _ (workable : IsWorkable f) (counts : AreCounts f (map length rows)) (n k : ℕ) (next : n ≡ k + 1) (left : List (List X)) (made : List K) (e : EmptiedTo n left made) (d : CaseDecl) (declared : slice_get f.cases k ≡ Some d) where
    lt : k < length f.cases
    lt = slice_get_within f.cases k d declared

    at : d ≡ get_or f.cases k d
    at = sym (get_or_from_slice_get f.cases k d d declared)

    rest : AreLeft (take (k + 1) f.cases) rows left
    rest = rw next at e.rest

    typed : d.id.type_no < length f.types
    typed = declared-typed (length f.types) f.cases d.id workable.typed (declared_at f.cases k d declared)

    -- the row of its type
    own : (row : List X) × (slice_get rows d.id.type_no ≡ Some row) × (length row ≡ cases_of_type d.id.type_no f.cases)
    own = row_counted rows d.id.type_no (cases_of_type d.id.type_no f.cases) (counts.each d.id.type_no typed)

    within : d.id.place < length own.0
    within = omega (arith, own.2, declared-placed f.cases d.id workable.placed (declared_at f.cases k d declared))

    own_left : slice_get left d.id.type_no ≡ Some (take (d.id.place + 1) own.0)
    own_left =
        rest d.id.type_no own.0 own.1
        ∙ ap (λ (n : ℕ). Some (take n own.0)) (omega (arith, counted-own f.cases k d lt at, workable.placed k d declared))

    pub row_there : d.id.type_no < length left
    row_there = slice_get_within left d.id.type_no (take (d.id.place + 1) own.0) own_left

    row_is : (r : List X) → r ≡ get_or left d.id.type_no r → r ≡ take (d.id.place + 1) own.0
    row_is r is = is ∙ get_or_from_slice_get left d.id.type_no (take (d.id.place + 1) own.0) r own_left

    pub row_length : (r : List X) → r ≡ get_or left d.id.type_no r → length r ≡ d.id.place + 1
    row_length r is = ap length (row_is r is) ∙ length-take-le (d.id.place + 1) own.0 (omega (arith, within))

    left_then : AreLeft (take k f.cases) rows (set left d.id.type_no (take d.id.place own.0))
    left_then t row stands =
        let new = take d.id.place own.0 in
        let on_own : t ≡ d.id.type_no → slice_get (set left d.id.type_no new) t ≡ Some (take (cases_of_type t (take k f.cases)) row) =
        λ same.
        let row_same : row ≡ own.0 = cc (stands, same, own.1) in
        subst (λ (m : ℕ). slice_get (set left d.id.type_no new) m ≡ Some (take (cases_of_type m (take k f.cases)) row)) (sym same)
        (get-set_same left d.id.type_no new row_there ∙ ap (λ (xs : List X). Some xs) (rw (row_same, ← workable.placed k d declared) refl)) in
        dite (ℕ_discrete t d.id.type_no) on_own
        (λ apart. other_at left d.id.type_no t (take (cases_of_type t (take k f.cases)) row) new apart
        (rest t row stands ∙ ap (λ (n : ℕ). Some (take n row)) (counted-other f.cases k t d lt at apart)))

    pub one_more_emptied : (r rest : List X) (x : X) → r ≡ get_or left d.id.type_no r → x ≡ get_or r (length r - 1) x → rest ≡ take (length r - 1) r → EmptiedTo k (set left d.id.type_no rest) (made ++ g x ∷ [])
    one_more_emptied r rest x is last front =
        let last_place : length r - 1 ≡ d.id.place = omega (arith, row_length r is) in
        let rest_is : rest ≡ take d.id.place own.0 = front ∙ (ap (λ n. take n r) last_place ∙ (ap (take d.id.place) (row_is r is) ∙ take-take d.id.place (d.id.place + 1) own.0 (omega arith))) in
        let x_is : x ≡ get_or own.0 d.id.place x =
        last ∙ (ap (λ n. get_or r n x) last_place ∙ (ap (λ xs. get_or xs d.id.place x) (row_is r is) ∙ get_or-take (d.id.place + 1) own.0 d.id.place x (omega arith))) in
        let stood : at_case rows d.id ≡ Some x =
        ap (in_row d.id.place) own.1 ∙ (slice_get-get_or own.0 d.id.place x within ∙ ap (λ (y : X). Some y) (sym x_is)) in
        record {
          rest = rw rest_is left_then;
          even = length-set left d.id.type_no rest ∙ e.even;
          became = rw (drop_more f.cases k d lt, ← at, reverse-append made (g x ∷ [])) ((x, stood, refl), rw next at e.became);
        }
