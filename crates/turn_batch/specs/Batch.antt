-- One call on each of many cells.
use Rattle.std.specs.Prelude.{◌≡◌, ◌+◌, ◌<◌, ◌≤◌, List, [], ◌∷◌, length, Some, None, Result, Err, IsSome, MatchResult, MatchOption}
use Rattle.turn_cell.specs.{declared.faults.CallFault.CallFault, declared.limits.TheConstants.MAX_ENTRIES, declared.pass.Pass.Pass, declared.cell.Cell.Cell, Passes.{PassView, view_of, IsPassOf, Sees, Calls}}
use Rattle.turn_cell.specs.declared.faults.CallFault.TheVariants.{Full, NoMemory}

module _ {M E R W S : Type 0} {g : _} where
  -- there are as many passes as cells, and each is of the cell at its place
  abbrev pub AreOf : List (Cell M E R W S) → List (Pass M E R W S g) → Type 0
  AreOf [] [] = Unit {0}
  AreOf [] (p ∷ ps) = ⊥
  AreOf (c ∷ cs) [] = ⊥
  AreOf (c ∷ cs) (p ∷ ps) = IsPassOf c p × AreOf cs ps

  -- each keeps an answer
  abbrev pub AreAnswered : List (Pass M E R W S g) → Type 0
  AreAnswered [] = Unit {0}
  AreAnswered (p ∷ ps) = IsSome (view_of p).kept × AreAnswered ps

  -- each kept the answer at its place, and keeps it no longer
  abbrev pub AreTaken : List (Pass M E R W S g) → List (Result R CallFault) → List (Pass M E R W S g) → Type 0
  AreTaken [] [] [] = Unit {0}
  AreTaken (p ∷ ps) (a ∷ answers) (q ∷ qs) = ((view_of p).kept ≡ Some a) × (view_of q ≡ record (view_of p) { kept = None }) × AreTaken ps answers qs
  AreTaken _ _ _ = ⊥

module _ {M E R W S : Type 0} (after : S → E → S) (reply : S → E → R) (event : E) where
  -- what a call with that answer leaves of a pass
  pub record IsCalled (v : PassView M E R W S) (answer : Result R CallFault) (w : PassView M E R W S) : Type 0 where
    pub cell : w.cell ≡ v.cell
    pub opening : w.opening ≡ v.opening
    pub number : w.number ≡ v.number
    pub made : w.made ≡ v.made
    pub taken : w.taken ≡ v.taken
    pub past : w.past ≡ v.past
    pub outcome : MatchResult answer (λ r. Calls after reply event v r w) (λ _. Sees after reply v w)
    pub room : length w.seen ≤ MAX_ENTRIES
    pub full : answer ≡ Err Full → length w.seen ≡ MAX_ENTRIES
    pub memory : answer ≡ Err NoMemory → length w.seen < MAX_ENTRIES

  -- a call that does not wait keeps its answer, or has found the turn taken
  abbrev pub IsTried : PassView M E R W S → PassView M E R W S → Type 0
  IsTried v w = MatchOption w.kept (w ≡ record v { met = v.met + 1; kept = None }) (λ answer. IsCalled v answer w)

  -- a pass that keeps no answer makes its call, and keeps the answer
  abbrev pub IsServed : PassView M E R W S → PassView M E R W S → Type 0
  IsServed v w = MatchOption v.kept (MatchOption w.kept ⊥ (λ answer. IsCalled v answer w)) (λ _. w ≡ v)

  module _ {g : _} where
    -- each pass has made one call, with the answer at its place
    abbrev pub AreCalled : List (Pass M E R W S g) → List (Result R CallFault) → List (Pass M E R W S g) → Type 0
    AreCalled [] [] [] = Unit {0}
    AreCalled (p ∷ ps) (a ∷ answers) (q ∷ qs) = IsCalled (view_of p) a (view_of q) × ((view_of q).kept ≡ None) × AreCalled ps answers qs
    AreCalled _ _ _ = ⊥
