-- Pieces in runs, and spots in them.
use Rattle.std.specs.{Prelude.{◌≡◌, ℕ, ◌+◌, zero, suc, Bool, true, false, List, [], ◌∷◌, ◌++◌, length, take, drop, Option, Some, None, slice_get, Vec}, List.list_any}
use Rattle.wsm_ops.specs.{Places.passes, declared.pieces.Piece.Piece, declared.runs.Spot.Spot}

-- all pieces of some runs
abbrev pub joined : {A : Type 0} → List (Vec Piece A) → List Piece
joined [] = []
joined (r ∷ rs) = r.items ++ joined rs

-- the pieces of a run, none where there is no such run
abbrev pub items_at : {A : Type 0} → List (Vec Piece A) → ℕ → List Piece
items_at [] run = []
items_at (r ∷ rs) zero = r.items
items_at (r ∷ rs) (suc run) = items_at rs run

-- the place among all pieces of the one at a place of a run
abbrev pub place_at : {A : Type 0} → List (Vec Piece A) → ℕ → ℕ → ℕ
place_at [] run at = at
place_at (r ∷ rs) zero at = at
place_at (r ∷ rs) (suc run) at = length r.items + place_at rs run at

-- some pieces with others at a place
abbrev pub with_pieces_at : List Piece → ℕ → List Piece → List Piece
with_pieces_at ps at new = take at ps ++ (new ++ drop at ps)

-- a spot at which a test passes, or none where no piece passes
abbrev pub IsSpot : {A : Type 0} → (Piece → Bool) → List (Vec Piece A) → Option Spot → Type 0
IsSpot test runs None = list_any test (joined runs) ≡ false
IsSpot test runs (Some s) = passes test (slice_get (items_at runs s.run) s.at) ≡ true

-- the same of one run
abbrev pub IsSpotIn : {A : Type 0} → (Piece → Bool) → List (Vec Piece A) → ℕ → Option Spot → Type 0
IsSpotIn test runs run None = list_any test (items_at runs run) ≡ false
IsSpotIn test runs run (Some s) = (s.run ≡ run) × (passes test (slice_get (items_at runs s.run) s.at) ≡ true)
