-- Where nodes of pieces were put.
use Rattle.std.specs.{Prelude.{◌≡◌, ℕ, Bool, true, false, ◌||◌, nat_eq, List, slice_get, Option, Some, None, is_some}, List.list_any, HashMap.get}
use Rattle.wsm_ops.specs.{Outline.{is_node, seat_on}, declared.pieces.Piece.Piece, declared.pieces.Seat.Seat, declared.places.Places.Places}

-- the place that is known of a node
abbrev pub place_of : Places → ℕ → Option ℕ
place_of p n = get nat_eq p.nodes n

-- whether a place is known
abbrev pub is_known : (ℕ → Option ℕ) → ℕ → Bool
is_known place n = is_some (place n)

-- a place is known of the nodes of these pieces, too, and of no others
abbrev pub Noted : (ℕ → Option ℕ) → List Piece → (ℕ → Option ℕ) → Type 0
Noted old ps new = (n : ℕ) → is_known new n ≡ (list_any (is_node n) ps || is_known old n)

-- a place is known of each node
abbrev pub IsNoted : (ℕ → Option ℕ) → List Piece → Type 0
IsNoted place ps = (n : ℕ) → list_any (is_node n) ps ≡ true → is_known place n ≡ true

-- whether a piece that may be none passes
abbrev pub passes : (Piece → Bool) → Option Piece → Bool
passes test None = false
passes test (Some p) = test p

-- a place at which a test passes, or none where no piece passes
abbrev pub IsPlace : (Piece → Bool) → List Piece → Option ℕ → Type 0
IsPlace test ps None = list_any test ps ≡ false
IsPlace test ps (Some i) = passes test (slice_get ps i) ≡ true

-- a place at which a test passes, if one is told
abbrev pub IsFound : (Piece → Bool) → List Piece → Option ℕ → Type 0
IsFound test ps None = Unit {0}
IsFound test ps (Some i) = passes test (slice_get ps i) ≡ true

-- what a piece that may be none says of a node
abbrev pub seat_there : ℕ → Option Piece → Option Seat
seat_there n None = None
seat_there n (Some p) = seat_on n p
