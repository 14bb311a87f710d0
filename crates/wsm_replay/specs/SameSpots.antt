-- Tables that agree.
use Rattle.std.specs.Prelude.{◌≡◌, ℕ, List, Some}
use Rattle.wsm_lists.specs.Rows.{row_at}
use Rattle.wsm_schema.specs.{Flat.card_at, Rules.{Spots, spot_in, by_node, marking_of}, declared.cards.Card.Card}

-- the same spots of the cards' nodes
abbrev pub SameSpots : List Card → Spots → Spots → Type 0
SameSpots cards a b = (n : ℕ) (c : Card) → card_at n cards ≡ Some c → spot_in n a ≡ spot_in n b

-- the same first rows of all nodes
abbrev pub SameRows : Spots → Spots → Type 0
SameRows a b = (n : ℕ) → row_at by_node (n, 0) a ≡ row_at by_node (n, 0) b

-- a table that is the marking of its own spots
abbrev pub IsMarking : List Card → Spots → Type 0
IsMarking cards t = marking_of cards t ≡ t
