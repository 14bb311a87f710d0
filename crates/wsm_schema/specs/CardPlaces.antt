-- How cards are found by their nodes.
use Rattle.std.specs.Prelude.{◌≡◌, ℕ, Bool, true, List, Some, slice_get}
use Rattle.wsm_schema.specs.{Flat.card_at, Groups.{SameGroups, numbered}, declared.cards.Card.Card}

-- each card is the first of its node
abbrev pub EachFirst : List Card → Type 0
EachFirst cards = (place : ℕ) (c : Card) → slice_get cards place ≡ Some c → card_at c.node cards ≡ Some c

-- the rows tell the places of the cards by node, and a flag that each card is the first of its node
pub record IsIndexed (cards : List Card) (rows : List (ℕ × ℕ)) (apart : Bool) : Type 0 where
  pub placed : SameGroups (numbered 0 cards) rows
  pub first : apart ≡ true → EachFirst cards
