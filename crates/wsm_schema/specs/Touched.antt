-- The nodes that differ between two schemas, and the region behind them.
use Rattle.std.specs.Prelude.{◌≡◌, ◌≢◌, ℕ, List, Option, Contains, Some}
use Rattle.wsm_schema.specs.{Flat.{FlatModel, card_at, kind_in}, declared.cards.Card.Card}

-- a node in one of them alone, or with another card, or one that writes an element of another kind
pub data Touched (a b : FlatModel) (n : ℕ) : Type 0 where
  card_differs : card_at n a.cards ≢ card_at n b.cards → Touched a b n
  kind_differs : (c : Card) (d : ℕ) → card_at n a.cards ≡ Some c → Contains c.writes d → kind_in d a.elements ≢ kind_in d b.elements → Touched a b n

-- edges lead from one node to another, or they are one
pub data Reaches (cards : List Card) : ℕ → ℕ → Type 0 where
  here : (n : ℕ) → Reaches cards n n
  by_control : (m n : ℕ) (c : Card) (label : Option ℕ) → card_at n cards ≡ Some c → Contains c.ins (record { node = m; label = label }) → (a : ℕ) → Reaches cards a m → Reaches cards a n
  by_sync : (m n : ℕ) (c : Card) → card_at n cards ≡ Some c → Contains c.syncs_in m → (a : ℕ) → Reaches cards a m → Reaches cards a n

-- the nodes that touched nodes reach in the second schema
pub data InRegion (a b : FlatModel) (n : ℕ) : Type 0 where
  in_region : (m : ℕ) → Touched a b m → Reaches b.cards m n → InRegion a b n
