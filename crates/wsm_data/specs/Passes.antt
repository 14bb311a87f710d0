-- What one pass over the nodes in the order of a rank goes by.
use Rattle.std.specs.Prelude.{◌≡◌, ℕ, true, List, Some}
use Rattle.wsm_lists.specs.Rows.{AllRows}
use Rattle.wsm_marks.specs.{Loops.HasEdge, Schemas.HasCard}
use Rattle.wsm_schema.specs.{SchemaModel.SchemaModel, Flat.cards_of, Sound.{sure_at, sure_of}, Trail.is_one_of, declared.cards.Card.Card}

-- a node of the net is among those seen
abbrev pub Seen : SchemaModel → List ℕ → ℕ → Type 0
Seen s seen n = (is_one_of n seen ≡ true) × HasCard (cards_of s) n

-- what is sure at a card comes from its sources, of which there are some, and which are among the nodes seen
pub record IsNext (s : SchemaModel) (seen : List ℕ) (c : Card) : Type 0 where
  pub edged : HasEdge c.kind c.ins
  pub behind : AllRows (λ e. Seen s seen e.node) c.ins
  pub synced : AllRows (Seen s seen) c.syncs_in
  pub solved : (d : ℕ) → sure_of s c.node d ≡ sure_at s (sure_of s) (Some c) d
