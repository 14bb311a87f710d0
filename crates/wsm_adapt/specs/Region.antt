-- The nodes that a change reaches.
use Rattle.std.specs.Prelude.{◌≡◌, ℕ, Bool, List}
use Rattle.wsm_schema.specs.{Flat.{FlatModel, cards_of, flat_of}, Rank.IsRank, SchemaModel.SchemaModel, Trail.is_one_of, declared.cards.Card.Card}
use Rattle.wsm_marks.specs.Schemas.{Regular}
use Rattle.wsm_walk.specs.Reached.{reached_from}

-- whether some nodes reach a node
abbrev pub is_reached : List Card → List ℕ → List ℕ → ℕ → Bool
is_reached cards rank seeds n = is_one_of n (reached_from cards rank seeds)

-- the flat form of a regular schema, with a rank
abbrev pub IsNet : FlatModel → List ℕ → Type 0
IsNet flat rank = (s : SchemaModel) × (flat ≡ flat_of s) × Regular s × IsRank (cards_of s) rank
