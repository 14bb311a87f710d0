-- What is sure behind nodes: before them, or by what they write.
use Rattle.std.specs.{Prelude.{◌≡◌, ℕ, Bool, true, false, ◌||◌, ◌&&◌, ◌==◌, List, [], map, Option, Some, None}, List.list_any}
use Rattle.wsm_lists.specs.Rows.{row_at}
use Rattle.wsm_schema.specs.{SchemaModel.SchemaModel, Flat.cards_of, Sound.{sure_behind, sure_by, sure_of, has_one_edge, parts_bound}, Trail.is_one_of, declared.cards.Card.Card}
use Rattle.wsm_marks.specs.Schemas.{HasCard}
use Rattle.wsm_data.specs.declared.tables.Behind.{Behind}

-- the key of a row
abbrev pub by_node : Behind → ℕ × ℕ
by_node b = (b.node, 0)

-- the set of a row, where there is one
abbrev pub set_of : Option Behind → List ℕ
set_of None = []
set_of (Some b) = b.elements.value

-- the set that a table has for a node
abbrev pub set_behind : List Behind → ℕ → List ℕ
set_behind rows n = set_of (row_at by_node (n, 0) rows)

-- a table says of these nodes which elements have a value behind them, whatever came before
abbrev pub Tells : SchemaModel → List Behind → List ℕ → Type 0
Tells s rows nodes = (n d : ℕ) → is_one_of n nodes ≡ true → HasCard (cards_of s) n → is_one_of d (set_behind rows n) ≡ sure_behind s (sure_of s) n d

-- whether an element is sure at a card by what a table says of its sources
abbrev pub told_by_syncs : SchemaModel → List Behind → Card → ℕ → Bool
told_by_syncs s rows c d = list_any (λ m. parts_bound s.body m c.node && is_one_of d (set_behind rows m)) c.syncs_in

abbrev pub told_at : SchemaModel → List Behind → Card → ℕ → Bool
told_at s rows c d = sure_by c.kind (map (λ e. is_one_of d (set_behind rows e.node)) c.ins) || (has_one_edge c.kind && told_by_syncs s rows c d)

-- what it says of a card's sources is what is sure at the card
abbrev pub TellsAt : SchemaModel → List Behind → Card → Type 0
TellsAt s rows c = (d : ℕ) → told_at s rows c d ≡ sure_of s c.node d

-- one row more, or in place of another: the node's set has what passes a test, and those of other nodes are as before
pub record IsPut (test : ℕ → Bool) (node : ℕ) (old new : List Behind) : Type 0 where
  pub here : (d : ℕ) → is_one_of d (set_behind new node) ≡ test d
  pub others : (n : ℕ) → (node == n) ≡ false → set_behind new n ≡ set_behind old n
