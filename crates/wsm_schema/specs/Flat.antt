-- A schema's flat form: a card for each node, in document order, and the elements.
use Rattle.std.specs.Prelude.{ℕ, List, [], ◌∷◌, map, filter, find, Option, Some, None, option_map, ◌==◌, if◌then◌else◌}
use Rattle.wsm_lists.specs.{Keys.{first, role_in}, Rows.row_at, declared.values.ElementKind.ElementKind}
use Rattle.wsm_schema.specs.{Kinds.is_loop_end, SchemaModel.SchemaModel, Places.places, declared.places.Place.Place, declared.cards.Card.Card}

-- a flat form as contracts see it
pub record FlatModel : Type 0 where
  pub cards : List Card
  pub elements : List (ℕ × ElementKind)

-- a place, with what the lists say of its node
abbrev pub card_of : SchemaModel → Place → Card
card_of s p = record {
  node = p.node;
  kind = p.kind;
  partner = p.partner;
  ins = p.ins;
  outs = p.outs;
  syncs_in = map (λ e. e.0) (filter (λ e. e.1 == p.node) s.syncs);
  syncs_out = map (λ e. e.1) (filter (λ e. e.0 == p.node) s.syncs);
  reads = map (λ r. (r.1, r.2)) (filter (λ r. r.0 == p.node) s.reads);
  writes = map (λ w. w.1) (filter (λ w. w.0 == p.node) s.writes);
  role = role_in p.node s.roles;
}

-- the cards of a schema, in document order
abbrev pub cards_of : SchemaModel → List Card
cards_of s = map (card_of s) (places s.start s.body s.finish)

-- the flat form of a schema
abbrev pub flat_of : SchemaModel → FlatModel
flat_of s = record { cards = cards_of s; elements = s.elements }

-- the first card of a node
abbrev pub card_at : ℕ → List Card → Option Card
card_at node cards = find (λ c. c.node == node) cards

-- the kind of an element, where it is listed
abbrev pub kind_in : ℕ → List (ℕ × ElementKind) → Option ElementKind
kind_in element elements = option_map (λ e. e.1) (row_at first (element, 0) elements)

-- the nodes from the first s on, and those up to the first e
abbrev pub from_node : ℕ → List ℕ → List ℕ
from_node s [] = []
from_node s (n ∷ ns) = if n == s then n ∷ ns else from_node s ns

abbrev pub up_to_node : ℕ → List ℕ → List ℕ
up_to_node e [] = []
up_to_node e (n ∷ ns) = if n == e then n ∷ [] else n ∷ up_to_node e ns

-- the start of the loop that ends with a node, by the node's card
abbrev pub loop_start : Option Card → Option ℕ
loop_start None = None
loop_start (Some c) = if is_loop_end c.kind then c.partner else None

-- the nodes from the start of a loop up to its end
abbrev pub loop_from : Option ℕ → ℕ → List ℕ → List ℕ
loop_from None e nodes = []
loop_from (Some s) e nodes = up_to_node e (from_node s nodes)

-- the nodes of the loop that ends with e, both ends included, in document order
abbrev pub loop_nodes : List Card → ℕ → List ℕ
loop_nodes cards e = loop_from (loop_start (card_at e cards)) e (map (λ c. c.node) cards)
