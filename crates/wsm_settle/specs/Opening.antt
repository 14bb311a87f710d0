-- The nodes that may be ready before any entry: those that wait for no edge.
use Rattle.std.specs.{Prelude.{ℕ, Bool, true, false, ◌&&◌, ◌==◌, List, [], ◌∷◌}, List.list_any}
use Rattle.wsm_schema.specs.{declared.cards.Card.Card, declared.cards.End.End, declared.cards.NodeKind.NodeKind}
use Rattle.wsm_schema.specs.declared.cards.NodeKind.TheVariants.{Start}

-- it is the start, or no control edge enters it
abbrev pub waits_for_none : NodeKind → List End → Bool
waits_for_none Start ins = true
waits_for_none kind [] = true
waits_for_none kind (e ∷ es) = false

-- a node that a card tells to be one
abbrev pub opens : ℕ → Card → Bool
opens n c = waits_for_none c.kind c.ins && c.node == n

abbrev pub is_opening : List Card → ℕ → Bool
is_opening cards n = list_any (opens n) cards
