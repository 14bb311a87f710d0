-- The nodes that differ between two schemas, as a list that computes.
use Rattle.std.specs.{Prelude.{ℕ, Bool, true, false, not, is_some, ◌&&◌, List, [], ◌∷◌, ◌++◌, filter, map, Option, Some, None}, List.list_all, Option.option_eq}
use Rattle.wsm_lists.specs.{Rows.put_row, declared.values.ElementKind.ElementKind}
use Rattle.wsm_lists.specs.declared.values.ElementKind.TheVariants as kind
use Rattle.wsm_schema.specs.{Flat.{FlatModel, card_at, kind_in}, declared.cards.Card.Card}
use Rattle.wsm_touch.specs.SameCards.{same_card}

abbrev pub one_kind : ElementKind → ElementKind → Bool
one_kind kind.Int kind.Int = true
one_kind kind.Text kind.Text = true
one_kind _ _ = false

-- whether elements have the same kinds in both schemas
abbrev pub same_kinds : FlatModel → FlatModel → List ℕ → Bool
same_kinds a b elements = list_all (λ d. option_eq one_kind (kind_in d a.elements) (kind_in d b.elements)) elements

-- whether two cards differ, or what the node writes
abbrev pub differs : FlatModel → FlatModel → Option Card → Option Card → Bool
differs a b None None = false
differs a b (Some c) (Some d) = not (same_card c d && same_kinds a b c.writes)
differs a b _ _ = true

abbrev pub is_touched : FlatModel → FlatModel → ℕ → Bool
is_touched a b n = differs a b (card_at n a.cards) (card_at n b.cards)

abbrev pub number : ℕ → ℕ × ℕ
number n = (n, 0)

-- a set in ascending order with some more numbers
abbrev pub put_all : List ℕ → List ℕ → List ℕ
put_all [] set = set
put_all (n ∷ ns) set = put_all ns (put_row number n set)

abbrev pub nodes_in : List Card → List ℕ
nodes_in cards = map (λ c. c.node) cards

-- those of the old schema that are touched, and those that the new one alone has
abbrev pub touched_nodes : FlatModel → FlatModel → List ℕ
touched_nodes a b = put_all (filter (is_touched a b) (nodes_in a.cards) ++ filter (λ n. not (is_some (card_at n a.cards))) (nodes_in b.cards)) []
