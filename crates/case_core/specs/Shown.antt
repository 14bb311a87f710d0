-- What a case shows: its marking, its values and its work items.
use Rattle.std.specs.Prelude.{ℕ, List, [], ◌∷◌, length, flat_map, Option, Some, None, if◌then◌else◌}
pub use Rattle.case_core.specs.CaseModel.{shown_after, shown_spots, is_finished}
use Rattle.case_core.specs.{CaseModel.{CaseModel, LiveModel, state_of, shown_spots, is_finished}, Machine.holder_of, declared.views.View.View}
use Rattle.case_core.specs.declared.views.View.TheVariants as view
use Rattle.wsm_lists.specs.Values.{Written}
use Rattle.wsm_trail.specs.LastWrites.{noted_entries, values_at}
use Rattle.wsm_items.specs.declared.work_items.Item.{Item}
use Rattle.wsm_items.specs.declared.work_items.Item.TheVariants as item
use Rattle.wsm_schema.specs.{Flat.{cards_of, card_at}, Kinds.worked_on, Rules.spot_in, declared.states.Spot.Spot, declared.cards.Card.Card, declared.states.State.State}
use Rattle.wsm_schema.specs.declared.states.State.TheVariants as state

-- an activated node is offered with its role, and a running one is held by its user
abbrev pub item_in : LiveModel → Card → State → List Item
item_in l c state.Activated = item.Offered c.node c.role ∷ []
item_in l c state.Running = item.Held c.node (holder_of l c.node) ∷ []
item_in l c _ = []

abbrev pub item_of : LiveModel → Spot → Option Card → List Item
item_of l s None = []
item_of l s (Some c) = if worked_on c.kind then item_in l c s.state else []

-- that of a node
abbrev pub items_at : LiveModel → ℕ → List Item
items_at l n = item_of l (spot_in n (shown_spots l)) (card_at n (cards_of l.schema))

-- an item, where there is one
abbrev pub items_in : Option Item → List Item
items_in None = []
items_in (Some i) = i ∷ []

-- the work items, ascending by node
abbrev pub items_of : LiveModel → List Item
items_of l = flat_map (λ s. item_of l s (card_at s.node (cards_of l.schema))) (shown_spots l)

-- the state of a node of the schema, and who holds it where it is running
abbrev pub shown_state_of : LiveModel → ℕ → Option Card → Option State
shown_state_of l n None = None
shown_state_of l n (Some c) = Some (state_of l n)

abbrev pub shown_state : Option LiveModel → ℕ → Option State
shown_state None n = None
shown_state (Some l) n = shown_state_of l n (card_at n (cards_of l.schema))

abbrev pub held_by : LiveModel → ℕ → Option State → Option ℕ
held_by l n (Some state.Running) = Some (holder_of l n)
held_by l n _ = None

abbrev pub shown_holder : Option LiveModel → ℕ → Option ℕ
shown_holder None n = None
shown_holder (Some l) n = held_by l n (shown_state (Some l) n)

-- the value of the last write of each element that was written, ascending by element
abbrev pub values_of : LiveModel → Written
values_of l = values_at l.trail.entries (noted_entries l.trail.entries)

-- the number of its own operations
abbrev pub own_of : Option LiveModel → ℕ
own_of None = 0
own_of (Some l) = length l.own

-- what a case shows
abbrev pub shown_live : Option LiveModel → View
shown_live None = view.None
shown_live (Some l) = view.Live l.base.number (length l.own) (is_finished l) (shown_spots l) (values_of l) (items_of l)

abbrev pub shown : CaseModel → View
shown s = shown_live s.live
