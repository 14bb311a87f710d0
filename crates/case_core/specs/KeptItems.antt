-- The work items of a case, told by its marks and its trail, and what an event makes of them.
use Rattle.std.specs.Prelude.{◌≡◌, ℕ, List, Option, Some, None, option_map, ◌==◌, if◌then◌else◌}
use Rattle.case_core.specs.{CaseModel.LiveModel, Kept.marks_in, Machine.user_of, Remarks.user_at}
use Rattle.wsm_items.specs.{WorkItems.item_node, declared.work_items.Item.Item}
use Rattle.wsm_items.specs.declared.work_items.Item.TheVariants as item
use Rattle.wsm_lists.specs.{ByNumber.{item_after, item_at}, Keys.first, Rows.put_row}
use Rattle.wsm_schema.specs.{Flat.{card_at, cards_of}, Kinds.worked_on, Trail.{TrailModel, pushed}, declared.cards.Card.Card, declared.entries.Entry.Entry, declared.marks.Mark.Mark, declared.states.State.State}
use Rattle.wsm_schema.specs.declared.states.State.TheVariants as state
use Rattle.wsm_walk.specs.{Kept.mark_or, MarkStates.mark_spot}

-- the work item of a node with that role in that state, where the user started it
abbrev pub work_item : ℕ → ℕ → State → ℕ → Option Item
work_item n role state.Activated user = Some (item.Offered n role)
work_item n role state.Running user = Some (item.Held n user)
work_item n role _ user = None

-- by its card and its mark
abbrev pub item_by : Option Card → ℕ → Mark → ℕ → Option Item
item_by None n m user = None
item_by (Some c) n m user = if worked_on c.kind then work_item n c.role (mark_spot c.kind n m).state user else None

-- where it has a mark or none, and these are the entries of the trail
abbrev pub item_for : List Card → List (ℕ × Entry) → ℕ → Option Mark → Option Item
item_for cards es n m = item_by (card_at n cards) n (mark_or m) (user_at es (mark_or m).started)

-- the work item of each node that has one
abbrev pub TellsItems : List Card → List (ℕ × Entry) → List (ℕ × Mark) → List (ℕ × Item) → Type 0
TellsItems cards es marks items = (n : ℕ) → item_at n items ≡ item_for cards es n (item_at n marks)

abbrev pub KeepsItems : LiveModel → List (ℕ × Item) → Type 0
KeepsItems l items = TellsItems (cards_of l.schema) l.trail.entries (marks_in l) items

-- what becomes of the work items of the nodes whose marks change
abbrev pub ChangesItems : List Card → List (ℕ × Entry) → List (ℕ × Option Mark) → List (ℕ × Option Item) → Type 0
ChangesItems cards es changes items = (n : ℕ) → item_at n items ≡ option_map (item_for cards es n) (item_at n changes)

-- who holds a node that was started at a position: the user of the entry that comes next, where it stands there, else who held
-- the node before
abbrev pub user_in : Option Item → ℕ
user_in (Some (item.Held n user)) = user
user_in _ = 0

abbrev pub user_from : ℕ → Option Entry → Option Item → ℕ → ℕ
user_from next None held p = user_in held
user_from next (Some e) held p = if p == next then user_of (Some (0, e)) else user_in held

abbrev pub user_then : ℕ → Option Entry → Option Item → Option ℕ → ℕ
user_then next e held None = 0
user_then next e held (Some p) = user_from next e held p

abbrev pub item_then : List Card → ℕ → Option Entry → Option Item → ℕ → Option Mark → Option Item
item_then cards next e held n m = item_by (card_at n cards) n (mark_or m) (user_then next e held (mark_or m).started)

-- the same as `ChangesItems`, told by the work items from before
abbrev pub MakesItems : List Card → ℕ → Option Entry → List (ℕ × Item) → List (ℕ × Option Mark) → List (ℕ × Option Item) → Type 0
MakesItems cards next e old changes items = (n : ℕ) → item_at n items ≡ option_map (item_then cards next e (item_at n old) n) (item_at n changes)

-- the work items once those of the nodes whose marks change became what they are then
abbrev pub RenewsItems : List Card → ℕ → Option Entry → List (ℕ × Item) → List (ℕ × Option Mark) → List (ℕ × Item) → Type 0
RenewsItems cards next e old changes new = (n : ℕ) → item_at n new ≡ item_after (option_map (item_then cards next e (item_at n old) n) (item_at n changes)) (item_at n old)

-- the entries of a trail that gets one more, or none
abbrev pub entries_with : TrailModel → Option Entry → List (ℕ × Entry)
entries_with t None = t.entries
entries_with t (Some e) = (pushed e t).entries

-- rows with one more item, where there is one
abbrev pub with_item : Option Item → List (ℕ × Item) → List (ℕ × Item)
with_item None rows = rows
with_item (Some i) rows = put_row first (item_node i, i) rows

-- who holds an item
abbrev pub held_in : Option Item → Option ℕ
held_in (Some (item.Held n user)) = Some user
held_in _ = None
