-- What a case promises of what it shows.
use Rattle.std.specs.{Prelude.{◌≡◌, ℕ, Bool, true, false, ◌||◌, ◌==◌, List, [], ◌∷◌, Option, Some, None, is_some, if◌then◌else◌}, List.list_any}
use Rattle.case_core.specs.{CaseModel.{CaseModel, LiveModel, state_of, value_now}, declared.events.Event.Event, declared.replies.Reply.Reply, declared.views.View.View}
use Rattle.case_core.specs.declared.events.Event.TheVariants as event
use Rattle.wsm_items.specs.declared.work_items.Item.{Item}
use Rattle.wsm_items.specs.declared.work_items.Item.TheVariants as item
use Rattle.case_core.specs.declared.replies.Reply.TheVariants as reply
use Rattle.case_core.specs.declared.views.View.TheVariants as view
use Rattle.wsm_lists.specs.{Keys.first, Rows.{AllRows, Ascends}, Values.{Written, value_in}, declared.values.Value.Value}
use Rattle.wsm_schema.specs.{Flat.{cards_of, card_at}, SchemaModel.SchemaModel, Sound.writes_of, declared.cards.Card.Card, Replay.is_in_state}
use Rattle.wsm_schema.specs.declared.entries.Entry.TheVariants as entry
use Rattle.wsm_schema.specs.declared.states.State.TheVariants.{Running}
use Rattle.wsm_trail.specs.EntryAt.{entry_at}

abbrev pub has_work : List Item → Bool
has_work [] = false
has_work (i ∷ is) = true

-- a case that was created is finished, or somebody may work on it
abbrev pub goes_on : View → Bool
goes_on view.None = true
goes_on (view.Live version own finished marking values items) = finished || has_work items

-- each element that the node of an offer must read has a value
abbrev pub IsFilled : SchemaModel → Written → Item → Type 0
IsFilled s values (item.Offered n role) =
    (c : Card) → card_at n (cards_of s) ≡ Some c → AllRows (λ r. r.1 ≡ true → is_some (value_in r.0 values) ≡ true) c.reads
IsFilled s values (item.Held n user) = Unit {0}

-- no two nodes that are held write one element
abbrev pub holds : ℕ → Item → Bool
holds n (item.Offered node role) = false
holds n (item.Held node user) = node == n

abbrev pub is_held : ℕ → List Item → Bool
is_held n items = list_any (λ i. holds n i) items

abbrev pub AreApart : SchemaModel → List Item → Type 0
AreApart s items =
    (a b d : ℕ) → (a == b) ≡ false → is_held a items ≡ true → is_held b items ≡ true → writes_of s a d ≡ true → writes_of s b d ≡ true → ⊥

-- the offers of a view are filled, and what it shows as held writes apart
abbrev pub IsFair : LiveModel → View → Type 0
IsFair l view.None = Unit {0}
IsFair l (view.Live version own finished marking values items) = AllRows (IsFilled l.schema values) items × AreApart l.schema items

abbrev pub IsFairCase : Option LiveModel → View → Type 0
IsFairCase None shown = Unit {0}
IsFairCase (Some l) shown = IsFair l shown

abbrev pub IsFairView : CaseModel → View → Type 0
IsFairView s shown = IsFairCase s.live shown

-- each element that a node must read had a value when it was started
abbrev pub value_read : ℕ → List (ℕ × Option Value) → Option Value
value_read d [] = None
value_read d (r ∷ rs) = if r.0 == d then r.1 else value_read d rs

abbrev pub ReadsAll : LiveModel → ℕ → Reply → Type 0
ReadsAll l node (reply.Started reads) =
    (c : Card) → card_at node (cards_of l.schema) ≡ Some c → AllRows (λ r. r.1 ≡ true → is_some (value_read r.0 reads) ≡ true) c.reads
ReadsAll l node _ = Unit {0}

abbrev pub StartsFilled : Option LiveModel → Event → Reply → Type 0
StartsFilled (Some l) (event.Start node user roles) r = ReadsAll l node r
StartsFilled _ _ r = Unit {0}

-- the values that are shown are those of the last writes below the next position, ascending by element
abbrev pub AreLastWrites : LiveModel → View → Type 0
AreLastWrites l view.None = Unit {0}
AreLastWrites l (view.Live version own finished marking values items) = Ascends first values × ((d : ℕ) → value_in d values ≡ value_now l d)

abbrev pub ShowsLastWrites : Option LiveModel → View → Type 0
ShowsLastWrites None shown = Unit {0}
ShowsLastWrites (Some l) shown = AreLastWrites l shown

-- the entry that a blocked reply names stands in the trail at its position
abbrev pub NamesEntry : LiveModel → Reply → Type 0
NamesEntry l (reply.Blocked position e) = entry_at position l.trail.entries ≡ Some e
NamesEntry l _ = Unit {0}

abbrev pub NamesEntryIn : Option LiveModel → Reply → Type 0
NamesEntryIn None r = Unit {0}
NamesEntryIn (Some l) r = NamesEntry l r

-- who holds a node started it: the trail has the Start
abbrev pub HasStart : LiveModel → ℕ → ℕ → Type 0
HasStart l n user = (p : ℕ) × (reads : List (ℕ × Option Value)) × (entry_at p l.trail.entries ≡ Some (entry.Start n user reads))

abbrev pub StartedWhereRunning : LiveModel → ℕ → ℕ → Type 0
StartedWhereRunning l n user = is_in_state (state_of l n) Running ≡ true → HasStart l n user

abbrev pub HolderStarted : Option LiveModel → ℕ → Option ℕ → Type 0
HolderStarted (Some l) n (Some user) = HasStart l n user
HolderStarted _ n _ = Unit {0}
