-- Which entries are applicable, and the replay of a trail.
use Rattle.std.specs.Prelude.{ℕ, Bool, true, false, ◌&&◌, ◌||◌, not, List, [], ◌∷◌, Option, Some, None, is_some, ◌==◌, if◌then◌else◌}
use Rattle.wsm_schema.specs.{Flat.{FlatModel, card_at, kind_in}, Rules.{Spots, spot, spot_in, settle}, Kinds.{is_activity, is_xor_split, is_loop_end}, Trail.value_below, declared.cards.Card.Card, declared.cards.End.End}
use Rattle.wsm_schema.specs.{declared.entries.Entry.Entry, declared.states.State.State}
use Rattle.wsm_lists.specs.{Values.{Written, same_option_value, has_kind}, declared.values.Value.Value, declared.values.ElementKind.ElementKind}
use Rattle.wsm_schema.specs.declared.entries.Entry.TheVariants as entry
use Rattle.wsm_schema.specs.declared.states.State.TheVariants as state

-- whether two states are one
abbrev pub is_in_state : State → State → Bool
is_in_state state.NotActivated state.NotActivated = true
is_in_state state.Activated state.Activated = true
is_in_state state.Running state.Running = true
is_in_state state.Completed state.Completed = true
is_in_state state.Skipped state.Skipped = true
is_in_state _ _ = false

-- exactly the read edges, with the values before the position, of which the mandatory ones are there
abbrev pub fits_reads : (ℕ → Option Value) → List (ℕ × Option Value) → List (ℕ × Bool) → Bool
fits_reads value [] [] = true
fits_reads value (r ∷ rs) (e ∷ es) =
    r.0 == e.0 && same_option_value r.1 (value e.0) && (not e.1 || is_some (value e.0)) && fits_reads value rs es
fits_reads value _ _ = false

-- whether a value is of the kind that its element has
abbrev pub is_of_kind : Option ElementKind → Value → Bool
is_of_kind None v = false
is_of_kind (Some k) v = has_kind k v

-- exactly the write edges, with values of their kinds
abbrev pub fits_edges : List (ℕ × ElementKind) → Written → List ℕ → Bool
fits_edges elements [] [] = true
fits_edges elements (w ∷ ws) (d ∷ ds) = w.0 == d && is_of_kind (kind_in d elements) w.1 && fits_edges elements ws ds
fits_edges elements _ _ = false

-- whether one of the edges has this label
abbrev pub has_label : ℕ → List End → Bool
has_label code [] = false
has_label code (e ∷ es) = is_label e.label || has_label code es
  where
    is_label : Option ℕ → Bool
    is_label None = false
    is_label (Some l) = l == code

-- the choice of an end that goes on
abbrev pub fits_choice : Card → Option ℕ → Bool
fits_choice c None = is_activity c.kind
fits_choice c (Some code) = (is_xor_split c.kind && has_label code c.outs) || (is_loop_end c.kind && code == 0)

-- whether a node may be started, having read these values
abbrev pub applicable_start : Card → State → (ℕ → Option Value) → List (ℕ × Option Value) → Bool
applicable_start c now value reads =
    is_in_state now state.Activated && fits_reads value reads c.reads

-- whether a node may be ended with these writes and this choice
abbrev pub applicable_end : List (ℕ × ElementKind) → Card → State → Written → Option ℕ → Bool
applicable_end elements c now writes choice =
    is_in_state now state.Running && fits_edges elements writes c.writes && fits_choice c choice

-- a test of a node's card; a node with no card fails it
abbrev pub on_card : Option Card → (Card → Bool) → Bool
on_card None test = false
on_card (Some c) test = test c

-- whether the start of a loop is Completed
abbrev pub partner_completed : List Card → Spots → Option ℕ → Bool
partner_completed cards table None = false
partner_completed cards table (Some n) = on_card (card_at n cards) (λ _. is_in_state (spot_in n table).state state.Completed)

-- whether an entry is applicable, where `value` gives the values before its position
abbrev pub applicable : FlatModel → Spots → (ℕ → Option Value) → Entry → Bool
applicable f table value (entry.Start node user reads) =
    on_card (card_at node f.cards) (λ c. applicable_start c (spot_in node table).state value reads)
applicable f table value (entry.End node writes choice) =
    on_card (card_at node f.cards) (λ c. applicable_end f.elements c (spot_in node table).state writes choice)
applicable f table value (entry.Again node writes) =
    on_card (card_at node f.cards) (λ c. is_loop_end c.kind && partner_completed f.cards table c.partner)
applicable f table value (entry.Wrote writes) = true

-- the net after an entry
abbrev pub after : List Card → Entry → Spots → Spots
after cards (entry.Start node user reads) table = settle cards (spot node state.Running None ∷ table)
after cards (entry.End node writes choice) table = settle cards (spot node state.Completed choice ∷ table)
after cards (entry.Again node writes) table = table
after cards (entry.Wrote writes) table = table

-- the net after all entries, or the position of the first entry that is not applicable
pub data Outcome : Type 0 where
  whole : Spots → Outcome
  fails : (position : ℕ) → Outcome

-- the entries one after another
abbrev pub replay_from : FlatModel → (ℕ → ℕ → Option Value) → List (ℕ × Entry) → Spots → Outcome
replay_from f value [] table = whole table
replay_from f value (e ∷ es) table =
    if applicable f table (λ d. value d e.0) e.1 then replay_from f value es (after f.cards e.1 table) else fails e.0

-- the replay of a whole trail, from the net before all entries
abbrev pub replay_of : FlatModel → List (ℕ × Entry) → Outcome
replay_of f es = replay_from f (λ d p. value_below d p es) es (settle f.cards [])
