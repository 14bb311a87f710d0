-- Timed marks: at which positions of a trail the facts of a node first hold.
use Rattle.std.specs.{Prelude.{ℕ, Bool, true, false, ◌||◌, List, [], ◌∷◌, Option, Some, None, is_some, find, option_map, ◌==◌, if◌then◌else◌}, List.fold}
use Rattle.wsm_lists.specs.Rows.{put_row}
use Rattle.wsm_schema.specs.{Flat.FlatModel, Rules.{Spots, spot_in, settle}, Replay.after, declared.cards.Card.Card, declared.entries.Entry.Entry, declared.marks.Mark.Mark, declared.states.State.State}
use Rattle.wsm_schema.specs.declared.entries.Entry.TheVariants as entry
use Rattle.wsm_schema.specs.declared.states.State.TheVariants as state

-- the net after each position, and at position 0 before all entries
abbrev pub history_from : List Card → List (ℕ × Entry) → ℕ → Spots → List (ℕ × Spots)
history_from cards [] p table = (p, table) ∷ []
history_from cards (e ∷ es) p table = (p, table) ∷ history_from cards es e.0 (after cards e.1 table)

-- the nets along a whole trail
abbrev pub history_of : FlatModel → List (ℕ × Entry) → List (ℕ × Spots)
history_of f es = history_from f.cards es 0 (settle f.cards [])

-- the first position at which a node's state passes a test
abbrev pub first_at : (State → Bool) → ℕ → List (ℕ × Spots) → Option ℕ
first_at test n history = option_map (λ h. h.0) (find (λ h. test (spot_in n h.1).state) history)

-- states of a node that is ready, or was
abbrev pub is_up : State → Bool
is_up state.Activated = true
is_up state.Running = true
is_up state.Completed = true
is_up _ = false

-- the state of a node that will not be worked on
abbrev pub is_out : State → Bool
is_out state.Skipped = true
is_out _ = false

-- whether an entry is the start of a node
abbrev pub is_start_of : ℕ → Entry → Bool
is_start_of n (entry.Start node user reads) = node == n
is_start_of n _ = false

-- whether an entry is the end of a node
abbrev pub is_end_of : ℕ → Entry → Bool
is_end_of n (entry.End node writes choice) = node == n
is_end_of n _ = false

-- whether an entry repeats the loop that ends with a node
abbrev pub is_again_of : ℕ → Entry → Bool
is_again_of n (entry.Again node writes) = node == n
is_again_of n _ = false

-- the choice of an end
abbrev pub choice_of : Option (ℕ × Entry) → Option ℕ
choice_of None = None
choice_of (Some e) = of_entry e.1
  where
    of_entry : Entry → Option ℕ
    of_entry (entry.End node writes choice) = choice
    of_entry _ = None

-- the position of the first entry that passes a test
abbrev pub position_of : (Entry → Bool) → List (ℕ × Entry) → Option ℕ
position_of test es = option_map (λ e. e.0) (find (λ e. test e.1) es)

-- what a trail tells of nodes: the first position of the Start and of the End of each, and the choice of that End
pub record Facts : Type 0 where
  pub started : ℕ → Option ℕ
  pub ended : ℕ → Option ℕ
  pub choice : ℕ → Option ℕ

-- the facts of a trail
abbrev pub facts_of : List (ℕ × Entry) → Facts
facts_of es = record {
  started = λ n. position_of (is_start_of n) es;
  ended = λ n. position_of (is_end_of n) es;
  choice = λ n. choice_of (find (λ e. is_end_of n e.1) es);
}

-- the mark of a node: when it was first ready and first skipped, and its facts
abbrev pub mark_of : FlatModel → List (ℕ × Entry) → ℕ → Mark
mark_of f es n = let facts = facts_of es in record {
  ready_at = first_at is_up n (history_of f es);
  skipped_at = first_at is_out n (history_of f es);
  started = facts.started n;
  ended = facts.ended n;
  choice = facts.choice n;
  again = position_of (is_again_of n) es;
}

-- whether anything is known of a node
abbrev pub says_something : Mark → Bool
says_something m = is_some m.ready_at || is_some m.skipped_at || is_some m.started || is_some m.ended || is_some m.choice || is_some m.again

-- marks stand by their nodes
abbrev pub mark_key : ℕ × Mark → ℕ × ℕ
mark_key m = (m.0, 0)

-- the marks of the nodes of which something is known, ascending by node
abbrev pub list_marks : (ℕ → Mark) → List Card → List (ℕ × Mark)
list_marks mark cards =
    fold (λ ms c. let m = mark c.node in if says_something m then put_row mark_key (c.node, m) ms else ms) [] cards

-- the marks of a trail that replays whole
abbrev pub marks_of : FlatModel → List (ℕ × Entry) → List (ℕ × Mark)
marks_of f es = list_marks (mark_of f es) f.cards
