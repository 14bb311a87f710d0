-- What an event changes of a case's marks.
use Rattle.std.specs.Prelude.{◌≡◌, ℕ, ◌+◌, ◌≤◌, true, List, Option, Some, None, option_map}
use Rattle.case_core.specs.{CaseModel.{LiveModel, state_of}, Kept.{Kept, marks_in}, Machine.{repeated_trail, user_of, with_trail}}
use Rattle.wsm_adapt.specs.{Adapted.marks_to_read, declared.adapting.Adapted.Adapted}
use Rattle.wsm_adapt.specs.declared.adapting.Adapted.TheVariants as adapted
use Rattle.wsm_lists.specs.{ByNumber.{changed, item_at}, Values.Written, declared.values.Value.Value}
use Rattle.wsm_schema.specs.{Flat.{card_at, cards_of, flat_of}, Kinds.is_loop_end, Marks.marks_of, Rank.IsRank, Replay.{fails, is_in_state, replay_of}, SchemaModel.SchemaModel, Trail.{TrailModel, pushed}, declared.cards.Card.Card}
use Rattle.wsm_schema.specs.{declared.entries.Entry.Entry, declared.marks.Mark.Mark}
use Rattle.wsm_marks.specs.Schemas.{HasCard}
use Rattle.wsm_schema.specs.declared.entries.Entry.TheVariants as entry
use Rattle.wsm_schema.specs.declared.states.State.TheVariants.{Running}
use Rattle.wsm_settle.specs.declared.timing.TimedMarks.{TimedMarks}
use Rattle.wsm_settle.specs.declared.timing.TimedMarks.TheVariants as timed
use Rattle.wsm_steps.specs.Whole.{is_whole}
use Rattle.wsm_touch.specs.TouchedNodes.{touched_nodes}
use Rattle.wsm_trail.specs.EntryAt.{entry_at}
use Rattle.wsm_walk.specs.{Kept.mark_or, Spent.reach_size}

-- changes that make the marks those of the case with another trail
abbrev pub Remarks : LiveModel → TrailModel → List (ℕ × Option Mark) → Type 0
Remarks l t changes = changed changes (marks_in l) ≡ marks_in (with_trail l t)

-- those of the start of a node, where the case may take it in
abbrev pub StartRemarks : LiveModel → ℕ → List (ℕ × Option Mark) → Type 0
StartRemarks l node changes =
    (user : ℕ) (reads : List (ℕ × Option Value)) → Kept (with_trail l (pushed (entry.Start node user reads) l.trail)) → Remarks l (pushed (entry.Start node user reads) l.trail) changes

-- of its end
abbrev pub EndRemarks : LiveModel → ℕ → Option ℕ → List (ℕ × Option Mark) → Type 0
EndRemarks l node choice changes =
    (writes : Written) → Kept (with_trail l (pushed (entry.End node writes choice) l.trail)) → Remarks l (pushed (entry.End node writes choice) l.trail) changes

-- and of a loop that goes on
abbrev pub AgainRemarks : LiveModel → ℕ → List (ℕ × Option Mark) → Type 0
AgainRemarks l node changes = (writes : Written) → Remarks l (repeated_trail l node writes) changes

-- no more marks are read than a node reaches nodes, with the edges into these
abbrev pub ReadsBehind : SchemaModel → ℕ → ℕ → ℕ → Type 0
ReadsBehind s node reads reads' = (rank : List ℕ) × IsRank (cards_of s) rank × (HasCard (cards_of s) node → reads' ≤ reads + reach_size (cards_of s) rank node)

-- or than the start of a loop reaches
abbrev pub ReadsInLoop : SchemaModel → ℕ → ℕ → ℕ → Type 0
ReadsInLoop s node reads reads' =
    (rank : List ℕ) × IsRank (cards_of s) rank ×
    ((start : ℕ) (c : Card) → card_at node (cards_of s) ≡ Some c → is_loop_end c.kind ≡ true → c.partner ≡ Some start → reads' ≤ reads + reach_size (cards_of s) rank start)

-- or than there are nodes that another schema does not have, nodes that a change reaches there, and edges into these from others
abbrev pub ReadsOnto : SchemaModel → SchemaModel → ℕ → ℕ → Type 0
ReadsOnto s new reads reads' = (rank : List ℕ) × IsRank (cards_of new) rank × reads' ≤ reads + marks_to_read (flat_of new) rank (touched_nodes (flat_of s) (flat_of new))

-- the schema has the node, and it is running
pub record Runs (l : LiveModel) (node : ℕ) : Type 0 where
  pub card : Card
  pub found : card_at node (cards_of l.schema) ≡ Some card
  pub running : is_in_state (state_of l node) Running ≡ true

-- the node is the end of a loop, and is running
pub record RunsLoop (l : LiveModel) (node : ℕ) : Type 0 where
  pub card : Card
  pub found : card_at node (cards_of l.schema) ≡ Some card
  pub ends : is_loop_end card.kind ≡ true
  pub running : is_in_state (state_of l node) Running ≡ true

-- the marks of a trail on a schema where it replays whole, else where it fails
abbrev pub IsTimedOn : SchemaModel → List (ℕ × Entry) → TimedMarks → Type 0
IsTimedOn s es (timed.Whole marks) = (is_whole (replay_of (flat_of s) es) ≡ true) × (marks.rows ≡ marks_of (flat_of s) es)
IsTimedOn s es (timed.Fails position) = replay_of (flat_of s) es ≡ fails position

-- changes that make the marks those of the case's trail on another schema, with a row for each node that has another card there
pub record Moves (l : LiveModel) (s : SchemaModel) (changes : List (ℕ × Option Mark)) : Type 0 where
  pub marks : changed changes (marks_in l) ≡ marks_of (flat_of s) l.trail.entries
  pub cards : (n : ℕ) → item_at n changes ≡ None → card_at n (cards_of l.schema) ≡ card_at n (cards_of s)

-- such changes where the case's trail replays whole on that schema, else where it fails
abbrev pub IsAdaptedTo : LiveModel → SchemaModel → Adapted → Type 0
IsAdaptedTo l s (adapted.Moved changes) = (is_whole (replay_of (flat_of s) l.trail.entries) ≡ true) × Moves l s changes
IsAdaptedTo l s (adapted.Blocked position) = replay_of (flat_of s) l.trail.entries ≡ fails position

-- where a node was started, by its mark
abbrev pub started_in : List (ℕ × Mark) → ℕ → Option ℕ
started_in rows n = (mark_or (item_at n rows)).started

-- the user of the Start at a position, else 0
abbrev pub user_at : List (ℕ × Entry) → Option ℕ → ℕ
user_at es None = 0
user_at es (Some p) = user_of (option_map (λ x. (p, x)) (entry_at p es))
