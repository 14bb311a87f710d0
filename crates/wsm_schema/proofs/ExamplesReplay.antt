-- Which entries are applicable, and replays.
use Rattle.wsm_schema.proofs.{Common.{[], ℕ, ◌∷◌, ◌≡◌, cards_of, flat_of, List, marking_of, None, pos, refl, SchemaModel, Some, spot}, ExampleSchemas.{sequence, longer, skip, looped, looped_later, writing_loop}}
use Rattle.wsm_schema.specs.{Replay.{Outcome, whole, fails, replay_of}, declared.entries.Entry.Entry}
use Rattle.wsm_schema.specs.declared.entries.Entry.TheVariants as entry
use Rattle.wsm_schema.specs.declared.states.State.TheVariants.{NotActivated, Activated, Running, Completed, Skipped}
use Rattle.wsm_lists.specs.declared.values.Value.TheVariants as value

-- the marking after a trail that replays whole, or the position at which it fails
abbrev marked : SchemaModel → Outcome → Outcome
marked s (whole t) = whole (marking_of (cards_of s) t)
marked s (fails p) = fails p

abbrev played : SchemaModel → List (ℕ × Entry) → Outcome
played s trail = marked s (replay_of (flat_of s) trail)

-- a choice
pub a_choice : played skip ((1, entry.Start 2 9 []) ∷ (2, entry.End 2 [] (Some 0)) ∷ []) ≡
    whole (spot 0 Completed None ∷ spot 1 NotActivated None ∷ spot 2 Completed (Some 0) ∷ spot 3 Completed None ∷ spot 4 Skipped None ∷ spot 5 Activated None ∷ [])
a_choice = refl

pub no_such_branch : played skip ((1, entry.Start 2 9 []) ∷ (2, entry.End 2 [] (Some 2)) ∷ []) ≡ fails 2
no_such_branch = refl

pub no_such_node : played skip ((1, entry.Start 6 9 []) ∷ []) ≡ fails 1
no_such_node = refl

pub a_skipped_node : played skip ((1, entry.Start 2 9 []) ∷ (2, entry.End 2 [] (Some 0)) ∷ (3, entry.Start 4 9 []) ∷ []) ≡ fails 3
a_skipped_node = refl

-- an activity put before one that is only activated takes its place; one put before a started one blocks the start
abbrev first_done : List (ℕ × Entry)
first_done = (1, entry.Start 2 9 []) ∷ (2, entry.End 2 [] None) ∷ []

abbrev second_started : List (ℕ × Entry)
second_started = (1, entry.Start 2 9 []) ∷ (2, entry.End 2 [] None) ∷ (3, entry.Start 3 9 []) ∷ []

pub before_an_activated_node : played longer first_done ≡
    whole (spot 0 Completed None ∷ spot 1 NotActivated None ∷ spot 2 Completed None ∷ spot 3 NotActivated None ∷ spot 4 Activated None ∷ [])
before_an_activated_node = refl

pub a_started_node : played sequence second_started ≡
    whole (spot 0 Completed None ∷ spot 1 NotActivated None ∷ spot 2 Completed None ∷ spot 3 Running None ∷ [])
a_started_node = refl

pub before_a_started_node : played longer second_started ≡ fails 3
before_a_started_node = refl

-- a loop's end goes on with the choice 0; a repeat changes no state, and fails where the loop isn't reached
pub a_loop_is_left : played looped ((1, entry.Start 4 9 []) ∷ (2, entry.End 4 [] None) ∷ (3, entry.Start 3 9 []) ∷ (4, entry.End 3 [] (Some 0)) ∷ []) ≡
    whole (spot 0 Completed None ∷ spot 1 Completed None ∷ spot 2 Completed None ∷ spot 3 Completed (Some 0) ∷ spot 4 Completed None ∷ [])
a_loop_is_left = refl

pub a_repeat : played looped ((4, entry.Again 3 []) ∷ []) ≡
    whole (spot 0 Completed None ∷ spot 1 NotActivated None ∷ spot 2 Completed None ∷ spot 3 NotActivated None ∷ spot 4 Activated None ∷ [])
a_repeat = refl

pub a_repeat_of_a_loop_not_reached : played looped_later ((4, entry.Again 3 []) ∷ []) ≡ fails 4
a_repeat_of_a_loop_not_reached = refl

-- writes outlive the cut: the next start in the loop reads what was written before
abbrev repeated : List (ℕ × Entry)
repeated = (6, entry.Wrote ((0, value.Int (pos 7)) ∷ [])) ∷ (8, entry.Again 3 []) ∷ (9, entry.Start 4 9 ((0, Some (value.Int (pos 7))) ∷ [])) ∷ []

pub writes_outlive_the_cut : played writing_loop repeated ≡
    whole (spot 0 Completed None ∷ spot 1 NotActivated None ∷ spot 2 Completed None ∷ spot 3 NotActivated None ∷ spot 4 Running None ∷ spot 5 NotActivated None ∷ spot 6 NotActivated None ∷ spot 7 NotActivated None ∷ [])
writes_outlive_the_cut = refl

-- a start that records another value than that of its position
pub another_value : played writing_loop ((1, entry.Start 4 9 ((0, Some (value.Int (pos 7))) ∷ [])) ∷ []) ≡ fails 1
another_value = refl

-- an end that lacks a write
pub a_missing_write : played writing_loop
    ((1, entry.Start 4 9 ((0, None) ∷ [])) ∷ (2, entry.End 4 [] None) ∷ (3, entry.Start 5 9 []) ∷ (4, entry.End 5 [] (Some 1)) ∷ (5, entry.Start 7 9 []) ∷ (6, entry.End 7 [] None) ∷ []) ≡ fails 6
a_missing_write = refl
