-- A skip does not wait for a sync edge: what a loop's end reaches may be skipped or done while the loop is repeated.
use Rattle.wsm_marks.proofs.Common.{[], ◌∷◌, ◌≡◌, act, and_gate, Entries, facts_of, false, flat_of, FlatModel, gate, is_marked, lane, list_marks, loop, loop_nodes, mark_by, Marking, marks_of, no_lane, nodes_of, None, nothing, part, plain}
use Rattle.wsm_marks.proofs.{Common.{refl, Regular, SchemaModel, solution, Some, xor_gate}, CutTrails.repeated, SoundSchemas.sound-regular}
use Rattle.wsm_schema.specs.declared.entries.Entry.TheVariants as entry
use Rattle.wsm_schema.specs.declared.states.Flow.TheVariants.{Yes, No}

-- beside each other: a loop from 4 to 5 with activity 6, and then activity 7; a choice at 8 between activity 10, which waits for 7, and nothing, and then activity 11
abbrev schema : SchemaModel
schema = record (plain 0 1 (part (gate and_gate 2 3 (
    lane 0 (part (loop 4 5 (part (act 6) nothing)) (part (act 7) nothing))
    (lane 1 (part (gate xor_gate 8 9 (lane 0 (part (act 10) nothing) (lane 1 nothing no_lane))) (part (act 11) nothing)) no_lane)
    )) nothing)) { syncs = (7, 10) ∷ [] }

-- its flat form
abbrev flat : FlatModel
flat = flat_of schema

-- nothing is chosen at 8, and 11 is done, while the loop runs
abbrev trail : Entries
trail =
    (1, entry.Start 8 9 []) ∷ (2, entry.End 8 [] (Some 1)) ∷ (3, entry.Start 11 9 []) ∷ (4, entry.End 11 [] None)
    ∷ (5, entry.Start 6 9 []) ∷ (6, entry.End 6 [] None) ∷ (7, entry.Start 5 9 []) ∷ []

-- the trail after the repeat
abbrev again : Entries
again = repeated (loop_nodes flat.cards 5) trail 8 5 []

again-is : again ≡ (1, entry.Start 8 9 []) ∷ (2, entry.End 8 [] (Some 1)) ∷ (3, entry.Start 11 9 []) ∷ (4, entry.End 11 [] None) ∷ (8, entry.Again 5 []) ∷ []
again-is = refl

-- its solution for a trail
abbrev solved : Entries → Marking
solved es = solution flat.cards (nodes_of flat.cards) (facts_of es)

-- the schema is regular
regular : Regular schema
regular = sound-regular schema refl

-- 10 is skipped, though 7, which its sync edge waits for, is not decided
decided_target : solved trail 10 ≡ Some (2, No)
decided_target = refl

open_source : is_marked (solved trail 7) ≡ false
open_source = refl

-- the loop's end reaches 11 by the sync edge; before the repeat and after it 11 is ready since the join 9 was
before_it : solved trail 11 ≡ Some (2, Yes)
before_it = refl

after_it : solved again 11 ≡ Some (2, Yes)
after_it = refl

-- inside the loop the marks are those of a new round
new_round : solved again 5 ≡ None
new_round = refl

marks_before : marks_of flat trail ≡ list_marks (mark_by (solved trail) trail) flat.cards
marks_before = refl

marks_after : marks_of flat again ≡ list_marks (mark_by (solved again) again) flat.cards
marks_after = refl
