-- A skip goes before an End: two schemas that differ by the exchange of two activities, and a trail of the first.
use Rattle.wsm_marks.proofs.Common.{[], ℕ, ◌∷◌, ◌≡◌, act, Entries, facts_of, fails, first_misfit, flat_of, FlatModel, gate, lane, list_marks, mark_by, Marking, marks_of, no_lane, nodes_of, None, nothing, Option, part, plain, refl}
use Rattle.wsm_marks.proofs.Common.{replay_of, SchemaModel, solution, Some, value_below, xor_gate}
use Rattle.wsm_schema.specs.declared.entries.Entry.TheVariants as entry
use Rattle.wsm_schema.specs.declared.states.Flow.TheVariants.{No}

-- a choice between nothing and two activities, then two more
abbrev with_two : ℕ → ℕ → SchemaModel
with_two a b = plain 0 1 (part (gate xor_gate 2 3 (lane 3 nothing (lane 1 (part (act 4) (part (act a) nothing)) no_lane))) (part (act 6) (part (act b) nothing)))

-- activity 7 is the last one, and then it stands on the branch that was not chosen
abbrev old_flat : FlatModel
old_flat = flat_of (with_two 5 7)

-- the same with 5 last and 7 on the branch
abbrev new_flat : FlatModel
new_flat = flat_of (with_two 7 5)

-- the empty branch is chosen; 6 and 7 are done
abbrev trail : Entries
trail = (1, entry.Start 2 9 []) ∷ (2, entry.End 2 [] (Some 3)) ∷ (3, entry.Start 6 9 []) ∷ (4, entry.End 6 [] None) ∷ (5, entry.Start 7 9 []) ∷ (6, entry.End 7 [] None) ∷ []

-- the solution of a flat form for the trail
abbrev solved : FlatModel → Marking
solved g = solution g.cards (nodes_of g.cards) (facts_of trail)

-- the first entry that does not fit it
abbrev misfit : FlatModel → Option ℕ
misfit g = first_misfit g (facts_of trail) (solved g) (λ d p. value_below d p trail) trail

-- on the old schema all entries fit; the marks are the solution and the facts
old_fits : misfit old_flat ≡ None
old_fits = refl

old_marks : marks_of old_flat trail ≡ list_marks (mark_by (solved old_flat) trail) old_flat.cards
old_marks = refl

-- on the new one the join waits for no End of 7, which is skipped, so the replay fails at 7's Start
new_skips : solved new_flat 7 ≡ Some (2, No)
new_skips = refl

new_misfit : misfit new_flat ≡ Some 5
new_misfit = refl

new_replay : replay_of new_flat trail ≡ fails 5
new_replay = refl
