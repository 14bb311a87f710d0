-- Timed marks, touched nodes and the pass in rank order.
use Rattle.wsm_schema.proofs.{Common.{[], ℕ, ◌∷◌, ◌≡◌, cards_of, flat_of, marking_of, None, Option, pass, refl, settle, Some, spot}, ExampleSchemas.skip}
use Rattle.wsm_schema.specs.{Marks.marks_of, declared.marks.Mark.Mark}
use Rattle.wsm_schema.specs.declared.entries.Entry.TheVariants as entry
use Rattle.wsm_schema.specs.declared.states.State.TheVariants.{Completed}

abbrev mark : Option ℕ → Option ℕ → Option ℕ → Option ℕ → Option ℕ → Mark
mark ready skipped started ended choice = record { ready_at = ready; skipped_at = skipped; started = started; ended = ended; choice = choice; again = None }

-- the branch that wasn't chosen is skipped at the position of the choice
pub marks_of_a_choice : marks_of (flat_of skip) ((1, entry.Start 2 9 []) ∷ (2, entry.End 2 [] (Some 0)) ∷ []) ≡
    (0, mark (Some 0) None None None None)
    ∷ (2, mark (Some 0) None (Some 1) (Some 2) (Some 0))
    ∷ (3, mark (Some 2) None None None None)
    ∷ (4, mark None (Some 2) None None None)
    ∷ (5, mark (Some 2) None None None None)
    ∷ []
marks_of_a_choice = refl

-- one pass in rank order comes to the settled net
pub a_pass : marking_of (cards_of skip) (pass (cards_of skip) (spot 2 Completed (Some 0) ∷ []) (0 ∷ 2 ∷ 4 ∷ 3 ∷ 5 ∷ 1 ∷ []) []) ≡ marking_of (cards_of skip) (settle (cards_of skip) (spot 2 Completed (Some 0) ∷ []))
a_pass = refl
