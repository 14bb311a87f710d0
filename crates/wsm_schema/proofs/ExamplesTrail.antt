-- Trails, values and the cut.
use Rattle.wsm_schema.proofs.{Common.{[], ◌∷◌, ◌≡◌, cards_of, cut_by, loop_nodes, no_trail, None, pos, pushed, refl, Some, TrailModel, value_below}, ExampleSchemas.writing_loop}
use Rattle.wsm_schema.specs.declared.entries.Entry.TheVariants as entry
use Rattle.wsm_lists.specs.declared.values.Value.TheVariants as value

pub two_entries : pushed (entry.End 2 [] None) (pushed (entry.Start 2 9 []) no_trail) ≡ record { entries = (1, entry.Start 2 9 []) ∷ (2, entry.End 2 [] None) ∷ []; next = 3 }
two_entries = refl

-- once through the loop, with a write on the way
abbrev pub once : TrailModel
once = record {
  entries =
      (1, entry.Start 4 9 ((0, None) ∷ []))
      ∷ (2, entry.End 4 [] None)
      ∷ (3, entry.Start 5 9 [])
      ∷ (4, entry.End 5 [] (Some 1))
      ∷ (5, entry.Start 7 9 [])
      ∷ (6, entry.End 7 ((0, value.Int (pos 7)) ∷ []) None)
      ∷ (7, entry.Start 3 9 [])
      ∷ [];
  next = 8;
}

-- the value of an element before a position
pub no_value_yet : value_below 0 6 once.entries ≡ None
no_value_yet = refl

pub a_value : value_below 0 7 once.entries ≡ Some (value.Int (pos 7))
a_value = refl

-- the entries of the loop leave the trail, and what they wrote stays at its position
pub a_cut : cut_by (loop_nodes (cards_of writing_loop) 3) once ≡ record { entries = (6, entry.Wrote ((0, value.Int (pos 7)) ∷ [])) ∷ []; next = 8 }
a_cut = refl
