-- The schemas of the tests.
use Rattle.std.specs.Prelude.{true, [], ◌∷◌}
use Rattle.wsm_schema.specs.{Tree.{act, gate, nothing, part, no_lane, lane, and_gate, xor_gate}, SchemaModel.{SchemaModel, plain}}
use Rattle.wsm_lists.specs.declared.values.ElementKind.TheVariants as kind

-- an AND block with an activity in each branch
abbrev pub two_branches : SchemaModel
two_branches = plain 0 1 (part (gate and_gate 2 3 (lane 0 (part (act 4) nothing) (lane 1 (part (act 5) nothing) no_lane))) nothing)

-- both of them write one element
abbrev pub both_write : SchemaModel
both_write = record two_branches { elements = (0, kind.Int) ∷ []; writes = (4, 0) ∷ (5, 0) ∷ [] }

-- and one waits for the other
abbrev pub write_in_turn : SchemaModel
write_in_turn = record both_write { syncs = (4, 5) ∷ [] }

-- a choice between nothing and an activity, and an activity behind it
abbrev pub choice : SchemaModel
choice = plain 0 1 (part (gate xor_gate 2 3 (lane 0 nothing (lane 1 (part (act 4) nothing) no_lane))) (part (act 5) nothing))

-- the second reads what the first writes
abbrev pub choice_writes : SchemaModel
choice_writes = record choice { elements = (0, kind.Int) ∷ []; reads = (5, 0, true) ∷ []; writes = (4, 0) ∷ [] }
