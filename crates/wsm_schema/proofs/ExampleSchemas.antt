-- Small schemas that the examples compute on. In each the start is 0 and the finish is 1.
use Rattle.wsm_schema.proofs.Common.{[], ◌∷◌, act, and_gate, false, gate, lane, loop, no_lane, nothing, part, Parts, plain, SchemaModel, xor_gate}
use Rattle.wsm_lists.specs.declared.values.ElementKind.TheVariants as kind

-- activity 2, then activity 3
abbrev pub sequence : SchemaModel
sequence = plain 0 1 (part (act 2) (part (act 3) nothing))

-- the same with activity 4 between them
abbrev pub longer : SchemaModel
longer = plain 0 1 (part (act 2) (part (act 4) (part (act 3) nothing)))

-- a choice between nothing and activity 4, then activity 5
abbrev pub choice_tree : Parts
choice_tree = part (gate xor_gate 2 3 (lane 0 nothing (lane 1 (part (act 4) nothing) no_lane))) (part (act 5) nothing)

abbrev pub skip : SchemaModel
skip = plain 0 1 choice_tree

-- beside each other: a choice between nothing and activity 6, and activity 7, which waits for 6
abbrev pub waiting_for_skipped : SchemaModel
waiting_for_skipped = record (plain 0 1 (part (gate and_gate 2 3 (lane 0 (part (gate xor_gate 4 5 (lane 0 nothing (lane 1 (part (act 6) nothing) no_lane))) nothing) (lane 1 (part (act 7) nothing) no_lane))) nothing)) {
  syncs = (6, 7) ∷ [];
}

-- a loop with activity 4
abbrev pub looped : SchemaModel
looped = plain 0 1 (part (loop 2 3 (part (act 4) nothing)) nothing)

-- the same behind activity 5
abbrev pub looped_later : SchemaModel
looped_later = plain 0 1 (part (act 5) (part (loop 2 3 (part (act 4) nothing)) nothing))

-- a loop in which activity 4 reads element 0, and activity 7, which may be skipped, writes it
abbrev pub writing_loop : SchemaModel
writing_loop = record (plain 0 1 (part (loop 2 3 (part (act 4) (part (gate xor_gate 5 6 (lane 0 nothing (lane 1 (part (act 7) nothing) no_lane))) nothing))) nothing)) {
  elements = (0, kind.Int) ∷ [];
  reads = (4, 0, false) ∷ [];
  writes = (7, 0) ∷ [];
  roles = (4, 2) ∷ [];
}

-- activities 4 and 5 beside each other
abbrev pub parallel : SchemaModel
parallel = plain 0 1 (part (gate and_gate 2 3 (lane 0 (part (act 4) nothing) (lane 1 (part (act 5) nothing) no_lane))) nothing)
