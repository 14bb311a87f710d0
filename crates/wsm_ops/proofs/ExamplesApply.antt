-- What operations do to a small schema, and what is refused.
use Rattle.wsm_ops.proofs.Common.{[], ℕ, ◌∷◌, ◌≡◌, act, and_gate, applied, effect, Err, false, gate, lane, loop, no_lane, None, nothing, Ok, Part, part, Parts, plain, refl, refusal, SchemaModel, Some, true, xor_gate}
use Rattle.wsm_lists.specs.declared.values.ElementKind.TheVariants as kind
use Rattle.wsm_ops.specs.declared.operations.Gap.TheVariants.{After, Head}
use Rattle.wsm_ops.specs.declared.operations.Op.TheVariants as op
use Rattle.wsm_ops.specs.declared.faults.OpWhy.TheVariants.{NoNode, NodeThere, WrongKind, SelfTarget, NoSync, SyncThere, NoEdge, EdgeThere, ElementThere}

-- activity 2, then a block with activity 5 and, beside it, a loop of activity 8, then a choice, of which the first branch is empty and
-- two branches have code 1, then activity 13. The start is 0 and the finish is 1.
abbrev one : ℕ → Parts
one node = part (act node) nothing

abbrev and_block : Parts → Parts → Part
and_block left right = gate and_gate 3 4 (lane 0 left (lane 1 right no_lane))

abbrev xor_block : Parts → Parts → Part
xor_block left right = gate xor_gate 9 10 (lane 0 nothing (lane 1 left (lane 1 right no_lane)))

abbrev looped : Parts → Parts
looped body = part (loop 6 7 body) nothing

abbrev tree : Parts
tree = part (act 2) (part (and_block (one 5) (looped (one 8))) (part (xor_block (one 11) (one 12)) (one 13)))

abbrev schema : SchemaModel
schema = record (plain 0 1 tree) {
  syncs = (5, 8) ∷ (8, 5) ∷ (8, 13) ∷ [];
  elements = (0, kind.Int) ∷ [];
  reads = (5, 0, false) ∷ (13, 0, true) ∷ [];
  writes = (2, 0) ∷ (5, 0) ∷ [];
  roles = (5, 3) ∷ (9, 4) ∷ [];
}

-- ---- a new activity
pub insert_behind_the_start : effect schema (op.InsertSerial 20 0 (After 0)) ≡ record schema { body = part (act 20) tree }
insert_behind_the_start = refl

pub insert_behind_an_activity : effect schema (op.InsertSerial 4294967295 7 (After 8)) ≡ record schema {
  body = part (act 2) (part (and_block (one 5) (looped (part (act 8) (one 4294967295)))) (part (xor_block (one 11) (one 12)) (one 13)));
  roles = (5, 3) ∷ (9, 4) ∷ (4294967295, 7) ∷ [];
}
insert_behind_an_activity = refl

pub insert_behind_a_block : effect schema (op.InsertSerial 20 0 (After 4)) ≡ record schema {
  body = part (act 2) (part (and_block (one 5) (looped (one 8))) (part (act 20) (part (xor_block (one 11) (one 12)) (one 13))));
}
insert_behind_a_block = refl

pub insert_at_the_head_of_a_loop : effect schema (op.InsertSerial 20 0 (After 6)) ≡ record schema {
  body = part (act 2) (part (and_block (one 5) (looped (part (act 20) (one 8)))) (part (xor_block (one 11) (one 12)) (one 13)));
}
insert_at_the_head_of_a_loop = refl

pub insert_behind_a_loop : effect schema (op.InsertSerial 20 0 (After 7)) ≡ record schema {
  body = part (act 2) (part (and_block (one 5) (part (loop 6 7 (one 8)) (one 20))) (part (xor_block (one 11) (one 12)) (one 13)));
}
insert_behind_a_loop = refl

-- of two branches with one code the first counts
pub insert_at_the_head_of_a_branch : effect schema (op.InsertSerial 20 0 (Head 9 1)) ≡ record schema {
  body = part (act 2) (part (and_block (one 5) (looped (one 8))) (part (xor_block (part (act 20) (one 11)) (one 12)) (one 13)));
}
insert_at_the_head_of_a_branch = refl

pub insert_at_the_head_of_an_empty_branch : effect schema (op.InsertSerial 20 0 (Head 9 0)) ≡ record schema {
  body = part (act 2) (part (and_block (one 5) (looped (one 8)))
      (part (gate xor_gate 9 10 (lane 0 (one 20) (lane 1 (one 11) (lane 1 (one 12) no_lane)))) (one 13)));
}
insert_at_the_head_of_an_empty_branch = refl

pub insert_what_is_there : refusal schema (op.InsertSerial 5 0 (After 99)) ≡ Some (NodeThere 5)
insert_what_is_there = refl

pub insert_the_finish : refusal schema (op.InsertSerial 1 0 (After 2)) ≡ Some (NodeThere 1)
insert_the_finish = refl

pub insert_behind_nothing : refusal schema (op.InsertSerial 20 0 (After 99)) ≡ Some (NoNode 99)
insert_behind_nothing = refl

pub insert_behind_the_finish : refusal schema (op.InsertSerial 20 0 (After 1)) ≡ Some (WrongKind 1)
insert_behind_the_finish = refl

pub insert_behind_an_and_split : refusal schema (op.InsertSerial 20 0 (After 3)) ≡ Some (WrongKind 3)
insert_behind_an_and_split = refl

pub insert_behind_an_xor_split : refusal schema (op.InsertSerial 20 0 (After 9)) ≡ Some (WrongKind 9)
insert_behind_an_xor_split = refl

pub insert_at_no_head : refusal schema (op.InsertSerial 20 0 (Head 99 0)) ≡ Some (NoNode 99)
insert_at_no_head = refl

pub insert_at_the_head_of_no_split : refusal schema (op.InsertSerial 20 0 (Head 6 0)) ≡ Some (WrongKind 6)
insert_at_the_head_of_no_split = refl

pub insert_at_the_head_of_no_branch : refusal schema (op.InsertSerial 20 0 (Head 3 2)) ≡ Some (WrongKind 3)
insert_at_the_head_of_no_branch = refl

pub insert_at_a_join : refusal schema (op.InsertSerial 20 0 (After 10)) ≡ None
insert_at_a_join = refl

-- ---- a new activity beside an item
abbrev wrapped : Part → Part
wrapped p = gate and_gate 21 22 (lane 0 (part p nothing) (lane 1 (one 20) no_lane))

pub beside_an_activity : effect schema (op.InsertParallel 20 7 21 22 11 11) ≡ record schema {
  body = part (act 2) (part (and_block (one 5) (looped (one 8))) (part (xor_block (part (wrapped (act 11)) nothing) (one 12)) (one 13)));
  roles = (5, 3) ∷ (9, 4) ∷ (20, 7) ∷ [];
}
beside_an_activity = refl

pub beside_a_block : effect schema (op.InsertParallel 20 0 21 22 9 10) ≡ record schema {
  body = part (act 2) (part (and_block (one 5) (looped (one 8))) (part (wrapped (xor_block (one 11) (one 12))) (one 13)));
}
beside_a_block = refl

pub beside_a_loop : effect schema (op.InsertParallel 20 0 21 22 6 7) ≡ record schema {
  body = part (act 2) (part (and_block (one 5) (part (wrapped (loop 6 7 (one 8))) nothing)) (part (xor_block (one 11) (one 12)) (one 13)));
}
beside_a_loop = refl

pub beside_is_accepted : refusal schema (op.InsertParallel 20 0 21 22 6 7) ≡ None
beside_is_accepted = refl

pub beside_with_a_node_there : refusal schema (op.InsertParallel 5 0 8 11 99 99) ≡ Some (NodeThere 5)
beside_with_a_node_there = refl

pub beside_with_a_split_there : refusal schema (op.InsertParallel 20 0 8 11 99 99) ≡ Some (NodeThere 8)
beside_with_a_split_there = refl

pub beside_with_a_join_there : refusal schema (op.InsertParallel 20 0 21 11 99 99) ≡ Some (NodeThere 11)
beside_with_a_join_there = refl

pub beside_with_the_split_as_node : refusal schema (op.InsertParallel 20 0 20 22 99 99) ≡ Some (NodeThere 20)
beside_with_the_split_as_node = refl

pub beside_with_the_join_as_node : refusal schema (op.InsertParallel 20 0 21 20 99 99) ≡ Some (NodeThere 20)
beside_with_the_join_as_node = refl

pub beside_with_the_join_as_split : refusal schema (op.InsertParallel 20 0 21 21 99 99) ≡ Some (NodeThere 21)
beside_with_the_join_as_split = refl

pub beside_no_first : refusal schema (op.InsertParallel 20 0 21 22 98 99) ≡ Some (NoNode 98)
beside_no_first = refl

pub beside_a_wrong_first : refusal schema (op.InsertParallel 20 0 21 22 4 99) ≡ Some (WrongKind 4)
beside_a_wrong_first = refl

pub beside_the_start : refusal schema (op.InsertParallel 20 0 21 22 0 1) ≡ Some (WrongKind 0)
beside_the_start = refl

pub beside_no_last : refusal schema (op.InsertParallel 20 0 21 22 5 99) ≡ Some (NoNode 99)
beside_no_last = refl

pub beside_two_items : refusal schema (op.InsertParallel 20 0 21 22 2 4) ≡ Some (WrongKind 4)
beside_two_items = refl

pub beside_a_split_alone : refusal schema (op.InsertParallel 20 0 21 22 3 3) ≡ Some (WrongKind 3)
beside_a_split_alone = refl

pub beside_a_whole_block : refusal schema (op.InsertParallel 20 0 21 22 3 4) ≡ None
beside_a_whole_block = refl

-- ---- a new choice
pub choice_at_a_gap : effect schema (op.InsertConditional 20 7 21 22 (Head 3 0)) ≡ record schema {
  body = part (act 2)
      (part (and_block (part (gate xor_gate 21 22 (lane 0 nothing (lane 1 (one 20) no_lane))) (one 5)) (looped (one 8)))
      (part (xor_block (one 11) (one 12)) (one 13)));
  roles = (5, 3) ∷ (9, 4) ∷ (20, 7) ∷ (21, 7) ∷ [];
}
choice_at_a_gap = refl

pub choice_with_a_join_there : refusal schema (op.InsertConditional 20 0 21 21 (After 99)) ≡ Some (NodeThere 21)
choice_with_a_join_there = refl

pub choice_at_no_gap : refusal schema (op.InsertConditional 20 0 21 22 (After 1)) ≡ Some (WrongKind 1)
choice_at_no_gap = refl

-- ---- an activity goes
pub deletion : effect schema (op.DeleteActivity 5) ≡ record schema {
  body = part (act 2) (part (and_block nothing (looped (one 8))) (part (xor_block (one 11) (one 12)) (one 13)));
  syncs = (8, 13) ∷ [];
  reads = (13, 0, true) ∷ [];
  writes = (2, 0) ∷ [];
  roles = (9, 4) ∷ [];
}
deletion = refl

pub deletion_of_nothing : refusal schema (op.DeleteActivity 99) ≡ Some (NoNode 99)
deletion_of_nothing = refl

pub deletion_of_a_split : refusal schema (op.DeleteActivity 3) ≡ Some (WrongKind 3)
deletion_of_a_split = refl

-- ---- an activity moves
pub move : effect schema (op.MoveActivity 5 (After 6)) ≡ record schema {
  body = part (act 2) (part (and_block nothing (looped (part (act 5) (one 8)))) (part (xor_block (one 11) (one 12)) (one 13)));
}
move = refl

pub move_to_the_head : effect schema (op.MoveActivity 13 (After 0)) ≡ record schema {
  body = part (act 13) (part (act 2) (part (and_block (one 5) (looped (one 8))) (part (xor_block (one 11) (one 12)) nothing)));
}
move_to_the_head = refl

pub move_of_nothing : refusal schema (op.MoveActivity 99 (After 99)) ≡ Some (NoNode 99)
move_of_nothing = refl

pub move_of_a_join : refusal schema (op.MoveActivity 4 (After 4)) ≡ Some (WrongKind 4)
move_of_a_join = refl

pub move_behind_itself : refusal schema (op.MoveActivity 5 (After 5)) ≡ Some (SelfTarget 5)
move_behind_itself = refl

pub move_to_its_own_head : refusal schema (op.MoveActivity 5 (Head 5 0)) ≡ Some (WrongKind 5)
move_to_its_own_head = refl

pub move_to_no_gap : refusal schema (op.MoveActivity 5 (After 9)) ≡ Some (WrongKind 9)
move_to_no_gap = refl

-- ---- sync edges
pub sync : effect schema (op.InsertSync 8 11) ≡ record schema { syncs = (5, 8) ∷ (8, 5) ∷ (8, 11) ∷ (8, 13) ∷ [] }
sync = refl

pub sync_from_nothing : refusal schema (op.InsertSync 98 99) ≡ Some (NoNode 98)
sync_from_nothing = refl

pub sync_from_a_split : refusal schema (op.InsertSync 9 99) ≡ Some (WrongKind 9)
sync_from_a_split = refl

pub sync_to_nothing : refusal schema (op.InsertSync 5 99) ≡ Some (NoNode 99)
sync_to_nothing = refl

pub sync_to_a_loop : refusal schema (op.InsertSync 5 6) ≡ Some (WrongKind 6)
sync_to_a_loop = refl

pub sync_that_is_there : refusal schema (op.InsertSync 8 5) ≡ Some SyncThere
sync_that_is_there = refl

pub sync_to_itself : refusal schema (op.InsertSync 5 5) ≡ None
sync_to_itself = refl

pub unsync : effect schema (op.DeleteSync 8 5) ≡ record schema { syncs = (5, 8) ∷ (8, 13) ∷ [] }
unsync = refl

pub unsync_nothing : refusal schema (op.DeleteSync 13 8) ≡ Some NoSync
unsync_nothing = refl

-- ---- data
pub element : effect schema (op.AddElement 1 kind.Text) ≡ record schema { elements = (0, kind.Int) ∷ (1, kind.Text) ∷ [] }
element = refl

pub element_that_is_there : refusal schema (op.AddElement 0 kind.Text) ≡ Some ElementThere
element_that_is_there = refl

pub read : effect schema (op.AddRead 9 0 true) ≡ record schema { reads = (5, 0, false) ∷ (9, 0, true) ∷ (13, 0, true) ∷ [] }
read = refl

pub read_by_nothing : refusal schema (op.AddRead 99 0 true) ≡ Some (NoNode 99)
read_by_nothing = refl

pub read_by_a_silent_node : refusal schema (op.AddRead 3 0 true) ≡ Some (WrongKind 3)
read_by_a_silent_node = refl

pub read_that_is_there : refusal schema (op.AddRead 5 0 true) ≡ Some EdgeThere
read_that_is_there = refl

-- whether the element is listed is asked later, of the whole schema
pub read_of_an_element_to_come : refusal schema (op.AddRead 7 99 true) ≡ None
read_of_an_element_to_come = refl

pub unread : effect schema (op.RemoveRead 13 0) ≡ record schema { reads = (5, 0, false) ∷ [] }
unread = refl

pub unread_nothing : refusal schema (op.RemoveRead 2 0) ≡ Some NoEdge
unread_nothing = refl

pub write : effect schema (op.AddWrite 13 0) ≡ record schema { writes = (2, 0) ∷ (5, 0) ∷ (13, 0) ∷ [] }
write = refl

pub write_by_nothing : refusal schema (op.AddWrite 99 0) ≡ Some (NoNode 99)
write_by_nothing = refl

pub write_by_a_silent_node : refusal schema (op.AddWrite 6 0) ≡ Some (WrongKind 6)
write_by_a_silent_node = refl

pub write_that_is_there : refusal schema (op.AddWrite 2 0) ≡ Some EdgeThere
write_that_is_there = refl

pub unwrite : effect schema (op.RemoveWrite 2 0) ≡ record schema { writes = (5, 0) ∷ [] }
unwrite = refl

pub unwrite_nothing : refusal schema (op.RemoveWrite 13 0) ≡ Some NoEdge
unwrite_nothing = refl

-- ---- roles
pub role : effect schema (op.SetRole 7 2) ≡ record schema { roles = (5, 3) ∷ (7, 2) ∷ (9, 4) ∷ [] }
role = refl

pub role_0 : effect schema (op.SetRole 9 0) ≡ record schema { roles = (5, 3) ∷ [] }
role_0 = refl

pub role_of_nothing : refusal schema (op.SetRole 99 2) ≡ Some (NoNode 99)
role_of_nothing = refl

pub role_of_a_silent_node : refusal schema (op.SetRole 4 2) ≡ Some (WrongKind 4)
role_of_a_silent_node = refl

-- ---- one after another
pub no_operations : applied schema [] ≡ Ok schema
no_operations = refl

-- each operation meets the schema that the earlier ones made
pub one_behind_the_other : applied schema (op.InsertSerial 20 0 (After 13) ∷ op.InsertSerial 21 7 (After 20) ∷ op.InsertSync 5 21 ∷ []) ≡ Ok (record schema {
  body = part (act 2)
      (part (and_block (one 5) (looped (one 8))) (part (xor_block (one 11) (one 12)) (part (act 13) (part (act 20) (one 21)))));
  syncs = (5, 8) ∷ (5, 21) ∷ (8, 5) ∷ (8, 13) ∷ [];
  roles = (5, 3) ∷ (9, 4) ∷ (21, 7) ∷ [];
})
one_behind_the_other = refl

-- operations are counted from 1, and the first that is refused decides
pub the_second_is_refused : applied schema (op.DeleteActivity 13 ∷ op.InsertSync 5 13 ∷ op.DeleteActivity 99 ∷ []) ≡ Err (record { index = 2; why = NoNode 13 })
the_second_is_refused = refl
