-- Sound schemas, and the faults of others.
use Rattle.wsm_schema.proofs.Common.{[], ℕ, ◌∷◌, ◌≡◌, act, and_gate, block_fault, Bool, data_fault, false, gate, lane, List, loop, map, no_lane, None, nothing, part, plain, refl, SchemaModel, Some, Sound, true, xor_gate}
use Rattle.wsm_schema.specs.declared.faults.BlockFault.TheVariants.{Limit, Twice, FewBranches, CodeTwice, SyncEnd, SyncPlace, SyncLoop, SyncCycle}
use Rattle.wsm_schema.specs.declared.faults.DataFault.TheVariants.{Unknown, Missing, ParallelWrite}
use Rattle.wsm_schema.specs.declared.faults.LimitKind.TheVariants as limit
use Rattle.wsm_lists.specs.declared.values.ElementKind.TheVariants as kind
use Rattle.wsm_schema.proofs.ExampleSchemas.{sequence, skip, writing_loop, waiting_for_skipped, parallel}

pub a_choice_is_sound : Sound skip
a_choice_is_sound = record { blocks = refl; on_data = refl }

pub a_sync_edge_is_sound : Sound waiting_for_skipped
a_sync_edge_is_sound = record { blocks = refl; on_data = refl }

pub an_optional_read_is_sound : Sound writing_loop
an_optional_read_is_sound = record { blocks = refl; on_data = refl }

-- numbers, branches and codes
pub a_number_twice : block_fault (plain 0 1 (part (act 2) (part (act 2) nothing))) ≡ Some (Twice 2)
a_number_twice = refl

pub one_branch : block_fault (plain 0 1 (part (gate and_gate 2 3 (lane 0 nothing no_lane)) nothing)) ≡ Some (FewBranches 2)
one_branch = refl

pub a_code_twice : block_fault (plain 0 1 (part (gate xor_gate 2 3 (lane 5 nothing (lane 5 nothing no_lane))) nothing)) ≡ Some (CodeTwice 2 5)
a_code_twice = refl

-- sync edges
abbrev synced : List (ℕ × ℕ) → SchemaModel → SchemaModel
synced edges s = record s { syncs = edges }

pub a_sync_edge_from_a_split : block_fault (synced ((2, 4) ∷ []) parallel) ≡ Some (SyncEnd 2 4)
a_sync_edge_from_a_split = refl

pub a_sync_edge_along_a_sequence : block_fault (synced ((2, 3) ∷ []) sequence) ≡ Some (SyncPlace 2 3)
a_sync_edge_along_a_sequence = refl

pub a_sync_edge_between_choices : block_fault (synced ((4, 5) ∷ []) (plain 0 1 (part (gate xor_gate 2 3 (lane 0 (part (act 4) nothing) (lane 1 (part (act 5) nothing) no_lane))) nothing))) ≡ Some (SyncPlace 4 5)
a_sync_edge_between_choices = refl

pub a_sync_edge_into_a_loop : block_fault (synced ((4, 7) ∷ []) (plain 0 1 (part (gate and_gate 2 3 (lane 0 (part (act 4) nothing) (lane 1 (part (loop 5 6 (part (act 7) nothing)) nothing) no_lane))) nothing))) ≡ Some (SyncLoop 4 7)
a_sync_edge_into_a_loop = refl

pub a_cycle : block_fault (synced ((4, 5) ∷ (5, 4) ∷ []) parallel) ≡ Some (SyncCycle 5 4)
a_cycle = refl

-- data: each element is listed, and what is read must have a value whatever branch was taken
abbrev with_element : List (ℕ × ℕ) → SchemaModel → SchemaModel
with_element writes s = record s { elements = (0, kind.Int) ∷ []; writes = writes }

pub an_element_not_listed : data_fault (record sequence { writes = (2, 0) ∷ [] }) ≡ Some (Unknown 2 0)
an_element_not_listed = refl

pub a_node_not_worked_on : data_fault (with_element ((3, 0) ∷ []) parallel) ≡ Some (Unknown 3 0)
a_node_not_worked_on = refl

pub a_read_behind_one_branch : data_fault (record (with_element ((4, 0) ∷ []) skip) { reads = (5, 0, true) ∷ [] }) ≡ Some (Missing 5 0)
a_read_behind_one_branch = refl

pub an_optional_read_behind_one_branch : data_fault (record (with_element ((4, 0) ∷ []) skip) { reads = (5, 0, false) ∷ [] }) ≡ None
an_optional_read_behind_one_branch = refl

pub a_read_behind_its_write : data_fault (record (with_element ((2, 0) ∷ []) sequence) { reads = (3, 0, true) ∷ [] }) ≡ None
a_read_behind_its_write = refl

-- a sync edge brings what was written before it, where its source is bound to its target
abbrev reads_behind_sync : SchemaModel → SchemaModel
reads_behind_sync s = record (with_element ((4, 0) ∷ []) (synced ((4, 5) ∷ []) s)) { reads = (5, 0, true) ∷ [] }

pub a_read_behind_a_sync_edge : data_fault (reads_behind_sync parallel) ≡ None
a_read_behind_a_sync_edge = refl

pub a_read_without_a_sync_edge : data_fault (record (reads_behind_sync parallel) { syncs = [] }) ≡ Some (Missing 5 0)
a_read_without_a_sync_edge = refl

-- not where a choice may skip the source
pub a_read_behind_a_source_that_may_be_skipped : data_fault (reads_behind_sync (plain 0 1 (part (gate and_gate 2 3 (lane 0 (part (gate xor_gate 6 7 (lane 0 nothing (lane 1 (part (act 4) nothing) no_lane))) nothing) (lane 1 (part (act 5) nothing) no_lane))) nothing))) ≡ Some (Missing 5 0)
a_read_behind_a_source_that_may_be_skipped = refl

-- but where the same choice skips the target, too
pub a_read_behind_a_source_in_the_same_branch : data_fault (reads_behind_sync (plain 0 1 (part (gate xor_gate 6 7 (lane 0 nothing (lane 1 (part (gate and_gate 2 3 (lane 0 (part (act 4) nothing) (lane 1 (part (act 5) nothing) no_lane))) nothing) no_lane))) nothing))) ≡ None
a_read_behind_a_source_in_the_same_branch = refl

-- what was written before the source comes with it
pub a_read_behind_what_the_source_stands_behind : data_fault (record (reads_behind_sync (plain 0 1 (part (gate and_gate 2 3 (lane 0 (part (act 4) (part (act 6) nothing)) (lane 1 (part (act 5) nothing) no_lane))) nothing))) { syncs = (6, 5) ∷ [] }) ≡ None
a_read_behind_what_the_source_stands_behind = refl

-- two branches write one element, unless a sync edge orders them
pub writes_side_by_side : data_fault (with_element ((4, 0) ∷ (5, 0) ∷ []) parallel) ≡ Some (ParallelWrite 4 5 0)
writes_side_by_side = refl

pub writes_in_order : data_fault (synced ((4, 5) ∷ []) (with_element ((4, 0) ∷ (5, 0) ∷ []) parallel)) ≡ None
writes_in_order = refl

-- limits: 17 reads of one node are one too many
abbrev reads_of : ℕ → List ℕ → List (ℕ × ℕ × Bool)
reads_of n elements = map (λ d. (n, d, false)) elements

pub too_many_reads : block_fault (record sequence { reads = reads_of 2 (0 ∷ 1 ∷ 2 ∷ 3 ∷ 4 ∷ 5 ∷ 6 ∷ 7 ∷ 8 ∷ 9 ∷ 10 ∷ 11 ∷ 12 ∷ 13 ∷ 14 ∷ 15 ∷ 16 ∷ []) }) ≡ Some (Limit limit.Reads)
too_many_reads = refl

pub sixteen_reads : block_fault (record sequence { reads = reads_of 2 (0 ∷ 1 ∷ 2 ∷ 3 ∷ 4 ∷ 5 ∷ 6 ∷ 7 ∷ 8 ∷ 9 ∷ 10 ∷ 11 ∷ 12 ∷ 13 ∷ 14 ∷ 15 ∷ []) }) ≡ None
sixteen_reads = refl
