-- The meaning of operations: the first refusal, or the changed schema.
use Rattle.std.specs.{Prelude.{◌≡◌, ℕ, ◌+◌, ◌||◌, not, ◌==◌, List, [], ◌∷◌, filter, Option, Some, None, is_some, Result, Ok, Err}, Option.option_or}
use Rattle.wsm_lists.specs.{Rows.{put_row, drop_row, row_at}, Keys.{both, first, first_two, put_role}}
use Rattle.wsm_schema.specs.{Tree.{Part, act}, SchemaModel.SchemaModel, Flat.cards_of, Sound.when}
use Rattle.wsm_ops.specs.{Edit.{is_behind, put_if, put, without, change, beside, choice}, Refusals.{unless_activity, unless_worked_on, taken, one_taken, gap_refusal, item_refusal, move_refusal, sync_refusal}, declared.operations.Gap.Gap}
use Rattle.wsm_ops.specs.{declared.operations.Op.Op, declared.faults.OpWhy.OpWhy, declared.faults.OpFault.OpFault, declared.faults.ApplyRefusal.ApplyRefusal}
use Rattle.wsm_ops.specs.declared.operations.Op.TheVariants as op
use Rattle.wsm_ops.specs.declared.faults.OpWhy.TheVariants.{NoSync, NoEdge, EdgeThere, ElementThere}
use Rattle.wsm_ops.specs.declared.faults.ApplyRefusal.TheVariants as apply_refusal

-- the first refusal of an operation
abbrev pub refusal : SchemaModel → Op → Option OpWhy
refusal s (op.InsertSerial node role gap) = option_or (taken (cards_of s) [] node) (gap_refusal (cards_of s) gap)
refusal s (op.InsertParallel node role split join first last) =
    option_or (one_taken (cards_of s) node split join) (item_refusal (cards_of s) first last)
refusal s (op.InsertConditional node role split join gap) =
    option_or (one_taken (cards_of s) node split join) (gap_refusal (cards_of s) gap)
refusal s (op.DeleteActivity node) = unless_activity (cards_of s) node
refusal s (op.MoveActivity node gap) = move_refusal (cards_of s) node gap
refusal s (op.InsertSync source target) = sync_refusal (cards_of s) s.syncs source target
refusal s (op.DeleteSync source target) = when (not (is_some (row_at both (source, target) s.syncs))) NoSync
refusal s (op.AddElement element kind) = when (is_some (row_at first (element, 0) s.elements)) ElementThere
refusal s (op.AddRead node element mandatory) =
    option_or (unless_worked_on (cards_of s) node) (when (is_some (row_at first_two (node, element) s.reads)) EdgeThere)
refusal s (op.RemoveRead node element) = when (not (is_some (row_at first_two (node, element) s.reads))) NoEdge
refusal s (op.AddWrite node element) =
    option_or (unless_worked_on (cards_of s) node) (when (is_some (row_at both (node, element) s.writes)) EdgeThere)
refusal s (op.RemoveWrite node element) = when (not (is_some (row_at both (node, element) s.writes))) NoEdge
refusal s (op.SetRole node role) = unless_worked_on (cards_of s) node

-- a schema with a part at a gap, of which the head of the schema is the one behind its start
abbrev pub put_at : Gap → Part → SchemaModel → SchemaModel
put_at gap x s = record s { body = put_if (is_behind gap s.start) x (put gap x s.body) }

-- a schema in which a node has a role
abbrev pub with_role : ℕ → ℕ → SchemaModel → SchemaModel
with_role node role s = record s { roles = put_role node role s.roles }

-- the schema after an operation that is not refused
abbrev pub effect : SchemaModel → Op → SchemaModel
effect s (op.InsertSerial node role gap) = with_role node role (put_at gap (act node) s)
effect s (op.InsertParallel node role split join first last) =
    with_role node role (record s { body = change (first, last) (beside node split join) s.body })
effect s (op.InsertConditional node role split join gap) =
    with_role split role (with_role node role (put_at gap (choice node split join) s))
effect s (op.DeleteActivity node) = record s {
  body = without node s.body;
  syncs = filter (λ e. not (e.0 == node || e.1 == node)) s.syncs;
  reads = filter (λ r. not (r.0 == node)) s.reads;
  writes = filter (λ w. not (w.0 == node)) s.writes;
  roles = put_role node 0 s.roles;
}
effect s (op.MoveActivity node gap) = put_at gap (act node) (record s { body = without node s.body })
effect s (op.InsertSync source target) = record s { syncs = put_row both (source, target) s.syncs }
effect s (op.DeleteSync source target) = record s { syncs = drop_row both (source, target) s.syncs }
effect s (op.AddElement element kind) = record s { elements = put_row first (element, kind) s.elements }
effect s (op.AddRead node element mandatory) = record s { reads = put_row first_two (node, element, mandatory) s.reads }
effect s (op.RemoveRead node element) = record s { reads = drop_row first_two (node, element) s.reads }
effect s (op.AddWrite node element) = record s { writes = put_row both (node, element) s.writes }
effect s (op.RemoveWrite node element) = record s { writes = drop_row both (node, element) s.writes }
effect s (op.SetRole node role) = with_role node role s

-- the fault of an operation, or what follows where it is not refused
abbrev pub unless_refused : Option OpWhy → ℕ → Result SchemaModel OpFault → Result SchemaModel OpFault
unless_refused (Some why) index rest = Err (record { index = index; why = why })
unless_refused None index rest = rest

-- the operations one after another, counted from `index`
abbrev pub applied_from : ℕ → SchemaModel → List Op → Result SchemaModel OpFault
applied_from index s [] = Ok s
applied_from index s (o ∷ os) = unless_refused (refusal s o) index (applied_from (index + 1) (effect s o) os)

-- the schema after all operations, or the first that is refused, counted from 1
abbrev pub applied : SchemaModel → List Op → Result SchemaModel OpFault
applied = applied_from 1

-- a refusal for want of memory says nothing of the operations
abbrev pub IsOpFault : Result SchemaModel OpFault → ApplyRefusal → Type 0
IsOpFault outcome (apply_refusal.Fault fault) = outcome ≡ Err fault
IsOpFault outcome apply_refusal.NoMemory = Unit {0}
