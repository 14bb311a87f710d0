-- Payloads, records and images that compute.
use Rattle.store_form.proofs.Common.{[], ◌++◌, ◌∷◌, ◌≡◌, act, body_at, case_of, gap_at, gate, lane, loop, negsuc, no_lane, None, nothing, op_bytes, part, part_at, parts_bytes, payload, plain, refl, SchemaModel, Some, u32, value_at}
use Rattle.store_form.proofs.Common.{xor_gate}
use Rattle.std.specs.Prelude.{Bool}
use Rattle.case_core.specs.declared.events.Event.TheVariants as event
use Rattle.wsm_lists.specs.declared.values.ElementKind.TheVariants as kind
use Rattle.wsm_lists.specs.declared.values.Value.TheVariants as value
use Rattle.wsm_ops.specs.declared.operations.Gap.TheVariants as gap
use Rattle.wsm_ops.specs.declared.operations.Op.TheVariants as op
use Rattle.store_form.specs.declared.stored.Stored.TheVariants as stored

-- an end with a text, a number below zero and a choice
pub an_end : payload 2 (stored.Case (case_of 0 1) (event.End 3 2 (Some 1) ((0, value.Int (negsuc 0)) ∷ (1, value.Text (104 ∷ 105 ∷ [])) ∷ [])))
    ≡ 6 ∷ u32 2 ++ (u32 0 ++ (u32 1 ++ (u32 3 ++ (u32 2 ++ (0 ∷ 0 ∷ 0 ∷ 2 ∷ 0 ∷ 0 ∷ 0 ∷ 0 ∷ 0 ∷ 255 ∷ 255 ∷ 255 ∷ 255 ∷ 255 ∷ 255 ∷ 255 ∷ 255
    ∷ 0 ∷ 0 ∷ 0 ∷ 1 ∷ 1 ∷ 0 ∷ 0 ∷ 0 ∷ 2 ∷ 104 ∷ 105 ∷ 1 ∷ 0 ∷ 1 ∷ [])))))
an_end = refl

-- an operation at the head of a branch
pub an_op : op_bytes (op.InsertSerial 8 0 (gap.Head 4 1)) ≡ 0 ∷ 0 ∷ 0 ∷ 0 ∷ 8 ∷ 0 ∷ 0 ∷ 0 ∷ 0 ∷ 1 ∷ 0 ∷ 0 ∷ 0 ∷ 4 ∷ 0 ∷ 1 ∷ []
an_op = refl

-- a definition, by its first and last bytes
abbrev schema : SchemaModel
schema = record (plain 0 1 (part (gate xor_gate 4 5 (lane 0 nothing (lane 1 (part (act 2) nothing) no_lane))) (part (loop 6 7 (part (act 3) nothing)) nothing))) {
  elements = (0, kind.Text) ∷ [];
  reads = (2, 0, Bool.true) ∷ [];
}

pub a_tree : parts_bytes schema.body
    ≡ 2 ∷ 0 ∷ 0 ∷ 0 ∷ 4 ∷ 0 ∷ 0 ∷ 0 ∷ 5 ∷ 0 ∷ 0 ∷ 0 ∷ 2 ∷ 0 ∷ 0 ∷ 0 ∷ 0 ∷ 0 ∷ 0 ∷ 0 ∷ 1 ∷ 0 ∷ 0 ∷ 0 ∷ 1 ∷ 0 ∷ 0 ∷ 0 ∷ 0 ∷ 2
    ∷ 3 ∷ 0 ∷ 0 ∷ 0 ∷ 6 ∷ 0 ∷ 0 ∷ 0 ∷ 7 ∷ 0 ∷ 0 ∷ 0 ∷ 1 ∷ 0 ∷ 0 ∷ 0 ∷ 0 ∷ 3 ∷ []
a_tree = refl

-- what is written is read back, with what stands behind it
pub tree_read : body_at (part_at 64) (u32 2 ++ (parts_bytes schema.body ++ 5 ∷ [])) ≡ Some (schema.body, 5 ∷ [])
tree_read = refl

pub gap_read : gap_at (1 ∷ 0 ∷ 0 ∷ 0 ∷ 4 ∷ 0 ∷ 1 ∷ 9 ∷ []) ≡ Some (gap.Head 4 1, 9 ∷ [])
gap_read = refl

pub value_read : value_at (0 ∷ 255 ∷ 255 ∷ 255 ∷ 255 ∷ 255 ∷ 255 ∷ 255 ∷ 255 ∷ []) ≡ Some (value.Int (negsuc 0), [])
value_read = refl

pub flag_two : value_at (2 ∷ 0 ∷ 0 ∷ 0 ∷ 0 ∷ []) ≡ None
flag_two = refl
