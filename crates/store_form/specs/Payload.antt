-- The bytes that a call is stored as. Numbers are big-endian; a list is its length and its items.
use Rattle.std.specs.{Prelude.{◌≡◌, ℕ, Bool, true, false, List, [], ◌∷◌, ◌++◌, length, flat_map, Option, Some, None}, Int.{w16, w32, w64, to_be_bytes, cast_unsigned}}
use Rattle.wsm_lists.specs.{declared.values.ElementKind.ElementKind, declared.values.Value.Value}
use Rattle.wsm_lists.specs.declared.values.ElementKind.TheVariants as kind
use Rattle.wsm_lists.specs.declared.values.Value.TheVariants as value
use Rattle.wsm_schema.specs.{SchemaModel.SchemaModel, Tree.{Gate, Part, Parts, Lanes, act, gate, loop, nothing, part, no_lane, lane, and_gate, xor_gate}}
use Rattle.wsm_ops.specs.{declared.operations.Gap.Gap, declared.operations.Op.Op}
use Rattle.wsm_ops.specs.declared.operations.Gap.TheVariants as gap
use Rattle.wsm_ops.specs.declared.operations.Op.TheVariants as op
use Rattle.case_core.specs.declared.events.Event.{Event}
use Rattle.case_core.specs.declared.events.Event.TheVariants as event
use Rattle.wsm_sound.specs.declared.versions.CaseId.{CaseId}
use Rattle.store_form.specs.{Stored.{part_count, lane_count, Fits, IsNumber}, declared.stored.Recorded.Recorded, declared.stored.Stored.Stored}
use Rattle.store_form.specs.declared.stored.Stored.TheVariants as stored

abbrev pub Bytes : Type 0
Bytes = List ℕ

abbrev pub u16 : ℕ → Bytes
u16 n = to_be_bytes w16 n

abbrev pub u32 : ℕ → Bytes
u32 n = to_be_bytes w32 n

abbrev pub u32_u32 : ℕ × ℕ → Bytes
u32_u32 p = u32 p.0 ++ u32 p.1

abbrev pub flag : Bool → Bytes
flag false = 0 ∷ []
flag true = 1 ∷ []

abbrev pub listed : {X : Type 0} → (X → Bytes) → List X → Bytes
listed item xs = u32 (length xs) ++ flat_map item xs

abbrev pub optional : {X : Type 0} → (X → Bytes) → Option X → Bytes
optional item None = 0 ∷ []
optional item (Some x) = 1 ∷ item x

abbrev pub kind_bytes : ElementKind → Bytes
kind_bytes kind.Int = 0 ∷ []
kind_bytes kind.Text = 1 ∷ []

abbrev pub value_bytes : Value → Bytes
value_bytes (value.Int n) = 0 ∷ to_be_bytes w64 (cast_unsigned w64 n)
value_bytes (value.Text t) = 1 ∷ u32 (length t) ++ t

abbrev pub gap_bytes : Gap → Bytes
gap_bytes (gap.After n) = 0 ∷ u32 n
gap_bytes (gap.Head split code) = 1 ∷ u32 split ++ u16 code

-- an operation is its row, from 0, and its fields as they stand there
abbrev pub op_bytes : Op → Bytes
op_bytes (op.InsertSerial node role g) = 0 ∷ u32 node ++ (u32 role ++ gap_bytes g)
op_bytes (op.InsertParallel node role split join first last) =
    1 ∷ u32 node ++ (u32 role ++ (u32 split ++ (u32 join ++ (u32 first ++ u32 last))))
op_bytes (op.InsertConditional node role split join g) = 2 ∷ u32 node ++ (u32 role ++ (u32 split ++ (u32 join ++ gap_bytes g)))
op_bytes (op.DeleteActivity node) = 3 ∷ u32 node
op_bytes (op.MoveActivity node g) = 4 ∷ u32 node ++ gap_bytes g
op_bytes (op.InsertSync source target) = 5 ∷ u32 source ++ u32 target
op_bytes (op.DeleteSync source target) = 6 ∷ u32 source ++ u32 target
op_bytes (op.AddElement element k) = 7 ∷ u32 element ++ kind_bytes k
op_bytes (op.AddRead node element mandatory) = 8 ∷ u32 node ++ (u32 element ++ flag mandatory)
op_bytes (op.RemoveRead node element) = 9 ∷ u32 node ++ u32 element
op_bytes (op.AddWrite node element) = 10 ∷ u32 node ++ u32 element
op_bytes (op.RemoveWrite node element) = 11 ∷ u32 node ++ u32 element
op_bytes (op.SetRole node role) = 12 ∷ u32 node ++ u32 role

abbrev pub gate_tag : Gate → ℕ
gate_tag and_gate = 1
gate_tag xor_gate = 2

abbrev mutual
  pub part_bytes : Part → Bytes
  part_bytes (act node) = 0 ∷ u32 node
  part_bytes (gate k split join ls) = gate_tag k ∷ u32 split ++ (u32 join ++ (u32 (lane_count ls) ++ lanes_bytes ls))
  part_bytes (loop start end body) = 3 ∷ u32 start ++ (u32 end ++ (u32 (part_count body) ++ parts_bytes body))

  pub parts_bytes : Parts → Bytes
  parts_bytes nothing = []
  parts_bytes (part p ps) = part_bytes p ++ parts_bytes ps

  pub lanes_bytes : Lanes → Bytes
  lanes_bytes no_lane = []
  lanes_bytes (lane code ps ls) = u16 code ++ (u32 (part_count ps) ++ (parts_bytes ps ++ lanes_bytes ls))

-- the items of a tree behind their number
abbrev pub body_bytes : Parts → Bytes
body_bytes ps = u32 (part_count ps) ++ parts_bytes ps

-- branches behind their number
abbrev pub branches_bytes : Lanes → Bytes
branches_bytes ls = u32 (lane_count ls) ++ lanes_bytes ls

abbrev pub edges_bytes : SchemaModel → Bytes
edges_bytes s = listed (λ r. u32 r.0 ++ (u32 r.1 ++ flag r.2)) s.reads ++ (listed u32_u32 s.writes ++ listed u32_u32 s.roles)

abbrev pub tables_bytes : SchemaModel → Bytes
tables_bytes s = listed u32_u32 s.syncs ++ (listed (λ e. u32 e.0 ++ kind_bytes e.1) s.elements ++ edges_bytes s)

abbrev pub schema_bytes : SchemaModel → Bytes
schema_bytes s = u32 s.start ++ (u32 s.finish ++ (body_bytes s.body ++ tables_bytes s))

-- an event of a case: its tag, the caller, the case, and its fields. A version is stored by its number, as a call of its own
abbrev pub id_bytes : CaseId → Bytes
id_bytes c = u32 c.type_no ++ u32 c.place

abbrev pub case_bytes : ℕ → CaseId → Event → Bytes
case_bytes caller c (event.Create version) = []
case_bytes caller c (event.Migrate version) = []
case_bytes caller c (event.Start node user roles) = 5 ∷ u32 caller ++ (id_bytes c ++ (u32 node ++ (u32 user ++ listed u32 roles)))
case_bytes caller c (event.End node user choice writes) =
    6 ∷ u32 caller ++ (id_bytes c ++ (u32 node ++ (u32 user ++ (listed (λ w. u32 w.0 ++ value_bytes w.1) writes ++ optional u16 choice))))
case_bytes caller c (event.Withdraw node user) = 9 ∷ u32 caller ++ (id_bytes c ++ (u32 node ++ u32 user))
case_bytes caller c (event.Change ops) = 7 ∷ u32 caller ++ (id_bytes c ++ listed op_bytes ops)

abbrev pub payload : ℕ → Stored → Bytes
payload caller (stored.Define t s) = 1 ∷ u32 caller ++ (u32 t ++ schema_bytes s)
payload caller (stored.Install t ops) = 2 ∷ u32 caller ++ (u32 t ++ listed op_bytes ops)
payload caller (stored.Newest t) = 3 ∷ u32 caller ++ u32 t
payload caller (stored.Create c number) = 4 ∷ u32 caller ++ (id_bytes c ++ u32 number)
payload caller (stored.Migrate c number) = 8 ∷ u32 caller ++ (id_bytes c ++ u32 number)
payload caller (stored.Case c e) = case_bytes caller c e

-- the other way: bytes are the payload of a call, or of none
pub record IsPayloadOf (bytes : Bytes) (caller : ℕ) (e : Stored) : Type 0 where
  pub number : IsNumber caller
  pub fits : Fits e
  pub same : payload caller e ≡ bytes

abbrev pub IsPayloadOfNone : Bytes → Type 0
IsPayloadOfNone bytes = (caller : ℕ) (e : Stored) → IsPayloadOf bytes caller e → ⊥

-- what was read of bytes
abbrev pub Reads : Bytes → Option Recorded → Type 0
Reads bytes None = IsPayloadOfNone bytes
Reads bytes (Some r) = IsPayloadOf bytes r.caller r.event
