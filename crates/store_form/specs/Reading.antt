-- Reading payloads from left to right: what each small reader gives.
use Rattle.std.specs.{Prelude.{ℕ, zero, suc, Bool, true, false, ◌&&◌, List, [], ◌∷◌, length, take, drop, Option, Some, None, nat_lt, nat_le, ◌==◌, if◌then◌else◌}, Int.{Width, w16, w32, w64, byte_len, from_be_bytes, cast_signed}}
use Rattle.wsm_lists.specs.{Keys.{both, first, first_two}, Rows.key_lt, declared.values.ElementKind.ElementKind, declared.values.Value.Value}
use Rattle.wsm_lists.specs.declared.values.ElementKind.TheVariants as kind
use Rattle.wsm_lists.specs.declared.values.Value.TheVariants as value
use Rattle.wsm_schema.specs.{SchemaModel.SchemaModel, Tree.{Part, Parts, Lanes, act, gate, loop, parts, lanes, and_gate, xor_gate}}
use Rattle.wsm_ops.specs.{declared.operations.Gap.Gap, declared.operations.Op.Op}
use Rattle.wsm_ops.specs.declared.operations.Gap.TheVariants as gap
use Rattle.wsm_ops.specs.declared.operations.Op.TheVariants as op
use Rattle.case_core.specs.declared.events.Event.TheVariants as event
use Rattle.wsm_sound.specs.declared.versions.CaseId.{CaseId}
use Rattle.store_form.specs.{Payload.Bytes, Stored.case_of, declared.stored.Recorded.Recorded, declared.stored.Stored.Stored}
use Rattle.store_form.specs.declared.stored.Stored.TheVariants as stored

-- a field is a value and the bytes behind it
abbrev pub Field : Type 0 → Type 0
Field A = Option (A × Bytes)

abbrev pub Reader : Type 0 → Type 0
Reader A = Bytes → Field A

infixl 10 ◌>>=◌
abbrev pub ◌>>=◌ : {A B : Type 0} → Option A → (A → Option B) → Option B
(Some x) >>= f = f x
None >>= f = None

-- one field, and another behind it
abbrev pub both_at : {A B : Type 0} → Reader A → Reader B → Reader (A × B)
both_at one two bytes = do
  a ← one bytes
  b ← two a.1
  Some ((a.0, b.0), b.1)

-- what is made of a field
abbrev pub as_at : {A B : Type 0} → (A → B) → Reader A → Reader B
as_at make item bytes = do
  a ← item bytes
  Some (make a.0, a.1)

-- a field, where it is as it has to be
abbrev pub where_at : {A : Type 0} → (A → Bool) → Reader A → Reader A
where_at test item bytes = do
  a ← item bytes
  if test a.0 then Some a else None

abbrev pub number_at : Width → Reader ℕ
number_at w bytes = if nat_lt (length bytes) (byte_len w) then None else Some (from_be_bytes w (take (byte_len w) bytes), drop (byte_len w) bytes)

abbrev pub code_at : Reader ℕ
code_at = number_at w16

abbrev pub u32_at : Reader ℕ
u32_at = number_at w32

abbrev pub byte_at : Reader ℕ
byte_at [] = None
byte_at (b ∷ rest) = Some (b, rest)

abbrev pub flag_of : ℕ → Option Bool
flag_of zero = Some false
flag_of (suc zero) = Some true
flag_of (suc (suc b)) = None

abbrev pub flag_at : Reader Bool
flag_at bytes = do
  b ← byte_at bytes
  flag ← flag_of b.0
  Some (flag, b.1)

-- so many of what is read one after another
abbrev pub many_at : {A : Type 0} → Reader A → ℕ → Reader (List A)
many_at item zero bytes = Some ([], bytes)
many_at item (suc n) bytes = do
  x ← item bytes
  xs ← many_at item n x.1
  Some (x.0 ∷ xs.0, xs.1)

abbrev pub list_at : {A : Type 0} → Reader A → Reader (List A)
list_at item bytes = do
  n ← u32_at bytes
  many_at item n.0 n.1

abbrev pub option_at : {A : Type 0} → Reader A → Reader (Option A)
option_at item bytes = do
  is_there ← flag_at bytes
  if is_there.0 then as_at Some item is_there.1 else Some (None, is_there.1)

abbrev pub kind_of_flag : Bool → ElementKind
kind_of_flag false = kind.Int
kind_of_flag true = kind.Text

abbrev pub kind_at : Reader ElementKind
kind_at = as_at kind_of_flag flag_at

-- a text has at most 256 bytes
abbrev pub text_at : Reader Value
text_at bytes = do
  n ← u32_at bytes
  if nat_lt (length n.1) n.0 then None else (if nat_le n.0 256 then Some (value.Text (take n.0 n.1), drop n.0 n.1) else None)

abbrev pub int_at : Reader Value
int_at = as_at (λ n. value.Int (cast_signed w64 n)) (number_at w64)

abbrev pub value_at : Reader Value
value_at bytes = do
  is_text ← flag_at bytes
  if is_text.0 then text_at is_text.1 else int_at is_text.1

abbrev pub gap_at : Reader Gap
gap_at bytes = do
  is_head ← flag_at bytes
  if is_head.0 then as_at (λ x. gap.Head x.0 x.1) (both_at u32_at code_at) is_head.1 else as_at gap.After u32_at is_head.1

-- an operation behind its row
abbrev pub op_behind : ℕ → Reader Op
op_behind row =
    if row == 0 then as_at (λ x. op.InsertSerial x.0 x.1.0 x.1.1) (both_at u32_at (both_at u32_at gap_at))
    else (if row == 1 then as_at (λ x. op.InsertParallel x.0 x.1.0 x.1.1.0 x.1.1.1.0 x.1.1.1.1.0 x.1.1.1.1.1) (both_at u32_at (both_at u32_at (both_at u32_at (both_at u32_at (both_at u32_at u32_at)))))
    else (if row == 2 then as_at (λ x. op.InsertConditional x.0 x.1.0 x.1.1.0 x.1.1.1.0 x.1.1.1.1) (both_at u32_at (both_at u32_at (both_at u32_at (both_at u32_at gap_at))))
    else (if row == 3 then as_at op.DeleteActivity u32_at
    else (if row == 4 then as_at (λ x. op.MoveActivity x.0 x.1) (both_at u32_at gap_at)
    else (if row == 5 then as_at (λ x. op.InsertSync x.0 x.1) (both_at u32_at u32_at)
    else (if row == 6 then as_at (λ x. op.DeleteSync x.0 x.1) (both_at u32_at u32_at)
    else (if row == 7 then as_at (λ x. op.AddElement x.0 x.1) (both_at u32_at kind_at)
    else (if row == 8 then as_at (λ x. op.AddRead x.0 x.1.0 x.1.1) (both_at u32_at (both_at u32_at flag_at))
    else (if row == 9 then as_at (λ x. op.RemoveRead x.0 x.1) (both_at u32_at u32_at)
    else (if row == 10 then as_at (λ x. op.AddWrite x.0 x.1) (both_at u32_at u32_at)
    else (if row == 11 then as_at (λ x. op.RemoveWrite x.0 x.1) (both_at u32_at u32_at)
    else (if row == 12 then as_at (λ x. op.SetRole x.0 x.1) (both_at u32_at u32_at)
    else (λ _. None)))))))))))))

unfoldable pub op_at : Reader Op
op_at bytes = do
  row ← byte_at bytes
  op_behind row.0 row.1

-- a row of parts, a branch, branches, and a block behind its tag
abbrev pub body_at : Reader Part → Reader Parts
body_at item = as_at parts (list_at item)

abbrev pub lane_at : Reader Part → Reader (ℕ × Parts)
lane_at item = both_at code_at (body_at item)

abbrev pub lanes_at : Reader Part → Reader Lanes
lanes_at item = as_at lanes (list_at (lane_at item))

abbrev pub block_behind : Reader Part → ℕ → Reader Part
block_behind item tag =
    if tag == 1 then as_at (λ x. gate and_gate x.0 x.1.0 x.1.1) (both_at u32_at (both_at u32_at (lanes_at item)))
    else (if tag == 2 then as_at (λ x. gate xor_gate x.0 x.1.0 x.1.1) (both_at u32_at (both_at u32_at (lanes_at item)))
    else (if tag == 3 then as_at (λ x. loop x.0 x.1.0 x.1.1) (both_at u32_at (both_at u32_at (body_at item)))
    else (λ _. None)))

abbrev pub part_behind : (ℕ → Reader Part) → ℕ → Reader Part
part_behind blocks tag = if tag == 0 then as_at act u32_at else blocks tag

-- a part in which at most so many blocks stand one inside another
abbrev pub part_at : ℕ → Reader Part
part_at zero bytes = do
  tag ← byte_at bytes
  part_behind (λ _ _. None) tag.0 tag.1
part_at (suc deep) bytes = do
  tag ← byte_at bytes
  part_behind (block_behind (part_at deep)) tag.0 tag.1

-- whether each key is above the one before it
abbrev pub rises_from : {X : Type 0} → (X → ℕ × ℕ) → ℕ × ℕ → List X → Bool
rises_from key below [] = true
rises_from key below (x ∷ xs) = key_lt below (key x) && rises_from key (key x) xs

abbrev pub rises : {X : Type 0} → (X → ℕ × ℕ) → List X → Bool
rises key [] = true
rises key (x ∷ xs) = rises_from key (key x) xs

abbrev pub table_at : {X : Type 0} → (X → ℕ × ℕ) → Reader X → Reader (List X)
table_at key item = where_at (rises key) (list_at item)

-- roles, of which none is 0
abbrev pub roles_at : Reader (List (ℕ × ℕ))
roles_at = table_at first (where_at (λ r. nat_lt 0 r.1) (both_at u32_at u32_at))

-- the rows of a schema's lists
abbrev pub pair_at : Reader (ℕ × ℕ)
pair_at = both_at u32_at u32_at

abbrev pub element_at : Reader (ℕ × ElementKind)
element_at = both_at u32_at kind_at

abbrev pub read_at : Reader (ℕ × ℕ × Bool)
read_at = as_at (λ x. (x.0, x.1.0, x.1.1)) (both_at u32_at (both_at u32_at flag_at))

unfoldable pub schema_at : Reader SchemaModel
schema_at =
    as_at (λ x. record { start = x.0; finish = x.1.0; body = x.1.1.0; syncs = x.1.1.1.0; elements = x.1.1.1.1.0; reads = x.1.1.1.1.1.0; writes = x.1.1.1.1.1.1.0; roles = x.1.1.1.1.1.1.1 })
    (both_at u32_at (both_at u32_at (both_at (body_at (part_at 64)) (both_at (table_at both pair_at) (both_at (table_at first element_at) (both_at (table_at first_two read_at) (both_at (table_at both pair_at) roles_at)))))))

-- the events
abbrev pub id_at : Reader CaseId
id_at = as_at (λ x. case_of x.0 x.1) pair_at

abbrev pub ops_at : Reader (List Op)
ops_at = list_at op_at

abbrev pub write_at : Reader (ℕ × Value)
write_at = both_at u32_at value_at

unfoldable pub stored_behind : ℕ → Reader Stored
stored_behind tag =
    if tag == 1 then as_at (λ x. stored.Define x.0 x.1) (both_at u32_at schema_at)
    else (if tag == 2 then as_at (λ x. stored.Install x.0 x.1) (both_at u32_at ops_at)
    else (if tag == 3 then as_at stored.Newest u32_at
    else (if tag == 4 then as_at (λ x. stored.Create x.0 x.1) (both_at id_at u32_at)
    else (if tag == 5 then as_at (λ x. stored.Case x.0 (event.Start x.1.0 x.1.1.0 x.1.1.1)) (both_at id_at (both_at u32_at (both_at u32_at (list_at u32_at))))
    else (if tag == 6 then as_at (λ x. stored.Case x.0 (event.End x.1.0 x.1.1.0 x.1.1.1.1 x.1.1.1.0)) (both_at id_at (both_at u32_at (both_at u32_at (both_at (list_at write_at) (option_at code_at)))))
    else (if tag == 7 then as_at (λ x. stored.Case x.0 (event.Change x.1)) (both_at id_at ops_at)
    else (if tag == 8 then as_at (λ x. stored.Migrate x.0 x.1) (both_at id_at u32_at)
    else (if tag == 9 then as_at (λ x. stored.Case x.0 (event.Withdraw x.1.0 x.1.1)) (both_at id_at (both_at u32_at u32_at))
    else (λ _. None)))))))))

-- the tag stands in front of the caller
unfoldable pub recorded_at : Reader Recorded
recorded_at bytes = do
  tag ← byte_at bytes
  caller ← u32_at tag.1
  event ← stored_behind tag.0 caller.1
  Some (record { caller = caller.0; event = event.0 }, event.1)

-- all of the bytes
abbrev pub whole_of : {A : Type 0} → Field A → Option A
whole_of None = None
whole_of (Some (x, [])) = Some x
whole_of (Some (x, b ∷ rest)) = None

abbrev pub recorded_of : Bytes → Option Recorded
recorded_of bytes = whole_of (recorded_at bytes)
