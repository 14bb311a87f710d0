-- Each reader takes at least one byte, so a list has no more items than there are bytes behind their number.
use Rattle.std.specs.{Prelude.{◌≡◌, ℕ, zero, suc, ◌<◌, ◌≤◌, Bool, true, false, List, [], ◌∷◌, length, take, drop, Option, Some, None, IfSome, nat_lt, nat_le, ◌==◌, if◌then◌else◌}, Int.{Width, w16, w32, w64, byte_len}}
use Rattle.std.proofs.{Common.{refl, ap, ◌∙◌, arith, length-drop}, lemmas.Bool.ltb-false}
use Rattle.wsm_lists.specs.declared.values.Value.{Value}
use Rattle.wsm_lists.specs.declared.values.Value.TheVariants as value
use Rattle.wsm_ops.specs.declared.operations.Gap.TheVariants as gap
use Rattle.wsm_schema.specs.Tree.{Part}
use Rattle.store_form.specs.{Payload.Bytes, Reading.{Reader, ◌>>=◌, as_at, block_behind, body_at, both_at, byte_at, code_at, flag_at, flag_of, gap_at, id_at, int_at, kind_at, lane_at, lanes_at, list_at, many_at, number_at, op_at}}
use Rattle.store_form.specs.Reading.{op_behind, option_at, part_at, part_behind, read_at, text_at, u32_at, value_at}

abbrev pub Shrinks : {A : Type 0} → Reader A → Type 0
Shrinks {A = A} item = (bytes : Bytes) (read : A × Bytes) → item bytes ≡ Some read → length read.1 < length bytes

-- it leaves no more than there was
abbrev pub Keeps : {A : Type 0} → Reader A → Type 0
Keeps {A = A} item = (bytes : Bytes) (read : A × Bytes) → item bytes ≡ Some read → length read.1 ≤ length bytes

-- bytes begin with a number, and there are no fewer behind it
abbrev pub HasBytesForCount : Bytes → Type 0
HasBytesForCount bytes = IfSome (u32_at bytes) (λ n. n.0 ≤ length n.1)

abbrev found : {A : Type 0} → A → Option A
found x = Some x

same : {A : Type 0} (x y : A) → found x ≡ found y → x ≡ y
same x y e = cc

-- what a step that was read is made of
step : {A B : Type 0} (o : Option A) (f : A → Option B) (y : B) → (o >>= f) ≡ Some y → (x : A) × (o ≡ Some x) × (f x ≡ Some y)
step (Some x) f y e = (x, refl, e)
step None f y e = absurd cc

-- what a test left
unless : {A : Type 0} (t : Bool) (x y : A) → (if t then None else Some x) ≡ Some y → (t ≡ false) × (x ≡ y)
unless true x y e = absurd cc
unless false x y e = (refl, same x y e)

where_so : {A : Type 0} (t : Bool) (x y : A) → (if t then Some x else None) ≡ Some y → x ≡ y
where_so true x y e = same x y e
where_so false x y e = absurd cc

keeps_of : {A : Type 0} (item : Reader A) → Shrinks item → Keeps item
keeps_of item shrinks bytes read e = omega (arith, shrinks bytes read e)

nothing_keeps : {A : Type 0} → Keeps {A = A} (λ _. None)
nothing_keeps bytes read e = absurd cc

choose : {A : Type 0} (t : Bool) (one two : Reader A) → Keeps one → Keeps two → Keeps (if t then one else two)
choose true one two first second bytes read e = first bytes read e
choose false one two first second bytes read e = second bytes read e

-- a part behind one that takes a byte
behind : {A B : Type 0} (one : Reader A) (two : A → Reader B) → Shrinks one → ((x : A) → Keeps (two x)) → (bytes : Bytes) (read : B × Bytes) → (one bytes >>= λ x. two x.0 x.1) ≡ Some read → length read.1 < length bytes
behind one two first second bytes read e =
    let a = step (one bytes) (λ x. two x.0 x.1) read e in
    omega (arith, first bytes a.0 a.1, second a.0.0 a.0.1 read a.2)

both_keeps : {A B : Type 0} (one : Reader A) (two : Reader B) → Keeps one → Keeps two → Keeps (both_at one two)
both_keeps one two first second bytes read e =
    let a = step (one bytes) (λ x. two x.1 >>= λ y. Some ((x.0, y.0), y.1)) read e in
    let b = step (two a.0.1) (λ y. Some ((a.0.0, y.0), y.1)) read a.2 in
    let is = ap (λ z. length z.1) (same ((a.0.0, b.0.0), b.0.1) read b.2) in
    omega (arith, first bytes a.0 a.1, second a.0.1 b.0 b.1, is)

pub both_shrinks : {A B : Type 0} (one : Reader A) (two : Reader B) → Shrinks one → Shrinks two → Shrinks (both_at one two)
both_shrinks one two first second bytes read e =
    let a = step (one bytes) (λ x. two x.1 >>= λ y. Some ((x.0, y.0), y.1)) read e in
    let b = step (two a.0.1) (λ y. Some ((a.0.0, y.0), y.1)) read a.2 in
    let is = ap (λ z. length z.1) (same ((a.0.0, b.0.0), b.0.1) read b.2) in
    omega (arith, first bytes a.0 a.1, second a.0.1 b.0 b.1, is)

as_keeps : {A B : Type 0} (make : A → B) (item : Reader A) → Keeps item → Keeps (as_at make item)
as_keeps make item keeps bytes read e =
    let a = step (item bytes) (λ x. Some (make x.0, x.1)) read e in
    let is = ap (λ z. length z.1) (same (make a.0.0, a.0.1) read a.2) in
    omega (arith, keeps bytes a.0 a.1, is)

as_shrinks : {A B : Type 0} (make : A → B) (item : Reader A) → Shrinks item → Shrinks (as_at make item)
as_shrinks make item shrinks bytes read e =
    let a = step (item bytes) (λ x. Some (make x.0, x.1)) read e in
    let is = ap (λ z. length z.1) (same (make a.0.0, a.0.1) read a.2) in
    omega (arith, shrinks bytes a.0 a.1, is)

-- numbers, a byte, a flag
number_shrinks : (w : Width) → 0 < byte_len w → Shrinks (number_at w)
number_shrinks w wide bytes read e =
    let k = unless (nat_lt (length bytes) (byte_len w)) _ read e in
    let long : byte_len w ≤ length bytes = ltb-false _ _ k.0 in
    let is = ap (λ z. length z.1) k.1 in
    omega (arith, wide, long, length-drop (byte_len w) bytes, is)

pub code_shrinks : Shrinks code_at
code_shrinks = number_shrinks w16 (omega arith)

pub u32_shrinks : Shrinks u32_at
u32_shrinks = number_shrinks w32 (omega arith)

byte_shrinks : Shrinks byte_at
byte_shrinks [] read e = absurd cc
byte_shrinks (b ∷ rest) read e = let is = ap (λ z. length z.1) (same (b, rest) read e) in omega (arith, is)

pub flag_shrinks : Shrinks flag_at
flag_shrinks bytes read e =
    let b = step (byte_at bytes) (λ b. flag_of b.0 >>= λ flag. Some (flag, b.1)) read e in
    let f = step (flag_of b.0.0) (λ flag. Some (flag, b.0.1)) read b.2 in
    let is = ap (λ z. length z.1) (same (f.0, b.0.1) read f.2) in
    omega (arith, byte_shrinks bytes b.0 b.1, is)

pub kind_shrinks : Shrinks kind_at
kind_shrinks = as_shrinks _ flag_at flag_shrinks

either_keeps : {A : Type 0} (item : Reader A) → Keeps item → (is_there : Bool) → Keeps (λ rest. if is_there then as_at Some item rest else Some (None, rest))
either_keeps item keeps true rest read e = as_keeps Some item keeps rest read e
either_keeps item keeps false rest read e = let is = ap (λ z. length z.1) (same (None, rest) read e) in omega (arith, is)

pub option_shrinks : {A : Type 0} (item : Reader A) → Shrinks item → Shrinks (option_at item)
option_shrinks item shrinks bytes read e =
    behind flag_at (λ is_there rest. if is_there then as_at Some item rest else Some (None, rest)) flag_shrinks (either_keeps item (keeps_of item shrinks)) bytes read e

-- values
text_keeps : Keeps text_at
text_keeps bytes read e =
    let n = step (u32_at bytes) (λ n. if nat_lt (length n.1) n.0 then None else (if nat_le n.0 256 then Some (value.Text (take n.0 n.1), drop n.0 n.1) else None)) read e in
    omega (arith, u32_shrinks bytes n.0 n.1, inside (nat_lt (length n.0.1) n.0.0) n.0.0 n.0.1 read n.2)
  where
    inside : (t : Bool) (count : ℕ) (rest : Bytes) (read : Value × Bytes) → (if t then None else (if nat_le count 256 then Some (value.Text (take count rest), drop count rest) else None)) ≡ Some read → length read.1 ≤ length rest
    inside true count rest read e = absurd cc
    inside false count rest read e =
        let is = ap (λ z. length z.1) (where_so (nat_le count 256) (value.Text (take count rest), drop count rest) read e) in
        omega (arith, length-drop count rest, is)

int_keeps : Keeps int_at
int_keeps = keeps_of int_at (as_shrinks _ (number_at w64) (number_shrinks w64 (omega arith)))

either_value : (is_text : Bool) → Keeps (λ rest. if is_text then text_at rest else int_at rest)
either_value true rest read e = text_keeps rest read e
either_value false rest read e = int_keeps rest read e

pub value_shrinks : Shrinks value_at
value_shrinks bytes read e = behind flag_at (λ is_text rest. if is_text then text_at rest else int_at rest) flag_shrinks either_value bytes read e

-- operations
pair_shrinks : {A : Type 0} (item : Reader A) → Shrinks item → Shrinks (both_at u32_at item)
pair_shrinks item shrinks = both_shrinks u32_at item u32_shrinks shrinks

either_gap : (is_head : Bool) → Keeps (λ rest. if is_head then as_at (λ x. gap.Head x.0 x.1) (both_at u32_at code_at) rest else as_at gap.After u32_at rest)
either_gap true rest read e = as_keeps (λ x. gap.Head x.0 x.1) (both_at u32_at code_at) (keeps_of _ (pair_shrinks code_at code_shrinks)) rest read e
either_gap false rest read e = as_keeps gap.After u32_at (keeps_of u32_at u32_shrinks) rest read e

pub gap_shrinks : Shrinks gap_at
gap_shrinks bytes read e =
    behind flag_at (λ is_head rest. if is_head then as_at (λ x. gap.Head x.0 x.1) (both_at u32_at code_at) rest else as_at gap.After u32_at rest) flag_shrinks either_gap bytes read e

row_keeps : {A B : Type 0} (make : A → B) (item : Reader A) → Shrinks item → Keeps (as_at make item)
row_keeps make item shrinks = as_keeps make item (keeps_of item shrinks)

op_keeps : (row : ℕ) → Keeps (op_behind row)
op_keeps row =
    choose (row == 0) _ _ (row_keeps _ _ (pair_shrinks _ (pair_shrinks _ gap_shrinks)))
    (choose (row == 1) _ _ (row_keeps _ _ (pair_shrinks _ (pair_shrinks _ (pair_shrinks _ (pair_shrinks _ (pair_shrinks _ u32_shrinks))))))
    (choose (row == 2) _ _ (row_keeps _ _ (pair_shrinks _ (pair_shrinks _ (pair_shrinks _ (pair_shrinks _ gap_shrinks)))))
    (choose (row == 3) _ _ (row_keeps _ _ u32_shrinks)
    (choose (row == 4) _ _ (row_keeps _ _ (pair_shrinks _ gap_shrinks))
    (choose (row == 5) _ _ (row_keeps _ _ (pair_shrinks _ u32_shrinks))
    (choose (row == 6) _ _ (row_keeps _ _ (pair_shrinks _ u32_shrinks))
    (choose (row == 7) _ _ (row_keeps _ _ (pair_shrinks _ kind_shrinks))
    (choose (row == 8) _ _ (row_keeps _ _ (pair_shrinks _ (pair_shrinks _ flag_shrinks)))
    (choose (row == 9) _ _ (row_keeps _ _ (pair_shrinks _ u32_shrinks))
    (choose (row == 10) _ _ (row_keeps _ _ (pair_shrinks _ u32_shrinks))
    (choose (row == 11) _ _ (row_keeps _ _ (pair_shrinks _ u32_shrinks))
    (choose (row == 12) _ _ (row_keeps _ _ (pair_shrinks _ u32_shrinks)) nothing_keeps))))))))))))

pub op_shrinks : Shrinks op_at
unfolding op_at
op_shrinks bytes read e = behind byte_at op_behind byte_shrinks op_keeps bytes read e

-- rows of a schema, and cases
pub read_shrinks : Shrinks read_at
read_shrinks = as_shrinks _ _ (pair_shrinks _ (pair_shrinks _ flag_shrinks))

pub id_shrinks : Shrinks id_at
id_shrinks = as_shrinks _ _ (pair_shrinks _ u32_shrinks)

-- lists
many_keeps : {A : Type 0} (item : Reader A) → Keeps item → (n : ℕ) → Keeps (many_at item n)
many_keeps item keeps zero bytes read e = let is = ap (λ z. length z.1) (same ([], bytes) read e) in omega (arith, is)
many_keeps item keeps (suc n) bytes read e =
    let x = step (item bytes) (λ x. many_at item n x.1 >>= λ xs. Some (x.0 ∷ xs.0, xs.1)) read e in
    let xs = step (many_at item n x.0.1) (λ xs. Some (x.0.0 ∷ xs.0, xs.1)) read x.2 in
    let is = ap (λ z. length z.1) (same (x.0.0 ∷ xs.0.0, xs.0.1) read xs.2) in
    omega (arith, keeps bytes x.0 x.1, many_keeps item keeps n x.0.1 xs.0 xs.1, is)

list_shrinks : {A : Type 0} (item : Reader A) → Keeps item → Shrinks (list_at item)
list_shrinks item keeps bytes read e = behind u32_at (many_at item) u32_shrinks (many_keeps item keeps) bytes read e

-- no more are read than there are bytes
abbrev with_first : {A : Type 0} → A → Option (List A × Bytes) → Option (List A × Bytes)
with_first x read = read >>= λ xs. Some (x ∷ xs.0, xs.1)

behind_one : {A : Type 0} (item : Reader A) (n : ℕ) (o : Option (A × Bytes)) → ((x : A × Bytes) → o ≡ Some x → many_at item n x.1 ≡ None) → (o >>= λ x. with_first x.0 (many_at item n x.1)) ≡ None
behind_one item n None none = refl
behind_one item n (Some x) none = ap (with_first x.0) (none x refl)

pub too_many : {A : Type 0} (item : Reader A) → Shrinks item → (n : ℕ) (bytes : Bytes) → length bytes < n → many_at item n bytes ≡ None
too_many item shrinks zero bytes few = absurd (omega (arith, few))
too_many item shrinks (suc n) bytes few = behind_one item n (item bytes) (λ x is. too_many item shrinks n x.1 (omega (arith, few, shrinks bytes x is)))

-- trees
round_keeps : (item : Reader Part) → Shrinks item → (tag : ℕ) → Keeps (block_behind item tag)
round_keeps item shrinks tag =
    choose (tag == 1) _ _ (row_keeps _ _ (pair_shrinks _ (pair_shrinks _ (lanes_shrink item shrinks))))
    (choose (tag == 2) _ _ (row_keeps _ _ (pair_shrinks _ (pair_shrinks _ (lanes_shrink item shrinks))))
    (choose (tag == 3) _ _ (row_keeps _ _ (pair_shrinks _ (pair_shrinks _ (body_shrinks item shrinks)))) nothing_keeps))
  where
    body_shrinks : (item : Reader Part) → Shrinks item → Shrinks (body_at item)
    body_shrinks item shrinks = as_shrinks _ _ (list_shrinks item (keeps_of item shrinks))

    lanes_shrink : (item : Reader Part) → Shrinks item → Shrinks (lanes_at item)
    lanes_shrink item shrinks = as_shrinks _ _ (list_shrinks (lane_at item) (keeps_of _ (both_shrinks code_at (body_at item) code_shrinks (body_shrinks item shrinks))))

part_keeps : (blocks : ℕ → Reader Part) → ((tag : ℕ) → Keeps (blocks tag)) → (tag : ℕ) → Keeps (part_behind blocks tag)
part_keeps blocks keeps tag = choose (tag == 0) _ _ (row_keeps _ _ u32_shrinks) (keeps tag)

pub part_shrinks : (deep : ℕ) → Shrinks (part_at deep)
part_shrinks zero bytes read e = behind byte_at (part_behind (λ _ _. None)) byte_shrinks (part_keeps _ (λ tag. nothing_keeps)) bytes read e
part_shrinks (suc deep) bytes read e =
    behind byte_at (part_behind (block_behind (part_at deep))) byte_shrinks (part_keeps (block_behind (part_at deep)) (round_keeps (part_at deep) (part_shrinks deep))) bytes read e

pub lane_shrinks : (deep : ℕ) → Shrinks (lane_at (part_at deep))
lane_shrinks deep = both_shrinks code_at (body_at (part_at deep)) code_shrinks (as_shrinks _ _ (list_shrinks (part_at deep) (keeps_of _ (part_shrinks deep))))
