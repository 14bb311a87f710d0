-- Lines of a group of operations.
use Rattle.std.specs.{Prelude.{ℕ, List, [], ◌∷◌, length, ◌==◌, Option, Some, None, option_map, if◌then◌else◌, codes}, Option.option_or}
use Rattle.file_words.specs.{Lines.Bytes, Words.is, Numbers.code}
use Rattle.file_forms.specs.{Forms.{RoleWord, by_number, NamedGap, behind, at_head, OperationLine, insert, parallel, conditional, delete, move, sync, unsync, element, read, unread, write, unwrite, set_role, group_end}, PieceForms.◌>>=◌}
use Rattle.file_forms.specs.PieceForms.{nothing_more, only, one_name, name_ahead, role_word, two_names, two_names_ahead, element_and_kind, read_edge}

abbrev pub name_and_code : List Bytes → Option (Bytes × ℕ)
name_and_code ws = do
  a ← name_ahead ws
  c ← only a.1 >>= code
  Some (a.0, c)

abbrev pub place : List Bytes → Option NamedGap
place [] = None
place (k ∷ ws) =
    if is (codes "after") k then option_map behind (one_name ws)
    else (if is (codes "head") k then option_map (λ p. at_head p.0 p.1) (name_and_code ws)
    else None)

abbrev pub role_word_ahead : ℕ → List Bytes → Option (RoleWord × List Bytes)
role_word_ahead format [] = None
role_word_ahead format (r ∷ ws) = option_map (λ n. (n, ws)) (role_word format r)

-- `role` and a role, or else nothing, which is role 0, and the words behind
abbrev pub role_ahead : ℕ → List Bytes → Option (RoleWord × List Bytes)
role_ahead format [] = Some (by_number 0, [])
role_ahead format (k ∷ ws) = if is (codes "role") k then role_word_ahead format ws else Some (by_number 0, k ∷ ws)

-- a new node, its role, and the words behind
abbrev pub new_node : ℕ → List Bytes → Option (Bytes × RoleWord × List Bytes)
new_node format ws = do
  a ← name_ahead ws
  r ← role_ahead format a.1
  Some (a.0, r.0, r.1)

-- `with` and two names, and the words behind
abbrev pub with_block : List Bytes → Option (Bytes × Bytes × List Bytes)
with_block [] = None
with_block (k ∷ ws) = if is (codes "with") k then two_names_ahead ws else None

-- the last item is the first where it is not written
abbrev pub last_item : Bytes → List Bytes → Option Bytes
last_item first ws = if length ws == 0 then Some first else one_name ws

abbrev pub first_and_last : List Bytes → Option (Bytes × Bytes)
first_and_last ws = do
  a ← name_ahead ws
  b ← last_item a.0 a.1
  Some (a.0, b)

abbrev pub around_items : List Bytes → Option (Bytes × Bytes)
around_items [] = None
around_items (k ∷ ws) = if is (codes "around") k then first_and_last ws else None

abbrev pub insert_line : ℕ → List Bytes → Option OperationLine
insert_line format ws = do
  n ← new_node format ws
  p ← place n.2
  Some (insert n.0 n.1 p)

abbrev pub parallel_line : ℕ → List Bytes → Option OperationLine
parallel_line format ws = do
  n ← new_node format ws
  b ← with_block n.2
  i ← around_items b.2
  Some (parallel n.0 n.1 b.0 b.1 i.0 i.1)

abbrev pub conditional_line : ℕ → List Bytes → Option OperationLine
conditional_line format ws = do
  n ← new_node format ws
  b ← with_block n.2
  p ← place b.2
  Some (conditional n.0 n.1 b.0 b.1 p)

abbrev pub move_line : List Bytes → Option OperationLine
move_line ws = do
  a ← name_ahead ws
  p ← place a.1
  Some (move a.0 p)

abbrev pub role_line : ℕ → List Bytes → Option OperationLine
role_line format ws = do
  a ← name_ahead ws
  r ← only a.1 >>= role_word format
  Some (set_role a.0 r)

-- operations that change the tree of blocks, and the end of the group
abbrev pub tree_operation : ℕ → Bytes → List Bytes → Option OperationLine
tree_operation format k ws =
    if is (codes "insert") k then insert_line format ws
    else (if is (codes "parallel") k then parallel_line format ws
    else (if is (codes "conditional") k then conditional_line format ws
    else (if is (codes "delete") k then option_map delete (one_name ws)
    else (if is (codes "move") k then move_line ws
    else (if is (codes "end") k then nothing_more group_end ws
    else None)))))

-- an operation on the edge between two names
abbrev pub edge_operation : Bytes → Bytes × Bytes → Option OperationLine
edge_operation k p =
    if is (codes "sync") k then Some (sync p.0 p.1)
    else (if is (codes "unsync") k then Some (unsync p.0 p.1)
    else (if is (codes "unread") k then Some (unread p.0 p.1)
    else (if is (codes "write") k then Some (write p.0 p.1)
    else (if is (codes "unwrite") k then Some (unwrite p.0 p.1)
    else None))))

abbrev pub edge_line : Bytes → List Bytes → Option OperationLine
edge_line k ws = two_names ws >>= edge_operation k

-- an operation on an element, a read or a role
abbrev pub row_line : ℕ → Bytes → List Bytes → Option OperationLine
row_line format k ws =
    if is (codes "element") k then option_map (λ p. element p.0 p.1) (element_and_kind ws)
    else (if is (codes "read") k then option_map (λ p. read p.0 p.1 p.2) (read_edge ws)
    else (if is (codes "role") k then role_line format ws
    else None))

-- a line of a file of that format; no keyword is in two of these
abbrev pub operation_line : ℕ → List Bytes → Option OperationLine
operation_line format [] = None
operation_line format (k ∷ ws) = option_or (tree_operation format k ws) (option_or (edge_line k ws) (row_line format k ws))
