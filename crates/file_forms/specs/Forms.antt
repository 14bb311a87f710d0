-- The forms of lines: one set for each place where a line may stand.
use Rattle.std.specs.Prelude.{ℕ, Bool, List, Option}
use Rattle.wsm_lists.specs.{declared.values.ElementKind.ElementKind, declared.values.Value.Value}
use Rattle.file_words.specs.Lines.{Bytes}

-- a role as it is written
pub data RoleWord : Type 0 where
  by_number : ℕ → RoleWord
  by_name : Bytes → RoleWord

-- a declaration, or the line that begins a phase
pub data Declaration : Type 0 where
  a_type : (name : Bytes) → Declaration
  an_actor : (name : Bytes) (roles : List RoleWord) → Declaration
  a_case : (name kind : Bytes) → Declaration
  first_phase : Declaration

-- a line of a type
pub data TypeLine : Type 0 where
  activity : (node : Bytes) (role : RoleWord) → TypeLine
  opens_and : (split join : Bytes) → TypeLine
  opens_xor : (split join : Bytes) (role : RoleWord) → TypeLine
  opens_branch : (code : ℕ) → TypeLine
  opens_loop : (start end : Bytes) (role : RoleWord) → TypeLine
  closes_block : TypeLine
  a_sync : (source target : Bytes) → TypeLine
  an_element : (element : Bytes) (kind : ElementKind) → TypeLine
  a_read : (node element : Bytes) (mandatory : Bool) → TypeLine
  a_write : (node element : Bytes) → TypeLine
  type_end : TypeLine

-- what an actor does
pub data Deed : Type 0 where
  to_create : (case : Bytes) → Deed
  to_start : (case node : Bytes) → Deed
  to_withdraw : (case node : Bytes) → Deed
  to_end : (case node : Bytes) (choice : Option ℕ) (writes : List (Bytes × Value)) → Deed
  to_change : (case : Bytes) → Deed
  to_install : (kind : Bytes) → Deed
  to_migrate : (kind : Bytes) → Deed

-- a script line, or the line that begins the next phase
pub data ScriptLine : Type 0 where
  next_phase : ScriptLine
  a_deed : (actor : Bytes) → Deed → ScriptLine

-- where an operation puts a node
pub data NamedGap : Type 0 where
  behind : (node : Bytes) → NamedGap
  at_head : (split : Bytes) (code : ℕ) → NamedGap

-- a line of a group of operations
pub data OperationLine : Type 0 where
  insert : (node : Bytes) (role : RoleWord) (place : NamedGap) → OperationLine
  parallel : (node : Bytes) (role : RoleWord) (split join first last : Bytes) → OperationLine
  conditional : (node : Bytes) (role : RoleWord) (split join : Bytes) (place : NamedGap) → OperationLine
  delete : (node : Bytes) → OperationLine
  move : (node : Bytes) (place : NamedGap) → OperationLine
  sync unsync : (source target : Bytes) → OperationLine
  element : (element : Bytes) (kind : ElementKind) → OperationLine
  read : (node element : Bytes) (mandatory : Bool) → OperationLine
  unread write unwrite : (node element : Bytes) → OperationLine
  set_role : (node : Bytes) (role : RoleWord) → OperationLine
  group_end : OperationLine
