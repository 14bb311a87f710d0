-- What holds of the names and the writes in a form: P of each name that a file keeps, and W of each write.
use Rattle.std.specs.Prelude.{ℕ, List, length}
use Rattle.wsm_lists.specs.{Rows.AllRows, declared.values.Value.Value}
use Rattle.file_words.specs.Lines.{Bytes}
use Rattle.file_forms.specs.Forms.{RoleWord, by_number, by_name, Declaration, a_type, an_actor, a_case, first_phase, TypeLine, activity, opens_and, opens_xor, opens_branch, opens_loop, closes_block, a_sync, an_element, a_read, a_write}
use Rattle.file_forms.specs.Forms.{type_end, Deed, to_create, to_start, to_withdraw, to_end, to_change, to_install, to_migrate, ScriptLine, next_phase, a_deed, NamedGap, behind, at_head, OperationLine, insert, parallel, conditional, delete}
use Rattle.file_forms.specs.Forms.{move, sync, unsync, element, read, unread, write, unwrite, set_role, group_end}

abbrev pub RoleHas : (Bytes → Type 0) → RoleWord → Type 0
RoleHas P (by_number n) = Unit {0}
RoleHas P (by_name n) = P n

abbrev pub DeclarationHas : (Bytes → Type 0) → Declaration → Type 0
DeclarationHas P (a_type name) = P name
DeclarationHas P (an_actor name roles) = P name × AllRows (RoleHas P) roles
DeclarationHas P (a_case name kind) = P name
DeclarationHas P first_phase = Unit {0}

abbrev pub TypeLineHas : (Bytes → Type 0) → TypeLine → Type 0
TypeLineHas P (activity node role) = P node × RoleHas P role
TypeLineHas P (opens_and split join) = P split × P join
TypeLineHas P (opens_xor split join role) = P split × P join × RoleHas P role
TypeLineHas P (opens_branch code) = Unit {0}
TypeLineHas P (opens_loop start end role) = P start × P end × RoleHas P role
TypeLineHas P closes_block = Unit {0}
TypeLineHas P (a_sync source target) = P source × P target
TypeLineHas P (an_element name kind) = P name
TypeLineHas P (a_read node name mandatory) = P node × P name
TypeLineHas P (a_write node name) = P node × P name
TypeLineHas P type_end = Unit {0}

-- the names of a case, of a type and of an actor are only looked up
abbrev pub DeedHas : (Bytes → Type 0) → (Bytes × Value → Type 0) → Deed → Type 0
DeedHas P W (to_start case node) = P node
DeedHas P W (to_withdraw case node) = P node
DeedHas P W (to_end case node choice writes) = P node × AllRows W writes
DeedHas P W _ = Unit {0}

abbrev pub ScriptLineHas : (Bytes → Type 0) → (Bytes × Value → Type 0) → ScriptLine → Type 0
ScriptLineHas P W next_phase = Unit {0}
ScriptLineHas P W (a_deed actor d) = DeedHas P W d

abbrev pub GapHas : (Bytes → Type 0) → NamedGap → Type 0
GapHas P (behind node) = P node
GapHas P (at_head split code) = P split

abbrev pub OperationHas : (Bytes → Type 0) → OperationLine → Type 0
OperationHas P (insert node role place) = P node × RoleHas P role × GapHas P place
OperationHas P (parallel node role split join first last) = P node × RoleHas P role × P split × P join × P first × P last
OperationHas P (conditional node role split join place) = P node × RoleHas P role × P split × P join × GapHas P place
OperationHas P (delete node) = P node
OperationHas P (move node place) = P node × GapHas P place
OperationHas P (sync source target) = P source × P target
OperationHas P (unsync source target) = P source × P target
OperationHas P (element name kind) = P name
OperationHas P (read node name mandatory) = P node × P name
OperationHas P (unread node name) = P node × P name
OperationHas P (write node name) = P node × P name
OperationHas P (unwrite node name) = P node × P name
OperationHas P (set_role node role) = P node × RoleHas P role
OperationHas P group_end = Unit {0}

-- how many roles a declaration has
abbrev pub roles_in : Declaration → ℕ
roles_in (an_actor name roles) = length roles
roles_in _ = 0

-- how many writes a line has
abbrev pub writes_in_deed : Deed → ℕ
writes_in_deed (to_end case node choice writes) = length writes
writes_in_deed _ = 0

abbrev pub writes_in : ScriptLine → ℕ
writes_in next_phase = 0
writes_in (a_deed actor d) = writes_in_deed d
