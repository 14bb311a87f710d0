-- Forms as contracts see them: without where their words lie in memory.
use Rattle.std.specs.{Prelude.{ℕ, List, map}, Borrow.Bor}
use Rattle.file_words.specs.{Lines.Bytes, Shown.{shown, shown_pair}, declared.names.NameWord.NameWord}
use Rattle.file_forms.specs.Forms as form
use Rattle.file_forms.specs.{declared.pieces.RoleWord.RoleWord, declared.declarations.Declaration.Declaration, declared.type_lines.TypeLine.TypeLine, declared.script_lines.Deed.Deed, declared.script_lines.ScriptLine.ScriptLine}
use Rattle.file_forms.specs.{declared.operation_lines.NamedGap.NamedGap, declared.operation_lines.OperationLine.OperationLine}
use Rattle.file_forms.specs.declared.pieces.RoleWord.TheVariants as role_word
use Rattle.file_forms.specs.declared.declarations.Declaration.TheVariants as declaration
use Rattle.file_forms.specs.declared.type_lines.TypeLine.TheVariants as type_line
use Rattle.file_forms.specs.declared.script_lines.Deed.TheVariants as deed
use Rattle.file_forms.specs.declared.script_lines.ScriptLine.TheVariants as script_line
use Rattle.file_forms.specs.declared.operation_lines.NamedGap.TheVariants as place
use Rattle.file_forms.specs.declared.operation_lines.OperationLine.TheVariants as operation_line

abbrev pub shown_word : Bor Bytes → Bytes
shown_word w = w.now

abbrev pub shown_names : NameWord × NameWord → Bytes × Bytes
shown_names p = (p.0.bytes.now, p.1.bytes.now)

-- a name beside something without words, and two names beside it
abbrev pub shown_with : {A : Type 0} → NameWord × A → Bytes × A
shown_with p = (p.0.bytes.now, p.1)

abbrev pub shown_two_with : {A : Type 0} → NameWord × NameWord × A → Bytes × Bytes × A
shown_two_with p = (p.0.bytes.now, p.1.bytes.now, p.2)

-- a role, and names beside one
abbrev pub shown_role : RoleWord → form.RoleWord
shown_role (role_word.Number n) = form.by_number n
shown_role (role_word.Name n) = form.by_name n.bytes.now

abbrev pub shown_name_role : NameWord × RoleWord → Bytes × form.RoleWord
shown_name_role p = (p.0.bytes.now, shown_role p.1)

abbrev pub shown_names_role : NameWord × NameWord × RoleWord → Bytes × Bytes × form.RoleWord
shown_names_role p = (p.0.bytes.now, p.1.bytes.now, shown_role p.2)

-- pieces beside the words behind them
abbrev pub shown_ahead : NameWord × Bor (List (Bor Bytes)) → Bytes × List Bytes
shown_ahead p = (p.0.bytes.now, shown p.1.now)

abbrev pub shown_two_ahead : NameWord × NameWord × Bor (List (Bor Bytes)) → Bytes × Bytes × List Bytes
shown_two_ahead p = (p.0.bytes.now, p.1.bytes.now, shown p.2.now)

abbrev pub shown_behind : {A : Type 0} → A × Bor (List (Bor Bytes)) → A × List Bytes
shown_behind p = (p.0, shown p.1.now)

abbrev pub shown_role_ahead : RoleWord × Bor (List (Bor Bytes)) → form.RoleWord × List Bytes
shown_role_ahead p = (shown_role p.0, shown p.1.now)

abbrev pub shown_new_node : NameWord × RoleWord × Bor (List (Bor Bytes)) → Bytes × form.RoleWord × List Bytes
shown_new_node p = (p.0.bytes.now, shown_role p.1, shown p.2.now)

abbrev pub shown_declaration : Declaration → form.Declaration
shown_declaration (declaration.«Type» name) = form.a_type name.bytes.now
shown_declaration (declaration.Actor name roles) = form.an_actor name.bytes.now (map shown_role roles.items)
shown_declaration (declaration.Case name kind) = form.a_case name.bytes.now kind.bytes.now
shown_declaration declaration.Phase = form.first_phase

abbrev pub shown_type_line : TypeLine → form.TypeLine
shown_type_line (type_line.Activity node role) = form.activity node.bytes.now (shown_role role)
shown_type_line (type_line.And split join) = form.opens_and split.bytes.now join.bytes.now
shown_type_line (type_line.Xor split join role) = form.opens_xor split.bytes.now join.bytes.now (shown_role role)
shown_type_line (type_line.Branch code) = form.opens_branch code
shown_type_line (type_line.Loop start end role) = form.opens_loop start.bytes.now end.bytes.now (shown_role role)
shown_type_line type_line.Done = form.closes_block
shown_type_line (type_line.Sync source target) = form.a_sync source.bytes.now target.bytes.now
shown_type_line (type_line.Element element kind) = form.an_element element.bytes.now kind
shown_type_line (type_line.Read node element mandatory) = form.a_read node.bytes.now element.bytes.now mandatory
shown_type_line (type_line.Write node element) = form.a_write node.bytes.now element.bytes.now
shown_type_line type_line.TypeEnd = form.type_end

abbrev pub shown_deed : Deed → form.Deed
shown_deed (deed.Create case) = form.to_create case.bytes.now
shown_deed (deed.Start case node) = form.to_start case.bytes.now node.bytes.now
shown_deed (deed.Withdraw case node) = form.to_withdraw case.bytes.now node.bytes.now
shown_deed (deed.End case node choice writes) = form.to_end case.bytes.now node.bytes.now choice (map shown_pair writes.items)
shown_deed (deed.Change case) = form.to_change case.bytes.now
shown_deed (deed.Install kind) = form.to_install kind.bytes.now
shown_deed (deed.Migrate kind) = form.to_migrate kind.bytes.now

abbrev pub shown_script_line : ScriptLine → form.ScriptLine
shown_script_line script_line.Phase = form.next_phase
shown_script_line (script_line.Deed actor d) = form.a_deed actor.bytes.now (shown_deed d)

abbrev pub shown_place : NamedGap → form.NamedGap
shown_place (place.After node) = form.behind node.bytes.now
shown_place (place.Head split code) = form.at_head split.bytes.now code

abbrev pub shown_operation : OperationLine → form.OperationLine
shown_operation (operation_line.Insert node role p) = form.insert node.bytes.now (shown_role role) (shown_place p)
shown_operation (operation_line.Parallel node role split join first last) =
    form.parallel node.bytes.now (shown_role role) split.bytes.now join.bytes.now first.bytes.now last.bytes.now
shown_operation (operation_line.Conditional node role split join p) = form.conditional node.bytes.now (shown_role role) split.bytes.now join.bytes.now (shown_place p)
shown_operation (operation_line.Delete node) = form.delete node.bytes.now
shown_operation (operation_line.Move node p) = form.move node.bytes.now (shown_place p)
shown_operation (operation_line.Sync source target) = form.sync source.bytes.now target.bytes.now
shown_operation (operation_line.Unsync source target) = form.unsync source.bytes.now target.bytes.now
shown_operation (operation_line.Element element kind) = form.element element.bytes.now kind
shown_operation (operation_line.Read node element mandatory) = form.read node.bytes.now element.bytes.now mandatory
shown_operation (operation_line.Unread node element) = form.unread node.bytes.now element.bytes.now
shown_operation (operation_line.Write node element) = form.write node.bytes.now element.bytes.now
shown_operation (operation_line.Unwrite node element) = form.unwrite node.bytes.now element.bytes.now
shown_operation (operation_line.Role node role) = form.set_role node.bytes.now (shown_role role)
shown_operation operation_line.GroupEnd = form.group_end
