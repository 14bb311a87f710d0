-- The names that most proofs of the crate cite, passed on from one place. Declares nothing.
pub use Rattle.file_drafts.specs.{Drafts.{around, branched, branched_in, closed, closed_in, new_draft, whole}, declared.drafts.Draft.Draft}
pub use Rattle.file_forms.specs.{DeclarationForms.{actor_ahead, actor_line, begins_reserved, declaration_line, header, plain_line, roles, roles_at_end, some_roles}, Forms.{a_case, a_deed, a_read, a_sync, a_type, a_write, activity}}
pub use Rattle.file_forms.specs.Forms.{an_actor, an_element, at_head, behind, by_name, by_number, closes_block, conditional, Declaration, Deed, delete, element, first_phase, group_end, insert, move, NamedGap, next_phase, opens_and}
pub use Rattle.file_forms.specs.Forms.{opens_branch, opens_loop, opens_xor, OperationLine, parallel, read, RoleWord, ScriptLine, set_role, sync, to_change, to_create, to_end, to_install, to_migrate, to_start, to_withdraw, type_end}
pub use Rattle.file_forms.specs.{Forms.{TypeLine, unread, unsync, unwrite, write}, OperationForms.{around_items, conditional_line, edge_line, edge_operation, first_and_last, insert_line, last_item, move_line, name_and_code, new_node}}
pub use Rattle.file_forms.specs.{OperationForms.{operation_line, parallel_line, place, role_ahead, role_line, role_word_ahead, row_line, tree_operation, with_block}, ScriptForms.{choice_ahead, code_ahead, deed, deed_line, end_behind}}
pub use Rattle.file_forms.specs.{ScriptForms.{end_deed, named_deed, pairs, plain_deed, script_line}, TypeForms.{outer_line, tree_line, type_line}}
pub use Rattle.file_model.specs.{Declaring.{case_declared, declared, listed, phase_begun, role_numbers, roles_noted, with_actor, with_case, with_roles, with_type}, Operating.{act_of, grouped, line_of_group, op_in, operated, with_names}}
pub use Rattle.file_model.specs.{Operating.{with_op, with_place}, Reading.{at_line, declares, file_of, fitting, formed, in_format, refused, step_in, step_outside, unless_long, unless_not_text}, Room.count_of_names, Scripting.acted}
pub use Rattle.file_model.specs.Scripting.{actor_in, case_in, changing, counted, if_known, installing, line_of, migrate_of, migrating, migrations_with, numbered, one_install, scripted, with_elements, with_group, with_line}
pub use Rattle.file_model.specs.{ShortForms.{IsShort, IsShortDeclaration, IsShortDeed, IsShortGap, IsShortOperation, IsShortScriptLine, IsShortTypeLine, IsShortWrite}, Steps.{all_phases, at_place, node_in, open_lines, outside, refuse}}
pub use Rattle.file_model.specs.{Steps.{role_noted, State, Step, twice, unless, with_element, with_node, with_role, with_script_line}, Typing.{ended, fits_in, typed}, declared.files.CaseDecl.CaseDecl, declared.files.TypeDecl.TypeDecl}
pub use Rattle.file_model.specs.{declared.refusals.FileRefusal.FileRefusal, declared.refusals.Refused.Refused, declared.refusals.Why.Why, declared.states.Contents.Contents, declared.states.Group.Group, declared.states.Section.Section}
pub use Rattle.file_names.specs.Names.{is_listed, noted, place_of}
pub use Rattle.file_units.specs.{Facts.{HasShortNames, IsHeld, IsSmall}, Growing.{Begins, cut, Grows, IsEven, IsFrontOf, marks_of}, Taking.{Refuses, said_behind, said_by, said_effort, SaysBehind, SaysSome, Tells, unit_refusal}}
pub use Rattle.file_units.specs.Units.{has_ended, IsSettled, last_line, lines_read, no_units, said, said_line, says, settled, unit_end, unit_read, unit_step}
pub use Rattle.file_words.specs.{Lengths.first_long, Lines.{Bytes, CutLines, front_line, lines_of, one_left, onto_lines, put_first, without_return}, Shown.shown, Words.{cuts, fields, is, is_skipped, is_word, onto_fields, words_of}}
pub use Rattle.file_words.specs.declared.lengths.TooLong.{TooLong}
pub use Rattle.std.proofs.Common.{[], ℕ, ◌&&◌, ◌*◌, ◌++◌, ◌+◌, ◌-◌, ◌<◌, ◌==◌, ◌∙◌, ◌∷◌, ◌≡◌, ◌≢◌, ◌≤◌, ap, append-nil, append_assoc, arith, Bool, Err, false, filter, length, List, map, None, Ok, Option, refl, Result, rules, Some, subst}
pub use Rattle.std.proofs.{Common.{suc, sym, take, true, zero}, lemmas.List.{length-append, length-map, length-take}, lemmas.Option.{same_Some, slice_get_within}}
pub use Rattle.std.specs.{Borrow.Bor, List.onto_first, Option.option_or, Prelude.{codes, IfErr, IfOk, IfSome, if◌then◌else◌, nat_le, nat_lt, not, OnOk, slice_get, slice_index}, Str.is_utf8}
pub use Rattle.wsm_lists.specs.{Rows.AllRows, declared.values.Value.Value}
pub use Rattle.wsm_ops.specs.declared.operations.Op.{Op}
pub use Rattle.wsm_schema.specs.SchemaModel.{SchemaModel}
pub use Rattle.wsm_sound.specs.{Faults.fault_of, declared.faults.Fault.Fault}
