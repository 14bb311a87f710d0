-- The names that most proofs of the crate cite, passed on from one place. Declares nothing.
pub use Rattle.file_drafts.specs.{Drafts.{new_draft, whole}, declared.drafts.Draft.Draft}
pub use Rattle.file_forms.specs.{DeclarationForms.{declaration_line, header}, Forms.{a_case, a_deed, a_read, a_sync, a_type, a_write, activity, an_actor, an_element, at_head, behind, by_name, by_number, closes_block, conditional}}
pub use Rattle.file_forms.specs.Forms.{Declaration, Deed, delete, element, first_phase, group_end, insert, move, NamedGap, next_phase, opens_and, opens_branch, opens_loop, opens_xor, OperationLine, parallel, read, RoleWord, ScriptLine}
pub use Rattle.file_forms.specs.{Forms.{set_role, sync, to_change, to_create, to_end, to_install, to_migrate, to_start, to_withdraw, type_end, TypeLine, unread, unsync, unwrite, write}, OperationForms.operation_line}
pub use Rattle.file_forms.specs.{ScriptForms.script_line, TypeForms.type_line}
pub use Rattle.file_model.specs.{CaseCounts.{AreCounted, cases_of_type}, Declaring.{case_declared, declared, phase_begun, role_numbers, roles_noted, with_actor, with_case, with_roles, with_type}, Operating.{act_of, grouped, line_of_group}}
pub use Rattle.file_model.specs.{Operating.{op_in, operated, with_names, with_op, with_place}, Reading.{at_line, declares, file, file_of, file_up_to, finished, finished_in, fitting, formed, in_format, read_from, refused, step, step_in}}
pub use Rattle.file_model.specs.{Reading.{step_outside, step_words, unless_long, unless_not_text}, Scripting.{acted, actor_in, case_in, changing, counted, if_known, installing, line_of, migrate_of, migrating, migrations_with, numbered}}
pub use Rattle.file_model.specs.{Scripting.{one_install, scripted, with_elements, with_group, with_line}, Sizes.{act_effort, is_small, IsBounded, line_effort, phase_effort}, Steps.{all_phases, at_place, file_limits, node_in, open_lines}}
pub use Rattle.file_model.specs.{Steps.{opening, outside, over, phases_with, role_noted, State, Step, twice, unless, with_element, with_node, with_role, with_script_line}, Typing.{ended, typed}, declared.files.Act.Act}
pub use Rattle.file_model.specs.{declared.files.File.File, declared.refusals.Refused.Refused, declared.refusals.Why.Why, declared.states.Contents.Contents, declared.states.Group.Group, declared.states.Limits.Limits}
pub use Rattle.file_model.specs.declared.states.Section.{Section}
pub use Rattle.file_names.specs.Names.{is_listed, noted, place_of}
pub use Rattle.file_words.specs.{Lengths.{first_long, has_long_text, is_longer, long, long_part}, Lines.{Bytes, lines_of, without_return}, Words.{is_skipped, words_of}, declared.lengths.TooLong.TooLong}
pub use Rattle.std.proofs.Common.{[], ℕ, ◌*◌, ◌++◌, ◌+◌, ◌-◌, ◌<◌, ◌==◌, ◌^◌, ◌∙◌, ◌∷◌, ◌≡◌, ◌≤◌, ap, arith, Bool, Err, false, inl, inr, length, List, min, None, Ok, Option, refl, Some, subst, suc, sym, take, true, zero}
pub use Rattle.std.proofs.{lemmas.Bool.{and_parts, cases_Bool, eq-eqb, eqb-false, eqb-true, le-leb, leb-false, ltb-false}, lemmas.Grind.get_or_default_zero, lemmas.List.{get_or-set_other, get_or-set_same, length-append, take_more}}
pub use Rattle.std.proofs.lemmas.List.Sums.{count_by-le-length, sum_by_push}
pub use Rattle.std.specs.{List.{list_all, sum_by}, Option.option_or, Prelude.{codes, cond, flat_map, get_or, IfOk, IfSome, if◌then◌else◌, map, nat_le, nat_lt, option_map, Result, set, slice_index}, Str.is_utf8}
pub use Rattle.wsm_lists.specs.declared.values.Value.{Value}
pub use Rattle.wsm_ops.specs.declared.operations.Op.{Op}
pub use Rattle.wsm_schema.specs.SchemaModel.{SchemaModel}
pub use Rattle.wsm_sound.specs.{Faults.fault_of, declared.faults.Fault.Fault}
