-- The names that most proofs of the crate cite, passed on from one place. Declares nothing.
pub use Rattle.file_drafts.specs.{Drafts.{new_draft, whole}, declared.drafts.Draft.Draft}
pub use Rattle.file_facts.specs.Facts.{ArePlaced, HasType, IsDeclared, IsKnown, IsKnownAct, IsSound, IsWorkable, lines_in, LinesMoveAll, MigratesAll, MovesAll}
pub use Rattle.file_forms.specs.{DeclarationForms.{begins_reserved, declaration_line, header}, Forms.{a_case, a_deed, a_read, a_sync, a_type, a_write, activity, an_actor, an_element, at_head, behind, closes_block, conditional, Declaration}}
pub use Rattle.file_forms.specs.Forms.{Deed, delete, element, first_phase, group_end, insert, move, NamedGap, next_phase, opens_and, opens_branch, opens_loop, opens_xor, OperationLine, parallel, read, ScriptLine, set_role, sync, to_change}
pub use Rattle.file_forms.specs.{Forms.{to_create, to_end, to_install, to_migrate, to_start, to_withdraw, type_end, TypeLine, unread, unsync, unwrite, write}, OperationForms.operation_line, ScriptForms.script_line, TypeForms.type_line}
pub use Rattle.file_model.specs.{CaseCounts.{cases_of_type, has_id}, Declaring.{case_declared, declared, phase_begun, role_numbers, with_actor, with_case, with_roles, with_type}, Operating.{act_of, grouped, line_of_group, op_in, operated}}
pub use Rattle.file_model.specs.{Operating.{with_names, with_op, with_place}, Reading.{at_line, declares, file, file_of, file_up_to, finished, finished_in, fitting, formed, in_format, read_from, step, step_in, step_outside, step_words}}
pub use Rattle.file_model.specs.{Reading.{unless_long, unless_not_text}, Scripting.{acted, actor_in, case_in, changing, counted, if_known, installing, line_of, migrate_of, migrating, migrations_with, numbered, one_install, scripted}}
pub use Rattle.file_model.specs.{Scripting.{with_elements, with_group, with_line}, Steps.{all_phases, at_place, file_limits, node_in, open_lines, opening, outside, over, phases_with, State, Step, unless, with_element, with_node}}
pub use Rattle.file_model.specs.{Steps.with_script_line, Typing.{ended, typed}, declared.files.Act.Act, declared.files.ActorDecl.ActorDecl, declared.files.CaseDecl.CaseDecl, declared.files.File.File, declared.files.Line.Line}
pub use Rattle.file_model.specs.{declared.files.TypeDecl.TypeDecl, declared.refusals.Refused.Refused, declared.refusals.Why.Why, declared.states.Contents.Contents, declared.states.Group.Group, declared.states.Limits.Limits}
pub use Rattle.file_model.specs.{declared.states.Section.Section, declared.states.Target.Target}
pub use Rattle.file_names.specs.{Names.{is_listed, noted, number_of, place_of}, declared.declared.DeclaredList.DeclaredList}
pub use Rattle.file_words.specs.{Lengths.first_long, Lines.{Bytes, lines_of, without_return}, Words.{is_skipped, words_of}, declared.lengths.TooLong.TooLong}
pub use Rattle.std.proofs.Common.{[], ℕ, ◌++◌, ◌+◌, ◌<◌, ◌==◌, ◌∷◌, ◌≡◌, ◌≤◌, ◌⊎◌, ap, arith, Bool, cond, Err, false, get_or, inl, inr, length, List, None, Ok, Option, refl, Result, Some, subst, suc, sym, take, true, zero}
pub use Rattle.std.proofs.{lemmas.Bool.{and_from, and_parts, cases_Bool, cases_order, eq-eqb, eqb-true, leb-false, or_cases, or_left, or_right}, lemmas.List.{length_push, take-append-le}, lemmas.List.Sums.count_by_more_yes}
pub use Rattle.std.proofs.{lemmas.List.Sums.{sum_by-take-le, sum_by_push}, lemmas.Option.{cond_some, get_or_from_slice_get, same_Some, slice_get_within}}
pub use Rattle.std.specs.{List.list_any, Option.{is_some, option_or}, Prelude.{bytes_eq, codes, IfOk, if◌then◌else◌, map, nat_le, not, option_map, slice_get}, Str.is_utf8}
pub use Rattle.wsm_lists.proofs.Lists.{all-rows-map, rows-append}
pub use Rattle.wsm_lists.specs.{Rows.AllRows, declared.values.Value.Value}
pub use Rattle.wsm_ops.specs.declared.operations.Op.{Op}
pub use Rattle.wsm_schema.specs.SchemaModel.{SchemaModel}
pub use Rattle.wsm_sound.specs.{Faults.fault_of, declared.faults.Fault.Fault, declared.versions.CaseId.CaseId}
