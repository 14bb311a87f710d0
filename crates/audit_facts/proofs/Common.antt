-- The names that most proofs of the crate cite, passed on from one place. Declares nothing.
pub use Rattle.audit_facts.specs.Facts.{AreApart, HasOneLineWrites, IsAuditable, IsName, IsNamed, IsOneLineValue, IsOneLineWrite, WritesOneLine}
pub use Rattle.file_drafts.specs.{Drafts.{around, whole}, declared.drafts.Draft.Draft}
pub use Rattle.file_forms.specs.{DeclarationForms.{declaration_line, header}, Forms.{a_case, a_deed, a_read, a_sync, a_type, a_write, activity, an_actor, an_element, at_head, behind, by_name, by_number, closes_block, conditional}}
pub use Rattle.file_forms.specs.Forms.{Declaration, Deed, delete, element, first_phase, group_end, insert, move, NamedGap, next_phase, opens_and, opens_branch, opens_loop, opens_xor, OperationLine, parallel, read, RoleWord, ScriptLine}
pub use Rattle.file_forms.specs.{Forms.{set_role, sync, to_change, to_create, to_end, to_install, to_migrate, to_start, to_withdraw, type_end, TypeLine, unread, unsync, unwrite, write}, OperationForms.operation_line}
pub use Rattle.file_forms.specs.{ScriptForms.script_line, TypeForms.type_line}
pub use Rattle.file_model.specs.{Declaring.{case_declared, declared, phase_begun, role_numbers, roles_noted, with_actor, with_case, with_roles}, Operating.{act_of, grouped, line_of_group, op_in, operated, with_names, with_op, with_place}}
pub use Rattle.file_model.specs.{Scripting.{acted, actor_in, case_in, counted, if_known, line_of, migrate_of, migrating, migrations_with, numbered, one_install, scripted, with_elements, with_group, with_line}, Steps.{all_phases, at_place}}
pub use Rattle.file_model.specs.{Steps.{node_in, open_lines, opening, outside, phases_with, role_noted, State, Step, twice, unless, with_element, with_node, with_role, with_script_line}, Typing.{ended, fits_in, typed}}
pub use Rattle.file_model.specs.{declared.refusals.Why.Why, declared.states.Contents.Contents}
pub use Rattle.file_names.specs.Names.{is_listed, noted, place_of}
pub use Rattle.file_words.specs.Lines.{Bytes, lines_of, without_return}
pub use Rattle.std.proofs.Common.{[], ℕ, ◌&&◌, ◌++◌, ◌+◌, ◌==◌, ◌||◌, ◌∙◌, ◌∷◌, ◌≡◌, ap, arith, Bool, Err, false, if◌then◌else◌, inl, inr, length, List, map, ne_eqb, None, not, Ok, Option, refl, Result, Some, subst, suc, sym, true, zero}
pub use Rattle.std.proofs.lemmas.Bool.{and_parts, eqb-true, leb-true, or_cases, or_parts}
pub use Rattle.std.specs.Prelude.{bytes_eq, IfOk, IfSome, nat_le, option_map, slice_get}
pub use Rattle.wsm_lists.specs.{Rows.AllRows, declared.values.Value.Value}
