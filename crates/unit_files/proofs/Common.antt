-- The names that most proofs of the crate cite, passed on from one place. Declares nothing.
pub use Rattle.file_drafts.specs.{Drafts.{around, new_draft, whole}, declared.drafts.Draft.Draft}
pub use Rattle.file_forms.specs.{DeclarationForms.{actor_ahead, actor_line, begins_reserved, declaration_line, is_reserved, roles_at_end}, Forms.{a_case, a_deed, a_read, a_sync, a_type, a_write, activity, an_actor, an_element, at_head}}
pub use Rattle.file_forms.specs.Forms.{behind, closes_block, conditional, Declaration, Deed, delete, element, first_phase, group_end, insert, move, NamedGap, next_phase, opens_and, opens_branch, opens_loop, opens_xor, OperationLine}
pub use Rattle.file_forms.specs.Forms.{parallel, read, ScriptLine, set_role, sync, to_change, to_create, to_end, to_install, to_migrate, to_start, to_withdraw, type_end, TypeLine, unread, unsync, unwrite, write}
pub use Rattle.file_forms.specs.OperationForms.{around_items, conditional_line, edge_line, edge_operation, insert_line, move_line, new_node, operation_line, parallel_line, place, role_line, row_line, tree_operation, with_block}
pub use Rattle.file_forms.specs.{ScriptForms.{choice_ahead, deed, end_deed, named_deed, pairs, script_line}, TypeForms.{outer_line, tree_line, type_line}}
pub use Rattle.file_model.specs.{Declaring.{case_declared, declared, phase_begun, role_numbers, with_actor, with_case, with_roles}, Operating.{grouped, line_of_group, op_in, operated, with_names, with_op, with_place}, Reading.at_line}
pub use Rattle.file_model.specs.{Reading.{declares, file, file_of, finished, finished_in, fitting, formed, read_from, refused, step, step_in, step_outside, unless_long, unless_not_text, why_long}, Scripting.{acted, actor_in, case_in}}
pub use Rattle.file_model.specs.{Scripting.{changing, counted, if_known, installing, line_of, migrate_of, migrating, migrations_with, numbered, one_install, scripted, with_elements, with_group, with_line}, Steps.{all_phases, at_place}}
pub use Rattle.file_model.specs.{Steps.{element_in, no_contents, node_in, open_lines, outside, over, phases_with, refuse, State, Step, twice, unless, with_element, with_node, with_script_line}, Typing.{ended, fits_in, has_element}}
pub use Rattle.file_model.specs.{Typing.{has_read, has_sync, has_write, typed}, declared.files.Act.Act, declared.refusals.Refused.Refused, declared.refusals.Why.Why, declared.states.Contents.Contents, declared.states.Group.Group}
pub use Rattle.file_model.specs.declared.states.Section.{Section}
pub use Rattle.file_names.specs.Names.{is_listed, place_of}
pub use Rattle.file_units.proofs.Grows.{GrowsStep, IsInUnit, step_in-grows}
pub use Rattle.file_units.specs.Units.{behind_read, behind_unit, has_ended, lines_read, no_units, said, says, settled, unit_end, unit_read, units_read}
pub use Rattle.file_words.specs.{Lengths.first_long, Lines.{Bytes, CutLines, lines_of, onto_lines, put_first, without_return}, Words.{is, is_comment, is_skipped, words_of}, declared.lengths.TooLong.TooLong}
pub use Rattle.std.proofs.Common.{[], ℕ, ◌&&◌, ◌++◌, ◌+◌, ◌==◌, ◌∙◌, ◌∷◌, ◌≡◌, ◌≤◌, ◌⊎◌, add-one, ap, append-nil, append_assoc, arith, Bool, Err, false, if◌then◌else◌, inl, inr, length, List, map, None, not, Ok, Option, refl, Result, Some}
pub use Rattle.std.proofs.{Common.{subst, suc, sym, take, true}, lemmas.Bool.{and_parts, eq-eqb, eqb-true, le-ltb, leb-false, lt-leb, ltb-false, not-true}}
pub use Rattle.std.specs.{Option.{is_some, option_or}, Prelude.{◌||◌, codes, flat_map, fold, IfOk, IfSome, nat_le, nat_lt, option_map}, Str.is_utf8}
pub use Rattle.talk_items.specs.{Items.{begins_with_change, ends, ends_line, is_end, item_end, opens, place_behind, unit_opens, words}, Keywords.keyword, declared.items.Place.Place, declared.keywords.Keyword.Keyword}
pub use Rattle.unit_files.specs.{Alike.{IsAtLine, lines_behind, lines_taken, Reads, said_of, unit_taken}, Files.{Accepted, AreAccepted, bytes_of, deeds_read, deeds_said, IsFileOf, IsReadAs, IsRefusedAs, IsWhole, line_behind, lines_in}}
pub use Rattle.unit_files.specs.{Items.{GoesOn, IsOneItem, IsOpen, Lands}, Same.{but_for, deed_of, deeds, deeds_in, Follows, IsFileLimit, IsOfFile, renumbered, Rest, rest_of, SameNames, SamePlace, SameRefusal, SameState, Within}}
pub use Rattle.wsm_schema.specs.SchemaModel.{SchemaModel}
pub use Rattle.wsm_sound.specs.{Faults.fault_of, declared.faults.Fault.Fault}
