-- The names that most proofs of the crate cite, passed on from one place. Declares nothing.
pub use Rattle.adept_io.proofs.Sent.{gives_nothing, gives_then}
pub use Rattle.adept_io.specs.Written.{Gives}
pub use Rattle.case_core.specs.declared.events.Event.{Event}
pub use Rattle.case_places.specs.Places.{Placed, places_of}
pub use Rattle.file_model.specs.declared.files.File.{File}
pub use Rattle.file_words.specs.Lines.{Bytes, CutLines}
pub use Rattle.line_calls.specs.{Calls.{call_of, cells_in, cells_of, cells_told}, Files.{place_of, roles_of}}
pub use Rattle.report_text.proofs.NumberedRows.{numbered-take_more, side_by_side-ended, side_by_side-next}
pub use Rattle.report_text.specs.{Journals.numbered, Report.{cases_text, kinds_text, side_by_side}}
pub use Rattle.report_words.proofs.Rows.{gives_as, gives_item, gives_row}
pub use Rattle.script_run.specs.{Calls.{call_case, call_kind, changed_at, changed_where, each_of, on_case, on_each, on_kind, told_to, worked}, CaseEnds.CaseEnd}
pub use Rattle.std.proofs.Common.{[], ℕ, ◌++◌, ◌+◌, ◌-◌, ◌<◌, ◌==◌, ◌∙◌, ◌∷◌, ◌≡◌, ◌≤◌, ◌⊎◌, ap, append-nil, append_assoc, arith, Bool, decimal, eqb, Err, false, get_or, IfOk, if◌then◌else◌, inl, inr, is_some, length, List, None, Ok}
pub use Rattle.std.proofs.{Common.{Option, option_map, refl, Result, rules, slice_get, Some, subst, suc, sym, take, true, zero}, lemmas.Bool.{and_parts, both_ways, cases_Bool, eq-eqb, eqb-false, eqb-true, ltb-false}}
pub use Rattle.std.proofs.lemmas.Slice.Zip.{either_empty_from_Zip, Zip-more}
pub use Rattle.std.specs.{Iterator.Adapters.{zip_first, zip_second}, List.{flat_map, list_any, position_from}, Option.{option_copied, option_or}, Prelude.{◌&&◌, ◌||◌, codes, nat_lt, not}, Slice.Iter.iter_rest}
pub use Rattle.talk_answers.specs.{Entries.{case_entry, case_numbered, entries, entries_of_each, entry_at, entry_of_case, entry_of_kind, if_both, if_there, kind_entry, kind_numbered, last_entry}, Lines.{quoted, quoted_line}}
pub use Rattle.talk_answers.specs.{Standings.{actor_line, case_items, item_lines, line_if_concerned, roles_text, spaced_role, standing, standing_at, standing_of, type_line, versions_of}, Tried.{call_tried, case_tried, each_tried}}
pub use Rattle.talk_answers.specs.Tried.{kind_tried, told_tried, tried, tried_at}
pub use Rattle.unit_run.specs.{Runs.{IsOf, Placing}, Tries.{next_case_entry, next_kind_entry}}
pub use Rattle.wsm_items.specs.{WorkItems.{item_node, items_in}, declared.work_items.Item.Item}
pub use Rattle.wsm_sound.specs.{VersionModel.VersionModel, declared.versions.CaseId.CaseId}
