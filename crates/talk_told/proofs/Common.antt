-- The names that most proofs of the crate cite, passed on from one place. Declares nothing.
pub use Rattle.case_core.specs.declared.events.Event.{Event}
pub use Rattle.case_places.specs.Places.{places_from, places_of}
pub use Rattle.file_facts.specs.Facts.{ArePlaced, HasType, IsSound}
pub use Rattle.file_model.specs.{Reading.{at_line, file_of}, declared.files.Act.Act, declared.files.CaseDecl.CaseDecl, declared.files.File.File, declared.files.Line.Line, declared.files.TypeDecl.TypeDecl, declared.states.Contents.Contents}
pub use Rattle.file_units.specs.{Facts.{IsHeld, IsReady}, Taking.{SaysBehind, SaysCase, SaysLine, SaysType}, Units.{lines_read, said, said_line, settled, unit_end, unit_read, unit_step}, declared.held.Said.Said}
pub use Rattle.file_words.specs.Lines.{Bytes}
pub use Rattle.line_calls.specs.Calls.{cells_of}
pub use Rattle.script_run.specs.{Calls.{acted, answered_version, call_case, call_kind, changed_at, changed_where, created, each_of, migrated, newest, newest_in, on_case, on_each, on_kind, worked}, Serial.{defined, program, uncalled}}
pub use Rattle.script_run.specs.{declared.runs.ClosedCase.ClosedCase, declared.runs.ClosedKind.ClosedKind, declared.runs.Run.Run}
pub use Rattle.std.proofs.Common.{[], ℕ, ◌&&◌, ◌*◌, ◌++◌, ◌+◌, ◌-◌, ◌<◌, ◌==◌, ◌||◌, ◌∙◌, ◌∷◌, ◌≡◌, ◌≤◌, ap, append-nil, append_assoc, arith, Bool, drop, Err, false, filter, flat_map, if◌then◌else◌, length, List, None, Ok, Option, refl}
pub use Rattle.std.proofs.{Common.{Result, Some, subst, suc, sym, take, true, zero}, Math.Seq.{drop-append_seam, drop-length}, lemmas.Bool.{eqb-true, le-ltb, lt-ltb, ltb-false, ltb-true}, lemmas.List.length-append}
pub use Rattle.std.specs.Prelude.{codes, cond, fold, nat_lt, slice_get}
pub use Rattle.talk_answers.specs.Entries.{case_entry, case_numbered, entries, entry_of_case, if_both, if_there, kind_entry, kind_numbered}
pub use Rattle.talk_state.specs.{Answers.{called_text, entries_of}, Held.{called_by, declared_behind, Held, held_after, held_behind, held_by, line_worked, nothing_held, placed_in, run_behind, with_unit}}
pub use Rattle.talk_told.specs.Told.{case_more, case_name, cases_more, entries_more, HasVersion, IsAtWork, kind_more, kind_name, kinds_more, run_more}
pub use Rattle.type_core.proofs.Versions.{by-event, newest-told, sound-defined}
pub use Rattle.type_core.specs.{KindModel.{KindModel, not_defined}, Machine.{newest_of, next_kind}, declared.events.KindEvent.KindEvent}
pub use Rattle.unit_run.proofs.{Placed.{place-found, placed-from, PlacedFrom, with_one}, PutBack.{changed_at-none, changed_at-suc, got-none}}
pub use Rattle.unit_run.specs.Runs.{Placing, types_of, with_case, with_kind}
pub use Rattle.wsm_lists.specs.Rows.{AllRows}
pub use Rattle.wsm_sound.specs.{VersionModel.VersionModel, declared.versions.CaseId.CaseId}
