-- The names that most proofs of the crate cite, passed on from one place. Declares nothing.
pub use Rattle.case_core.specs.{CaseModel.{CaseModel, not_created}, Machine.{case_after, case_reply}, declared.events.Event.Event, declared.replies.Reply.Reply}
pub use Rattle.file_facts.proofs.Cases.{ids-distinct, row-at}
pub use Rattle.file_facts.specs.Facts.{ArePlaced, IsDeclared, IsKnown, IsSound, IsWorkable}
pub use Rattle.file_model.specs.{declared.files.CaseDecl.CaseDecl, declared.files.File.File, declared.files.Line.Line}
pub use Rattle.legal_run.specs.{Legal.{AreOfActors, AreTraces, done_by, HasCalls, IsActor, IsByPhases, IsLegalCase, IsLegalKind, Legal, Trace}, LineCalls.{AreBegun, AreCallsOf, AreCallsOfLines, AreOf, ArePart, asked, Call, calls_of_case}}
pub use Rattle.legal_run.specs.LineCalls.{calls_of_kind, lines_of, of_case, of_kind, told, told_each, told_some}
pub use Rattle.line_calls.proofs.Facts.{asked-known, known-call}
pub use Rattle.line_calls.specs.{Calls.{asked_among, call_of, cells_told, is_case}, Files.{place_of, roles_of}}
pub use Rattle.script_run.specs.{Calls.{answered_version, call_case, call_kind, called, changed_where, each_of, if_among, newest_in, put_back, told_to, worked}, Entries.{CaseEntry, KindEntry}, Serial.{defined, kinds_from, opening}}
pub use Rattle.script_run.specs.{Serial.{phase_worked, program, serial, uncalled}, declared.runs.ClosedCase.ClosedCase, declared.runs.ClosedKind.ClosedKind, declared.runs.Run.Run}
pub use Rattle.std.proofs.Common.{[], ℕ, ◌&&◌, ◌++◌, ◌+◌, ◌<◌, ◌==◌, ◌∙◌, ◌∷◌, ◌≡◌, ◌≢◌, ◌≤◌, ◌⊎◌, add-one, ap, append_assoc, arith, Bool, Decides, drop, drop-cons, eq-eqb, eqb, false, filter, get_or, if◌then◌else◌, inl, inr, length}
pub use Rattle.std.proofs.{Common.{length-append, List, lt-ltb, map, ne_eqb, None, Option, option_and_then, refl, set, slice_get, Some, subst, suc, sym, take, true, zero}, lemmas.Bool.{and_parts, cond_both, eqb-true, ltb-false, ltb-true}}
pub use Rattle.std.proofs.{lemmas.List.{append-nil, length-map, take-append-drop, take-map}, lemmas.List.Elements.{All-from_recursion, filter-append}, lemmas.Option.{same_Some, slice_get-get_or, slice_get-map, slice_get_cases}}
pub use Rattle.std.proofs.lemmas.Option.{slice_get_past, slice_get_read, slice_get_within}
pub use Rattle.std.specs.{List.{flat_map, range_with_len}, Option.option_map, Prelude.{codes, fold, nat_lt}}
pub use Rattle.turn_cell.proofs.Histories.{calls_of-append}
pub use Rattle.turn_cell.specs.{History.{calls_of, entry, IsLegal, state_after}, declared.journal.Entry.Entry}
pub use Rattle.type_core.proofs.Versions.{newest-told, sound-defined, versions-kept}
pub use Rattle.type_core.specs.{KindModel.{KindModel, not_defined}, Machine.{kind_after, kind_reply}, declared.events.KindEvent.KindEvent}
pub use Rattle.wsm_lists.proofs.Lists.{all-rows-map, rows-append}
pub use Rattle.wsm_lists.specs.Rows.{AllRows}
pub use Rattle.wsm_sound.specs.{VersionModel.VersionModel, declared.versions.CaseId.CaseId}
