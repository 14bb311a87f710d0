-- The names that most proofs of the crate cite, passed on from one place. Declares nothing.
pub use Rattle.case_store.proofs.Changes.{changed-later, changed-seam, get-behind, get-changed, get-other, get-replica}
pub use Rattle.case_store.specs.Folding.{called, case_at, folded, fresh, fresh_cases, fresh_kinds, has_case, has_names, on_version, place_between, place_of, starts_from, starts_of, version_of, version_of_kind}
pub use Rattle.file_facts.proofs.Cases.{declared-placed, declared-typed, ids-distinct, row-at}
pub use Rattle.file_facts.specs.Facts.{IsDeclared, IsKnown, IsWorkable}
pub use Rattle.line_calls.proofs.Facts.{known-call, plain-call}
pub use Rattle.std.proofs.Common.{[], ℕ, ◌++◌, ◌+◌, ◌-◌, ◌<◌, ◌==◌, ◌||◌, ◌∙◌, ◌∷◌, ◌≡◌, ◌≤◌, ap, append_assoc, arith, Bool, cond, drop, Err, false, fold, get_or, inl, inr, length, length-append, List, map, None, Ok, Option, refl, Result, Some}
pub use Rattle.std.proofs.{Common.{lt-ltb, subst, suc, sym, take, true, zero}, lemmas.Option.{slice_get-map, slice_get_within, get_or_from_slice_get, same_Some}, lemmas.Bool.{and_from, and_parts, cases_order, eq-eqb, eqb-true, ne_eqb, or_cases}}
pub use Rattle.store_calls.specs.Calls.{by, calls, create_calls, definitions, kinds_behind, migrate_calls, migrations, newest_number, number_in, records, stored_kind, Told, told_line, told_phase, told_types}
pub use Rattle.store_form.specs.declared.stored.Recorded.{Recorded}
pub use Rattle.store_runs.specs.Stored.{case_counts, counts_from, IsSameRun, stored_run}
pub use Rattle.wsm_lists.specs.Rows.{AllRows}
pub use Rattle.file_model.specs.{CaseCounts.{cases_of_type, has_id, is_among}, declared.files.CaseDecl.CaseDecl, declared.files.File.File, declared.files.Line.Line, declared.files.TypeDecl.TypeDecl}
pub use Rattle.line_calls.specs.{Calls.call_of, Files.roles_of, Known.{IsKnownCall, IsPlain}, declared.calls.Call.Call}
pub use Rattle.script_run.specs.{Calls.{answered_version, call_kind, changed_at, newest, newest_in, on_kind, worked}, Serial.{defined, kinds_from, opening, phase_worked, program, serial, uncalled}, Verdicts.{defined_from, defined_kind}}
pub use Rattle.script_run.specs.{Verdicts.stepped, declared.runs.ClosedKind.ClosedKind, declared.runs.Run.Run, declared.runs.ClosedCase.ClosedCase}
pub use Rattle.std.specs.{List.{AllByRecursion, list_any, position_from}, Prelude.{if◌then◌else◌, nat_lt, option_map, position, slice_get}}
pub use Rattle.type_core.specs.{KindModel.{KindModel, not_defined}, Machine.{defined_by, event_on, installed_by, newest_of, next_kind, version_in, with_version}, declared.events.KindEvent.KindEvent}
pub use Rattle.wsm_sound.specs.{VersionModel.VersionModel, declared.versions.CaseId.CaseId}
