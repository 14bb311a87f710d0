-- The names that most proofs of the crate cite, passed on from one place. Declares nothing.
pub use Rattle.case_core.specs.Ages.{weight}
pub use Rattle.case_places.specs.Places.{places_from, places_of}
pub use Rattle.file_facts.specs.Facts.{ArePlaced}
pub use Rattle.file_model.specs.{CaseCounts.{cases_of_type, has_id, is_among}, declared.files.CaseDecl.CaseDecl, declared.files.File.File}
pub use Rattle.line_calls.proofs.Places.{position-from_0}
pub use Rattle.script_run.proofs.Aging.{oldest-changed_at, oldest-each_of, young-at}
pub use Rattle.script_run.specs.{Calls.{call_case, call_kind, changed_at, changed_where, each_of, on_case, on_each, on_kind, put_back}, Oldest.oldest, declared.runs.ClosedCase.ClosedCase, declared.runs.ClosedKind.ClosedKind}
pub use Rattle.script_run.specs.declared.runs.Run.{Run}
pub use Rattle.std.proofs.Common.{[], ℕ, ◌++◌, ◌+◌, ◌-◌, ◌<◌, ◌∙◌, ◌∷◌, ◌≡◌, ◌≤◌, add-one, ap, append_assoc, arith, Bool, Err, false, get_or, if◌then◌else◌, length, List, None, Ok, OnOk, Option, refl, Result, Some, subst, suc, sym, take}
pub use Rattle.std.proofs.{Common.{take_all, true, zero}, lemmas.Bool.{and_parts, eqb-false, eqb-true, ltb-false, ltb-true}, lemmas.List.{length-append, length-take}, lemmas.List.Sums.{fold-append, sum_by-cons}}
pub use Rattle.std.specs.{List.position_from, Prelude.{◌&&◌, ◌==◌, cond, fold, nat_lt, option_map, position, slice_get}}
pub use Rattle.unit_run.specs.Runs.{IsOf, Placing, types_of}
pub use Rattle.wsm_sound.specs.declared.versions.CaseId.{CaseId}
