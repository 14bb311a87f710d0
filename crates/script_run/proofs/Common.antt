-- The names that most proofs of the crate cite, passed on from one place. Declares nothing.
pub use Rattle.case_core.specs.Ages.{age, weight}
pub use Rattle.file_model.specs.{CaseCounts.is_among, Sizes.phase_effort, declared.files.CaseDecl.CaseDecl}
pub use Rattle.script_run.specs.{Calls.{call_case, changed_at, changed_where, each_of, if_among, put_back}, Oldest.oldest, Parts.{checking_of, run_of}, Serial.{kinds_from, phase_worked, serial, uncalled}, Verdicts.{Checking, defined_from}}
pub use Rattle.script_run.specs.{Verdicts.{installs, judged_install, judged_phase, some_install, verdicts}, declared.runs.ClosedCase.ClosedCase}
pub use Rattle.std.proofs.Common.{[], ℕ, ◌++◌, ◌+◌, ◌<◌, ◌∙◌, ◌∷◌, ◌≡◌, ◌≤◌, add-one, ap, arith, Bool, drop, false, fold, get_or, length, List, map, None, Option, refl, set, Some, suc, sym, take, true, zero}
pub use Rattle.std.specs.{List.{list_any, sum_by}, Prelude.{IfSome, if◌then◌else◌, slice_get}}
