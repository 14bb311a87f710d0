-- The names that most proofs of the crate cite, passed on from one place. Declares nothing.
pub use Rattle.adept_io.proofs.Sent.{gives_then}
pub use Rattle.adept_io.specs.Written.{Gives}
pub use Rattle.case_core.specs.declared.replies.Reply.{Reply}
pub use Rattle.file_names.specs.Names.{is_listed, noted, number_of}
pub use Rattle.log_records.specs.declared.records.LogRecord.{LogRecord}
pub use Rattle.report_words.proofs.Rows.{gives_as, gives_item}
pub use Rattle.std.proofs.Common.{[], ℕ, ◌++◌, ◌+◌, ◌-◌, ◌<◌, ◌∙◌, ◌∷◌, ◌≡◌, ◌≤◌, ap, append_assoc, arith, Bool, decimal, drop, Err, false, fold, get_or, if◌then◌else◌, inl, inr, length, List, map, None, Option, refl, rules}
pub use Rattle.wsm_sound.specs.VersionModel.{VersionModel}
pub use Rattle.log_records.specs.{declared.faults.WrongRecord.WrongRecord, declared.records.LogEvent.LogEvent, Forms.record_of, Records.{Fields, records_of}, Told.{are_too_many, Told, told, told_by, told_from, with_first}}
pub use Rattle.std.proofs.{Common.{Ok, Result, Some, string_bytes, subst, suc, sym, take, true, zero}, lemmas.List.{length-map, append-nil, length-append}, lemmas.Bool.{cases_Bool, eqb-true, le-ltb, leb-true, lt-ltb, ltb-false}}
pub use Rattle.file_words.specs.{Lines.{Bytes, CutLines, front_line, lines_of, one_left, put_first, without_return}, Words.is}
pub use Rattle.log_fit.specs.{Asked.{asked, Question}, Fit.{accepted, answered, case_fit, fits_told, goes_on, of_case, opened, refusal, replies}, Progress.{fit_of, opened_row, ProgressModel, reach, reach_from}, Rows.{AreApart, IsTable}}
pub use Rattle.log_fit.specs.{Rows.{later, rows_with, TakesRecord}, Table.{fit_line, next_text}, Versions.{installed_lines, kind_of}, declared.fits.CaseFit.CaseFit}
pub use Rattle.std.specs.{List.{flat_map, list_all}, Prelude.{◌==◌, codes, not, slice_get, slice_set}, Str.bytes_eq}
