-- The names that most proofs of the crate cite, passed on from one place. Declares nothing.
pub use Rattle.adept_io.proofs.Sent.{gives_then}
pub use Rattle.adept_io.specs.Written.{Gives}
pub use Rattle.file_model.specs.{Reading.file, declared.files.File.File, declared.refusals.Refused.Refused}
pub use Rattle.file_words.specs.Lines.{Bytes}
pub use Rattle.report_text.specs.{Check.{check_text, sound_line, verdict_line}, Ends.{end_text, item_text, mark_text, state_line, value_now_text}, Journals.{case_line, kind_line, numbered, reply_text}, Report.{case_text, cases_text}}
pub use Rattle.report_text.specs.Report.{kind_text, kinds_text, side_by_side, text}
pub use Rattle.report_words.proofs.Rows.{gives_as, gives_item, gives_row}
pub use Rattle.report_words.specs.{Totals.{case_totals, migration_totals}, Words.{assigned, listed_element, value_text}}
pub use Rattle.std.proofs.{Common.{[], ℕ, ◌++◌, ◌+◌, ◌<◌, ◌∙◌, ◌∷◌, ◌≡◌, ◌⊎◌, ap, append-nil, append_assoc, arith, Bool, decimal, get_or, inl, inr, length, List, Option, subst, suc, sym, take, zero}, lemmas.Slice.Zip.either_empty_from_Zip}
pub use Rattle.std.proofs.lemmas.Slice.Zip.{Zip-more}
pub use Rattle.std.specs.{Iterator.Adapters.{zip_first, zip_second}, List.flat_map, Prelude.{codes, Err, negsuc, None, Ok, pos, refl, Result, Some}, Slice.Iter.iter_rest}
pub use Rattle.wsm_items.specs.declared.work_items.Item.{Item}
