-- The names that most proofs of the crate cite, passed on from one place. Declares nothing.
pub use Rattle.file_words.specs.Lines.{Bytes, CutLines, front_line, lines_of, onto_lines, put_first}
pub use Rattle.line_readers.specs.{FirstWrong.{Begins, ended, first_wrong, IsFirstWrong, wrong_in}, Journals.{behind, if_shown, journal, next_of, of_event, of_first, one_more, shown, with_entry}, Owed.{all_owed, due, first_by, how_many}}
pub use Rattle.line_readers.specs.{Owed.{lines_by, with_others}, Readers.{and_then, done, ending, expected, IsLive, IsOneLine, mapped, read, Reader, taken, takes}}
pub use Rattle.std.proofs.Common.{[], ℕ, ◌++◌, ◌+◌, ◌==◌, ◌∙◌, ◌∷◌, ◌≡◌, ◌≢◌, ◌≤◌, ap, append-nil, arith, Bool, eq-eqb, false, if◌then◌else◌, length, List, ne_eqb, None, Option, refl, Some, subst, suc, sym, take, true, zero}
pub use Rattle.std.proofs.{lemmas.Bool.eqb-true, lemmas.Option.same_Some, lemmas.Slice.Eq.bytes_eq-Decides}
pub use Rattle.std.specs.Prelude.{bytes_eq, codes, option_map}
pub use Rattle.turn_cell.specs.{History.{calls_of, entry, IsLegal, state_after}, declared.journal.Entry.Entry}
pub use Rattle.wsm_lists.specs.Rows.{AllRows}
