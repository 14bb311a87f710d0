-- The names that most proofs of the crate cite, passed on from one place. Declares nothing.
pub use Rattle.file_words.specs.Lines.{Bytes, CutLines, front_line, lines_of, onto_lines, put_first}
pub use Rattle.line_followers.specs.{Filled.filled, Follows.{Follows, IsWhole, left_of, passed, Reaches}}
pub use Rattle.line_readers.proofs.{Owed.{by-append, Due, first-is, is-due, IsFirst, nothing, other-first, own-first, some, some-first}, Walks.{goes-done, goes-ended, goes-line, goes-mapped, goes-stopped, goes-then, goes-wrong, map_first}}
pub use Rattle.line_readers.proofs.Walks.{walk-mapped}
pub use Rattle.line_readers.specs.{FirstWrong.ended, Journals.{behind, if_shown, journal, next_of, of_event, of_first, one_more, shown, with_entry}, Owed.{due, first_by, how_many, lines_by}, Readers.{and_then, done, ending, expected}}
pub use Rattle.line_readers.specs.{Readers.{IsOneLine, mapped, Reader, taken, takes}, Walks.{Goes, IsAtEnd, walk}}
pub use Rattle.std.proofs.Common.{[], ℕ, ◌++◌, ◌+◌, ◌<◌, ◌==◌, ◌∙◌, ◌∷◌, ◌≡◌, ◌≢◌, ◌≤◌, ap, append-nil, append_assoc, arith, Bool, drop, drop-drop, eq-eqb, eqb-true, false, if◌then◌else◌, length, List, map, ne_eqb, None, Option, refl, Some}
pub use Rattle.std.proofs.{Common.{subst, suc, sym, take, take-add, true, zero}, lemmas.Slice.Eq.bytes_eq-Decides}
pub use Rattle.std.specs.{Option.is_some, Prelude.{bytes_eq, option_map, slice_get, slice_set}}
pub use Rattle.text_follower.specs.Followed.{feeds, Followed, followed, same_front}
pub use Rattle.turn_cell.specs.{History.entry, declared.journal.Entry.Entry}
