-- The names that most proofs of the crate cite, passed on from one place. Declares nothing.
pub use Rattle.std.proofs.Common.{[], ℕ, ⊎_elim, ◌++◌, ◌+◌, ◌-◌, ◌<◌, ◌^◌, ◌∙◌, ◌∷◌, ◌≡◌, ◌≢◌, ◌≤◌, ap, append_assoc, arith, Bool, drop, false, get_or, if◌then◌else◌, inl, inr, length, length-append, List, map, None, refl, rules, Some}
pub use Rattle.std.proofs.{Common.{subst, suc, sym, take, take-append-drop, true}, lemmas.Bool.{cases_eq, cases_lt, leb-true}, lemmas.Grind.flat_map-append, lemmas.List.{append-nil, drop-append-le, drop-drop, drop_at, drop_more}}
pub use Rattle.std.proofs.{lemmas.List.{get_or-take, get_or_at, get_or_past, length-drop, length-take, take-append-le, take_all, take_at}, lemmas.Nat.{be_bytes_4, from_be_bytes-to_be_bytes_4}}
pub use Rattle.std.specs.{List.AllByRecursion, Prelude.{max, nat_le, nat_lt}}
pub use Rattle.store_disk.specs.{Disk.{Elapses, Follows, LeavesOnly, Only, spliced, Torn}, Entries.{change_of, first_of, IsHeld, logged_onto, past_of}, History.{Change, content, has_written, MayLeave, synced, wrote}, Image.all_framed}
pub use Rattle.store_disk.specs.{Image.{closed, damaged, frame, framed, frames, frames_from, frames_of, HasList, is_whole, payloads_in, staged, told_length, u32}, Notes.{changes_of, count_of, told_onto}, Opening.{HoldsAsBefore, IsFrame}}
pub use Rattle.store_disk.specs.{Rest.{HasNoneOrAll, IsAtRest, IsGroupOf, IsStaged}, declared.history.Note.Note}
