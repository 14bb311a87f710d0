-- The names that most proofs of the crate cite, passed on from one place. Declares nothing.
pub use Rattle.std.proofs.Common.{[], ℕ, ◌++◌, ◌+◌, ◌-◌, ◌<◌, ◌^◌, ◌∙◌, ◌∷◌, ◌≡◌, ◌≤◌, ap, append_assoc, arith, Bool, drop, Err, false, inl, inr, length, length-append, List, map, None, Option, refl, Some, subst, suc, sym, take, true, zero}
pub use Rattle.std.proofs.{lemmas.List.{append-nil, drop-drop, length-drop, length-map, length-take, length-take-le, map-append, map_push, take-append-drop, take-take, take_rest}, lemmas.Result.{err_from_is_err_and, on_ok_weaker}}
pub use Rattle.std.specs.Prelude.{IfErr, if◌then◌else◌, IsErrOf, Ok, Result, slice_get}
pub use Rattle.store_room.specs.Room.{Overflows, payload_of}
pub use Rattle.store_disk.proofs.{Framing.{all_short, framed-more, frames_at, one_framed}, Moments.{and_then, started}}
pub use Rattle.store_disk.specs.{Disk.{IsSettled, LeavesOnly, Only}, Image.{all_framed, closed, frame, framed, frames, frames_from, HasList, payloads_in}, Opening.{HoldsAsBefore, IsFrame, with_gate}, Rest.{EndsAt, HasNoneOrAll, IsAtRest}}
pub use Rattle.store_keep.specs.{Finding.{finds, HoldsFound, is_call}, Keeping.{Begins, held, HoldsBeginning, IsBegun, IsStored}, Refusals.{IsAddFault, no_room, Tells}}
pub use Rattle.store_form.specs.{Payload.Bytes, declared.stored.Recorded.Recorded}
