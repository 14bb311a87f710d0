-- The names that most proofs of the crate cite, passed on from one place. Declares nothing.
pub use Rattle.case_keep.specs.Playing.{HoldsBeginningOf, HoldsRun, IsPlayFault}
pub use Rattle.case_store.specs.{Damage.{disk_refused, Says}, Folding.{folded, fresh, starts_of}, Standing.{AddsFirst, AreKnown, Held, IsFoldOf, IsStore, StoreState}}
pub use Rattle.file_model.specs.{CaseCounts.cases_of_type, declared.files.File.File}
pub use Rattle.std.proofs.Common.{[], ℕ, ◌*◌, ◌++◌, ◌+◌, ◌-◌, ◌<◌, ◌==◌, ◌^◌, ◌∙◌, ◌∷◌, ◌≡◌, ◌≢◌, ◌≤◌, ◌⊎◌, ap, append_assoc, arith, drop, Err, false, inl, inr, length, length-drop, List, map, None, Option, refl, Some, subst, suc, sym}
pub use Rattle.std.proofs.{Common.{take, take-add, zero}, lemmas.List.{append-nil, drop_all, length-map, length-take, map-append, take-append-drop, take-take}, lemmas.Result.{IfErr-weaker, IfOk-at_ok, on_ok_weaker}}
pub use Rattle.std.specs.Prelude.{IfErr, IfOk, if◌then◌else◌, IsErrOf, Ok, OnOk, Result, sum}
pub use Rattle.store_calls.specs.Calls.{calls, payloads}
pub use Rattle.store_disk.proofs.Moments.{and_then, started, weaker}
pub use Rattle.store_disk.specs.{Disk.{IsSettled, LeavesOnly, Only}, Image.{all_framed, frames, frames_of, HasList}}
pub use Rattle.store_form.specs.{Payload.Bytes, declared.stored.Recorded.Recorded}
pub use Rattle.store_keep.proofs.Held.{beginning, held-list, rest-content, rest-image, same-frames, whole-list}
pub use Rattle.store_keep.specs.{Keeping.{Begins, held, HoldsBeginning, IsBegun, IsStored}, Refusals.{IsAddFault, Tells}, declared.faults.KeepFault.KeepFault}
pub use Rattle.store_room.specs.Room.{Overflows, payload_of}
pub use Rattle.store_runs.specs.Stored.{case_counts, counts_from, IsSameRun}
