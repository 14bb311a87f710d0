-- The names that most proofs of the crate cite, passed on from one place. Declares nothing.
pub use Rattle.case_core.specs.{Ages.{age, weight}, CaseModel.not_created, declared.events.Event.Event}
pub use Rattle.case_store.specs.{Damage.{IsDamaged, IsDamagedFrom, IsRefused, IsTaken, Says, TakesIn, TellsDamage}, Faults.refused, Folding.{answer_of, answer_of_case, answers_of, called, case_answer, case_at, fresh, fresh_cases}}
pub use Rattle.case_store.specs.{Folding.{fresh_kinds, has, has_case, has_names, made, on_case, on_version, place_between, place_of, starts_from, starts_of, stored_weight, version_of, version_of_kind, weight_of_all}, Standing.AreCalls}
pub use Rattle.case_store.specs.Standing.{AreKnown, Held, IsFoldOf, IsStore, Opens, StoreState}
pub use Rattle.script_run.specs.{Calls.{call_case, call_kind, changed_at, changed_where, put_back}, Oldest.oldest, declared.runs.ClosedKind.ClosedKind, declared.runs.Run.Run}
pub use Rattle.std.proofs.Common.{[], ℕ, ◌&&◌, ◌*◌, ◌++◌, ◌+◌, ◌-◌, ◌<◌, ◌==◌, ◌^◌, ◌∙◌, ◌∷◌, ◌≡◌, ◌≢◌, ◌≤◌, ap, append_assoc, arith, Bool, drop, false, inl, inr, length, length-append, List, map, None, Option, refl, set, Some, subst, suc}
pub use Rattle.std.proofs.{Common.{sym, take, true, zero}, lemmas.Bool.{and_from, and_parts, ltb-true}, lemmas.List.{append-nil, drop_more, length-drop, length-map, length-replicate, length-set, length-take-le, map-append, map_push}}
pub use Rattle.std.proofs.{lemmas.List.{take-append-drop, take_rest}, lemmas.List.Sums.{fold-append, sum_by-cons}}
pub use Rattle.std.specs.{List.AllByRecursion, Prelude.{Err, flat_map, fold, IfOk, if◌then◌else◌, nat_lt, Ok, option_map, replicate, Result, slice_get, sum}}
pub use Rattle.store_disk.specs.{Disk.{IsSettled, LeavesOnly, Only}, Image.{all_framed, closed, damaged, frame, framed, frames, frames_from, frames_of, HasList}, Opening.{IsFrame, with_gate}, Rest.{appended, EndsAt, HasNoneOrAll, IsAtRest}}
pub use Rattle.store_disk.specs.Rest.{IsBeforeOrAfter}
pub use Rattle.store_form.specs.{Payload.{Bytes, case_bytes, IsPayloadOf, lanes_bytes, listed, op_bytes, part_bytes, parts_bytes, payload, Reads, schema_bytes, u32}, Stored.{Fits, HasNoVersion, is_shallow, part_count}}
pub use Rattle.store_form.specs.{declared.stored.Recorded.Recorded, declared.stored.Stored.Stored}
pub use Rattle.store_room.specs.Room.{HasPayload, IsPayable, Passes, payload_of}
pub use Rattle.type_core.specs.KindModel.{KindModel, not_defined}
pub use Rattle.wsm_ops.specs.declared.operations.Op.{Op}
pub use Rattle.wsm_sound.specs.declared.versions.CaseId.{CaseId}
