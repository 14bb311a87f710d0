-- The names that most proofs of the crate cite, passed on from one place. Declares nothing.
pub use Rattle.adept_io.specs.Written.{AppendsPrefix}
pub use Rattle.std.proofs.Common.{[], ℕ, ◌*◌, ◌++◌, ◌+◌, ◌-◌, ◌<◌, ◌==◌, ◌^◌, ◌∙◌, ◌∷◌, ◌≡◌, ◌≤◌, ◌⊎◌, ap, append_assoc, arith, Bool, cond, drop, false, if◌then◌else◌, inl, inr, length, length-append, length-drop, List, None, not, Option}
pub use Rattle.std.proofs.{Common.{refl, Some, subst, suc, sym, take, true, zero, zero-add}, KnownBytes.{Appends-kept, Appends-nil, Appends-trans, Consumes-nil, Consumes-trans, Consumes-whole, Keeps-refl}, lemmas.Bool.{cases_lt, eqb-true}}
pub use Rattle.std.proofs.{lemmas.Bool.{le-ltb, lt-ltb, ltb-true}, lemmas.List.{append-nil, drop-drop, drop_all, length-take, take-append-drop, take-append-le, take_all}}
pub use Rattle.std.specs.{Io.KnownBytes.{Appends, Consumes, IsAtEnd}, List.{AllByRecursion, position, prefix_len}, Prelude.{codes, Err, IfErr, IfSome, IsErrOf, min, nat_lt, Ok, OnErr, OnOk, Result}, Result.IsErrAnd}
pub use Rattle.store_disk.proofs.Moments.{and_then, started, weaker}
pub use Rattle.store_disk.specs.{Disk.LeavesOnly, Image.{all_framed, frames, HasList, payloads_in}, Rest.{HasNoneOrAll, IsAtRest}}
pub use Rattle.turn_loop.specs.{Counting.{line_ends, line_rules}, Groups.{held, HoldsItems, HoldsNoneOrAll, HoldsTurns}, Serving.{Acknowledged, Closes, Cut, CutTells, Ended, EndTells, Front, HoldsBeginningOf, Turned, Works}, Talk.answers}
pub use Rattle.turn_loop.specs.{Talk.{Begins, behind, Bytes, held_at_last, held_behind, IsItem, IsRest, payload_of, Rules, said, split, split_from, still_first, taken_of, Takes, worked}, Turns.{as_turn, but_last, IsRead, joined}}
pub use Rattle.turn_loop.specs.{Turns.{NoneWaited, turns, turns_from, turns_of}, declared.faults.TalkFault.TalkFault, declared.limits.TheConstants.{MAX_ANSWERS, MAX_INPUT}}
