-- The names that most proofs of the crate cite, passed on from one place. Declares nothing.
pub use Rattle.adept_io.specs.Counts.{Rose}
pub use Rattle.file_words.specs.Lines.{Bytes}
pub use Rattle.std.proofs.Common.{[], ℕ, ◌++◌, ◌+◌, ◌-◌, ◌<◌, ◌^◌, ◌↔◌, ◌∙◌, ◌∷◌, ◌≡◌, ◌≤◌, ◌⊎◌, ap, append_assoc, arith, Bool, drop, false, if◌then◌else◌, inl, inr, length, length-append, List, None, Option, refl, rules, Some, subst, sym}
pub use Rattle.std.proofs.{Common.{take, true}, lemmas.List.{append-nil, length-drop, length-take-le, take_rest}, lemmas.Result.on_ok_weaker}
pub use Rattle.std.specs.Prelude.{codes, Err, IfErr, IfOk, IfSome, IsSomeAnd, IsTrue, nat_lt, Ok, Result}
pub use Rattle.store_disk.proofs.{Framing.{all_short, closes, framed-more, frames_at, one_framed}, Moments.{and_then, weaker}}
pub use Rattle.store_disk.specs.{Disk.{IsSettled, LeavesOnly, Only}, Image.{all_framed, closed, damaged, frame, framed, Frames, frames, frames_from, HasList, u32}, Opening.{HoldsAsBefore, IsFrame, with_gate}, Rest.{EndsAt, HasNoneOrAll}}
pub use Rattle.store_disk.specs.Rest.{IsAtRest}
pub use Rattle.talk_items.specs.{Items.{is_blank, kind}, declared.limits.TheConstants.MAX_ITEM}
pub use Rattle.talk_rules.specs.Units.{header, UnitRules, units_behind}
pub use Rattle.talk_server.specs.{Fronts.IsFront, Opening.{damaged_at, is_next, Opened, opened, opened_by, opened_from, opening, payloads_of, unbegun}, Served.{Ends, HasAnswered, HasAnyAnswered, IsDiskFault, IsLeft, IsOfServer, IsOpened}}
pub use Rattle.talk_server.specs.{Served.{IsOpening, IsOpeningFault, SaysAll, SaysSome}, Serving.Serves, Taking.{IsHeld, TellsDamage}, Talks.{accepts, answer_by, item_answer, next_refused, rest_answer, server_rules, units_in}}
pub use Rattle.talk_server.specs.{Unopened.unopened, declared.faults.ServeFault.ServeFault}
pub use Rattle.turn_loop.proofs.Stored.{rest-held, stays}
pub use Rattle.turn_loop.specs.{Groups.held, Talk.{held_behind, payload_of, said}}
