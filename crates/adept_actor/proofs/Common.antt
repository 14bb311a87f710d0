-- The names that most proofs of the crate cite, passed on from one place. Declares nothing.
pub use Rattle.adept_actor.specs.Work.{Acts, CanCall, CanWork, Does, first_fault, Leaves, Makes, SeesFull, WorksLines}
pub use Rattle.adept_server.proofs.Keeping.{has_more, kind_beside, kind_keeps}
pub use Rattle.adept_server.specs.Desks.{in_row, IsDefinedFor, IsDesk, IsDeskOf, KindPass}
pub use Rattle.file_model.specs.declared.files.Line.{Line}
pub use Rattle.legal_run.proofs.Places.{cut-at, set-here, set-other, some_one, there-as}
pub use Rattle.legal_run.specs.LineCalls.{AreBegun, AreCallsOf, AreCallsOfLines, AreOf, ArePart, ArePartOf, asked, Call, calls_of_case, calls_of_kind, lines_of, of_kind, told, told_each, told_some}
pub use Rattle.line_calls.specs.Calls.{call_of, is_case}
pub use Rattle.std.proofs.Common.{[], ℕ, ◌&&◌, ◌++◌, ◌+◌, ◌==◌, ◌∙◌, ◌∷◌, ◌≡◌, ◌≢◌, ◌≤◌, ap, append_assoc, arith, Bool, drop, drop_of_length-le, eq-eqb, Err, false, get_or, if◌then◌else◌, inl, inr, is_some, IsErrAnd, length, List, map}
pub use Rattle.std.proofs.lemmas.Option.{get_or_from_slice_get, slice_get-map, slice_get_past}
pub use Rattle.wsm_sound.specs.declared.versions.CaseId.{CaseId}
pub use Rattle.adept_actor.specs.{Growth.{DeskHasDone, HasDone}, Others.{IsUnnamedCase, IsUnnamedKind, LeavesCells, LeavesSuch, LeavesUnnamed, names_case, names_kind}}
pub use Rattle.adept_server.specs.{Calling.{CallEach, CallsCase, CallsCases, CallsKind, CallsOne, Creates, IsAnswered, Migrates}, Desks.{at_case, case_count, case_pass, CasePass, desk_view, DeskView, has_case, has_kind, has_version}}
pub use Rattle.case_core.specs.{Machine.{case_after, case_reply}, declared.events.Event.Event, declared.replies.Reply.Reply}
pub use Rattle.std.proofs.{Common.{MatchResult, ne_eqb, None, Ok, Option, refl, Result, set, slice_get, Some, subst, suc, sym, take, true, zero}, Math.ListN.{length-map, length-set}, lemmas.List.{append-nil, length-take-le, map-set}}
pub use Rattle.turn_cell.specs.{History.entry, Passes.{Calls, PassView, Sees}, declared.faults.CallFault.CallFault}
pub use Rattle.adept_server.specs.declared.{desks.Desk.Desk, servers.Server.Server}
pub use Rattle.type_core.specs.{declared.events.KindEvent.KindEvent, declared.replies.KindReply.KindReply}
