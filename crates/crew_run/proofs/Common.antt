-- The names that most proofs of the crate cite, passed on from one place. Declares nothing.
pub use Rattle.adept_actor.specs.{Growth.{DeskHasDone, HasDone}, Others.{IsUnnamedCase, IsUnnamedKind, names_case, names_kind}, Work.{CanCall, CanWork, Leaves, SeesFull, WorksLines}}
pub use Rattle.adept_server.proofs.{Keeping.{has_more, kind_beside, kind_still_defined}, Places.{get-set_same, stays_or_set}, Rows.there_at, Sent.{case-send, case-sync, event-send, event-sync, version-send, version-sync}, Zips.beside}
pub use Rattle.adept_server.proofs.Zips.{map_of_case, map_there, row_of_case}
pub use Rattle.adept_server.specs.{Calling.CallsKind, Desks.{at_case, case_count, CasePass, desk_view, DeskView, has_version, in_row, IsDefinedFor, IsDesk, IsDeskOf, KindPass}, Noting.{AllCalled, AreLevelDesks, IsCalledOf, IsCalmCase}}
pub use Rattle.adept_server.specs.{Noting.{IsCalmKind, rows_of}, Opening.{first_desk_met, IsClosedServer, joined_desk, new_desk, parent_desk, second_desk_met, SeesMore}, declared.call_flags.CallFlags.CallFlags, declared.desks.Desk.Desk}
pub use Rattle.adept_server.specs.declared.servers.Server.{Server}
pub use Rattle.case_core.specs.{CaseModel.{CaseModel, not_created}, Instances.CountedCase, Machine.{case_after, case_reply}, declared.events.Event.Event, declared.replies.Reply.Reply, declared.views.View.View}
pub use Rattle.crew_run.specs.{CaseCounts.AreCounts, Closing.{closed_case, closed_kind, IsRunOf}, Crew.{AreHired, AreMet, Defines, HasMet, HasShape, IsCrew, IsDefinedUpTo, IsHiredAt, IsOneOf, KnowsTypes, SeesMany}, Crew.SeesMany.of_case}
pub use Rattle.crew_run.specs.{Crew.SeesMany.of_kind, Desks.{all_joined, Beside, case_at, DeskHeard, DeskSame, HasDoneAndHeard, HasPassesOf, HasShapeOf, Heard, IsIdle, IsIdlePass, kind_at, SeenSame}, Phases.{AreFew, HasForgotten}}
pub use Rattle.crew_run.specs.{Phases.{HasWorked, HasWorkedAll, is_full_fault, IsAlong, IsKept, IsOverfull, IsReadyAt, lines_upto, PhaseWorked, TakesLine, Tries}, declared.workers.Worker.Worker}
pub use Rattle.file_facts.proofs.Cases.{declared-placed, declared-typed, row-at}
pub use Rattle.file_facts.specs.Facts.{IsDeclared, IsKnown, IsKnownAct, IsSound, IsWorkable, lines_in}
pub use Rattle.file_model.specs.{CaseCounts.{cases_of_type, has_id}, declared.files.CaseDecl.CaseDecl, declared.files.File.File, declared.files.Line.Line, declared.files.TypeDecl.TypeDecl}
pub use Rattle.legal_run.proofs.Places.{cut-at, set-here, set-other, some_one, there-as}
pub use Rattle.legal_run.specs.{Legal.{AreOfActors, AreTraces, done_by, HasCalls, IsActor, IsByPhases, IsLegalCase, IsLegalKind, IsTrace, Legal, Trace}, LineCalls.{AreBegun, AreCallsOfLines, Call, calls_of_case, calls_of_kind, lines_of}}
pub use Rattle.line_calls.specs.Files.{roles_in, roles_of}
pub use Rattle.std.proofs.Common.{[], ℕ, ◌++◌, ◌+◌, ◌-◌, ◌<◌, ◌==◌, ◌∙◌, ◌∷◌, ◌≡◌, ◌≢◌, ◌≤◌, ◌⊎◌, All, Any, ap, append_assoc, arith, Bool, drop, drop_of_length-le, eq-eqb, Err, false, get_or, Global, IfErr, if◌then◌else◌, inl, inr, is_some}
pub use Rattle.std.proofs.Common.{IsErrAnd, IsSome, length, length-append, List, ltb, map, ne_eqb, None, Ok, OnOk, Option, refl, replicate, Result, reverse, set, slice_get, Some, subst, suc, sum, sym, take, true, Vec, vec_capacity, vec_len}
pub use Rattle.std.proofs.{Common.zero, Crossing.crosses, Math.ListN.length-set, lemmas.Bool.{cases_lt, ltb-true}, lemmas.List.{append-nil, drop_all, drop_more, get_or-map, get_or-set_other, get_or-take, get_or_default, length-map}}
pub use Rattle.std.proofs.{lemmas.List.{length-replicate, length-take-le, length_push, map-set, nil_from_length, reverse-append, take-append-le, take-take, take_all, with_items_is}, lemmas.List.Concat.flat_map-append}
pub use Rattle.std.proofs.{lemmas.List.Elements.{All-from_recursion, All-push, filter-append, recursion_from_All}, lemmas.List.Sums.{count_by_more_no, count_by_more_yes, get_or-le-sum_by, sum_by-cons, sum_by-set}}
pub use Rattle.std.proofs.{lemmas.Map.Keys.any_passes_from_place, lemmas.Option.{get_or_from_slice_get, same_Some, slice_get-get_or, slice_get-map, slice_get_within}, lemmas.Result.{IfErr-weaker, IfOk-weaker, on_ok_weaker}}
pub use Rattle.std.proofs.lemmas.Slice.Zip.{AllZip-long}
pub use Rattle.std.specs.{List.{AllByRecursion, AllZip, filter, flat_map, list_any}, Vec.Iter.{into_iter_items, into_iter_len}}
pub use Rattle.turn_cell.proofs.Prefixes.{prefix_self, prefix_trans}
pub use Rattle.turn_cell.specs.{History.{calls_of, entry, IsLegal, IsLegalFrom, IsStateAfter, state_after}, Passes.{IsClosed, IsLegalView, joined, PassView, split_off}, declared.faults.CallFault.CallFault, declared.journal.Closed.Closed}
pub use Rattle.turn_cell.specs.declared.journal.Entry.{Entry}
pub use Rattle.turn_rows.proofs.Meetings.{longer-same}
pub use Rattle.turn_rows.specs.Rows.{first_met, IsSeenBy, second_met, seen_of, split_from, zip_with}
pub use Rattle.type_core.specs.{Machine.{kind_after, kind_reply}, declared.events.KindEvent.KindEvent, declared.replies.KindReply.KindReply}
pub use Rattle.wsm_lists.proofs.Lists.{all-rows-map, rows-append}
pub use Rattle.wsm_lists.specs.Rows.{AllRows}
pub use Rattle.wsm_sound.specs.declared.versions.CaseId.{CaseId}
