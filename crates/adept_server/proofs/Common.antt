-- The names that most proofs of the crate cite, passed on from one place. Declares nothing.
pub use Rattle.adept_server.specs.{Calling.{answer_tells, CallEach, CallsCase, CallsCases, CallsKind, CallsOne, Creates, HasRoom, IsAnswered, Migrates, tells_newest, tells_version}, Calling.Creates.{asked, unasked}, Desks.AreRowsOf}
pub use Rattle.adept_server.specs.{Desks.{AreShort, at_case, case_count, case_pass, CasePass, desk_view, DeskView, has_case, has_kind, has_version, in_row, IsDefinedFor, IsDesk, IsDeskOf, IsPassAt, KindPass}, Firsts.AreFirstCases}
pub use Rattle.adept_server.specs.{Firsts.{AreFirstKinds, AreFirstsOf, IsFirst}, Noting.{AreLevelRows, NoneLowered}, Offering.{AllLooked, AllOpened, AllSeenWell, AreSeenWell, EachLooked, events_seen, HasLooked, IsSeenWell, Looks, OpenedAs}}
pub use Rattle.adept_server.specs.{Offering.row_offers, Opening.{first_desk_met, IsClosedServer, IsFirstDesk, IsUnused, joined_desk, new_desk, parent_desk, second_desk_met, SeesMore}, Rooms.HaveRoomFor, Vecs.{AllJoined, AllMet, AllSplit}}
pub use Rattle.adept_server.specs.{Vecs.{AreVecsOf, lists_of, row_views, RowJoined, RowMet, RowSplit}, declared.closing.ClosedServer.ClosedServer, declared.desks.Desk.Desk, declared.servers.Server.Server}
pub use Rattle.case_core.specs.{CaseModel.{CaseModel, not_created}, Instances.{CountedCase, uncounted}, Machine.{case_after, case_reply}, declared.events.Event.Event, declared.replies.Reply.Reply, declared.views.View.View}
pub use Rattle.std.proofs.Common.{[], ℕ, ◌++◌, ◌+◌, ◌-◌, ◌<◌, ◌^◌, ◌∙◌, ◌∷◌, ◌≡◌, ◌≢◌, ◌≤◌, ◌⊎◌, All, ap, append_assoc, arith, Bool, drop, Err, false, get_or, IfErr, IfOk, if◌then◌else◌, inl, inr, IsErrAnd, IsSome, length, List, ltb, map}
pub use Rattle.std.proofs.{Common.{MatchResult, min, None, Ok, OnErr, OnOk, Option, refl, replicate, Result, rules, set, slice_get, slice_index_or, Some, subst, suc, sum, sym, take, true, Vec, vec_capacity, vec_len, zero}, Crossing.crosses}
pub use Rattle.std.proofs.{Math.ListN.{length-map, length-set}, lemmas.List.{append-nil, drop-map, drop_all, drop_min, length-append, length-take-le, length_push, map-append, map-set, map_push, nil_from_length, take-append-drop, take-map}}
pub use Rattle.std.proofs.{lemmas.List.{take_all, take_min, with_items_is}, lemmas.List.Elements.{All-cons, All-head, All-nil, All-tail}, lemmas.List.Sums.{sum_by-cons, sum_by_more}, lemmas.Option.{get_or_from_slice_get, slice_get-get_or}}
pub use Rattle.std.proofs.{lemmas.Option.{slice_get-map, slice_get_read, slice_get_within}, lemmas.Result.{IfErr-weaker, IfOk-weaker}}
pub use Rattle.std.specs.{List.{AllZip, fold}, Prelude.{◌||◌, is_some, option_map}, Vec.{with_item, with_items}, Vec.Iter.into_iter_items}
pub use Rattle.turn_batch.proofs.Calls.{length-passes, pass_at}
pub use Rattle.turn_batch.specs.Batch.{AreCalled, AreOf}
pub use Rattle.turn_cell.specs.{History.{entry, IsLegal, IsLegalFrom, state_after}, Passes.{Calls, first_of, IsLegalView, IsPassOf, joined, PassView, Sees, split_off, Stays, view_of}, declared.cell.Cell.Cell}
pub use Rattle.turn_cell.specs.{declared.faults.CallFault.CallFault, declared.journal.Closed.Closed, declared.journal.Entry.Entry, declared.limits.TheConstants.{MAX_ENTRIES, MAX_OPENING_AGE}, declared.pass.Pass.Pass}
pub use Rattle.turn_rows.proofs.{Lists.take_item, Places.{All-slice_get, length-views, length-zip_with}}
pub use Rattle.turn_rows.specs.Rows.{AreLevel, AreOpened, CanClose, CanJoin, CanSplit, first_met, IsClosedAs, IsSeenBy, second_met, split_from, views, zip_with}
pub use Rattle.type_core.proofs.Versions.{by-event, newest-told, one-more, versions-kept}
pub use Rattle.type_core.specs.{KindModel.{KindModel, not_defined}, Machine.{defined_by, event_on, kind_after, kind_reply, newest_of}, declared.events.KindEvent.KindEvent, declared.replies.KindReply.KindReply}
pub use Rattle.wsm_sound.specs.{Faults.fault_of, VersionModel.VersionModel, declared.versions.CaseId.CaseId}
