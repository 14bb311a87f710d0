use Rattle.adept_server.proofs.Common.{[], ◌++◌, ◌∙◌, ◌≡◌, All, AllZip, ap, arith, CanClose, ClosedServer, crosses, IsClosedAs, kind_after, kind_reply, nil_from_length, row_views, subst, sym, views, with_items, with_items_is}
use Rattle.adept_server.proofs.{RowsClosed.room_of, Sent.{case-send, case-sync, event-send, event-sync, version-send, version-sync}, Ended.{can_close, cases_closed, server_closed}}
use denote.Param.Send.{sendable}
use Rattle.adept_server.proofs.servers.Server.close.Goals as goal

pub close_into-requires-clause-can : goal.close_into-requires-clause-can
close_into-requires-clause-can c κs = (can_close c.args.self c.args.first c.requires.desk c.requires.first c.requires.all).0

pub close_all-requires-clause-can : goal.close_all-requires-clause-can
close_all-requires-clause-can c κs =
    subst (λ rows. All (All CanClose) (row_views rows)) (sym c.into_iter-2.ensures.rest) (can_close c.args.self c.args.first c.requires.desk c.requires.first c.requires.all).1

pub close_all-requires-clause-room : goal.close_all-requires-clause-room
close_all-requires-clause-room c κs = room_of c.args.self.room_for_cases c.into_iter.ensures.rest c.deref_mut.ensures.value

pub returns : goal.returns
returns c =
    let s = c.args.self in
    let d = c.args.first in
    let empty : s.closed_kinds.items ≡ [] = nil_from_length s.closed_kinds.items (omega (arith, s.closed_kinds.ok.0, s.room_for_kinds.0)) in
    let kinds = c.close_into.ensures.closed in
    let are : c.close_into.new.into.items ≡ kinds.0 = kinds.1 ∙ ap (λ cs. cs ++ kinds.0) empty in
    let closed : ClosedServer = record { kinds = c.close_into.new.into; cases = with_items s.closed_cases c.close_all.new.into } in
    server_closed d closed (subst (AllZip (IsClosedAs kind_after kind_reply (λ k. k)) (views d.kinds.items)) (sym are) kinds.2)
    (cases_closed c.close_all.ensures c.into_iter-2.ensures.rest (with_items_is s.closed_cases c.close_all.new.into (c.close_all.auto.into ∙ c.deref_mut.ensures.len)))

pub close_into-requires-send-M : goal.close_into-requires-send-M
close_into-requires-send-M c κs = search (version-send, version-sync, sendable, crosses) depth 30

pub close_into-requires-send-M-Reply : goal.close_into-requires-send-M-Reply
close_into-requires-send-M-Reply c κs = search (version-send, version-sync, sendable, crosses) depth 30

pub close_into-requires-sync-M : goal.close_into-requires-sync-M
close_into-requires-sync-M c κs = search (version-send, version-sync, sendable, crosses) depth 30

pub close_into-requires-sync-M-Reply : goal.close_into-requires-sync-M-Reply
close_into-requires-sync-M-Reply c κs = search (version-send, version-sync, sendable, crosses) depth 30

pub close_all-requires-send-M : goal.close_all-requires-send-M
close_all-requires-send-M c κs = search (case-send, sendable, crosses) depth 30

pub close_all-requires-send-M-Event : goal.close_all-requires-send-M-Event
close_all-requires-send-M-Event c κs = search (event-send, sendable, crosses) depth 30

pub close_all-requires-sync-M : goal.close_all-requires-sync-M
close_all-requires-sync-M c κs = search (case-sync, sendable, crosses) depth 30

pub close_all-requires-sync-M-Event : goal.close_all-requires-sync-M-Event
close_all-requires-sync-M-Event c κs = search (event-sync, sendable, crosses) depth 30
