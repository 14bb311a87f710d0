use Rattle.adept_server.proofs.{Common.{◌+◌, ◌∙◌, All, CanSplit, crosses, Desk, refl, row_views, subst, sym, with_items, with_items_is}, Parting.{can_split, desk_made}, RowsClosed.room_of, RowsSplit.{split_of_cells, all_split_of}}
use Rattle.adept_server.proofs.Sent.{case-send, case-sync, event-send, event-sync, version-send, version-sync}
use denote.Param.Send.{sendable}
use Rattle.adept_server.proofs.servers.Server.desk.Goals as goal

pub split_row-requires-clause-can : goal.split_row-requires-clause-can
split_row-requires-clause-can c κs = (can_split c.args.self.now c.args.first.now c.requires.desk c.requires.first c.requires.few).0

pub split_all-requires-clause-can : goal.split_all-requires-clause-can
split_all-requires-clause-can c κs =
    subst (λ rows. All (All CanSplit) (row_views rows)) (sym c.deref_mut.ensures.value) (can_split c.args.self.now c.args.first.now c.requires.desk c.requires.first c.requires.few).1

pub split_all-requires-clause-room : goal.split_all-requires-clause-room
split_all-requires-clause-room c κs = room_of c.in_ok-cases.ensures (c.deref_mut.ensures.value ∙ sym c.deref-2.ensures.value) c.deref_mut-2.ensures.value

pub returns : goal.returns
returns c =
    let s = c.args.self.now in
    let d = c.args.first.now in
    let parent : Desk = record d { made = d.made + 1; kinds = c.split_row.new.firsts; cases = with_items d.cases c.split_all.new.firsts } in
    let new : Desk = record { number = d.made; made = 0; taken = 0; defined = c.in_ok-defined.defined; kinds = c.split_row.new.into; cases = with_items c.in_ok-cases.cases c.split_all.new.into } in
    let cases =
    all_split_of c.split_all.ensures c.deref-4.ensures.value c.deref_mut.ensures.value (with_items_is d.cases c.split_all.new.firsts (c.split_all.auto.firsts ∙ c.deref_mut.ensures.len))
    (with_items_is c.in_ok-cases.cases c.split_all.new.into (c.split_all.auto.into ∙ c.deref_mut-2.ensures.len)) in
    let k = desk_made s d parent new c.requires.desk refl refl refl refl refl refl refl (c.in_ok-defined.ensures.items ∙ c.deref.ensures.value) (split_of_cells c.split_row.ensures c.deref-3.ensures.value) cases in
    record { desks = k.desks; first = k.first; new = k.new; err = tt }

pub split_row-requires-send-M : goal.split_row-requires-send-M
split_row-requires-send-M c κs = search (version-send, version-sync, sendable, crosses) depth 30

pub split_row-requires-send-M-Reply : goal.split_row-requires-send-M-Reply
split_row-requires-send-M-Reply c κs = search (version-send, version-sync, sendable, crosses) depth 30

pub split_row-requires-sync-M : goal.split_row-requires-sync-M
split_row-requires-sync-M c κs = search (version-send, version-sync, sendable, crosses) depth 30

pub split_row-requires-sync-M-Reply : goal.split_row-requires-sync-M-Reply
split_row-requires-sync-M-Reply c κs = search (version-send, version-sync, sendable, crosses) depth 30

pub split_all-requires-send-M : goal.split_all-requires-send-M
split_all-requires-send-M c κs = search (case-send, sendable, crosses) depth 30

pub split_all-requires-send-M-Event : goal.split_all-requires-send-M-Event
split_all-requires-send-M-Event c κs = search (event-send, sendable, crosses) depth 30

pub split_all-requires-sync-M : goal.split_all-requires-sync-M
split_all-requires-sync-M c κs = search (case-sync, sendable, crosses) depth 30

pub split_all-requires-sync-M-Event : goal.split_all-requires-sync-M-Event
split_all-requires-sync-M-Event c κs = search (event-sync, sendable, crosses) depth 30
