use Rattle.adept_server.proofs.{Common.{◌+◌, ◌||◌, ◌∙◌, ◌≡◌, All, ap, Bool, CanJoin, crosses, Desk, length, refl, row_views, subst, sym, with_items, with_items_is, zip_with}, Meeting.even_flags_of, RowsJoined.joined_of_cells}
use Rattle.adept_server.proofs.{RowsJoined.all_joined_of, Sent.{case-send, case-sync, event-send, event-sync, version-send, version-sync}, Taking.{can_join, desk_taken}, Zips.zip_of}
use denote.Param.Send.{sendable}
use Rattle.adept_server.proofs.servers.Server.join.Goals as goal

pub raise_all-requires : goal.raise_all-requires
raise_all-requires c = ap length c.deref_mut.ensures.value ∙ (sym (even_flags_of c.args.self.now c.args.into.now c.args.done c.requires.desks.0 c.requires.desks.1) ∙ sym (ap length c.deref.ensures.value))

pub join_row_in-requires-clause-can : goal.join_row_in-requires-clause-can
join_row_in-requires-clause-can c κs = (can_join c.args.self.now c.args.into.now c.requires.desks.0 c.requires.first c.requires.few).0

pub join_all-requires-clause-can : goal.join_all-requires-clause-can
join_all-requires-clause-can c κs =
    subst (λ rows. All (All CanJoin) (row_views rows)) (sym c.deref_mut-2.ensures.value) (can_join c.args.self.now c.args.into.now c.requires.desks.0 c.requires.first c.requires.few).1

pub returns : goal.returns
returns c =
    let s = c.args.self.now in
    let d = c.args.into.now in
    let e = c.args.done in
    let joined_d : Desk = record d { taken = d.taken + 1; defined = with_items d.defined c.raise_all.new.flags; kinds = c.join_row_in.new.into; cases = with_items d.cases c.join_all.new.into } in
    let flags : joined_d.defined.items ≡ zip_with (λ (a b : Bool). a || b) d.defined.items e.defined.items =
    zip_of (λ (a b : Bool). a || b) c.raise_all.ensures c.deref_mut.ensures.value c.deref.ensures.value (with_items_is d.defined c.raise_all.new.flags (c.raise_all.auto.flags ∙ c.deref_mut.ensures.len)) in
    let cases =
    all_joined_of c.join_all.ensures c.deref-3.ensures.value c.deref_mut-2.ensures.value c.into_iter.ensures.rest (with_items_is d.cases c.join_all.new.into (c.join_all.auto.into ∙ c.deref_mut-2.ensures.len)) in
    let k = desk_taken s d e joined_d c.requires.desks.0 c.requires.desks.1 refl refl refl flags (joined_of_cells c.join_row_in.ensures c.deref-2.ensures.value) cases in
    record { desk = k.desk; joined = k.joined; more = k.more }

pub join_row_in-requires-send-M : goal.join_row_in-requires-send-M
join_row_in-requires-send-M c κs = search (version-send, version-sync, sendable, crosses) depth 30

pub join_row_in-requires-send-M-Reply : goal.join_row_in-requires-send-M-Reply
join_row_in-requires-send-M-Reply c κs = search (version-send, version-sync, sendable, crosses) depth 30

pub join_row_in-requires-sync-M : goal.join_row_in-requires-sync-M
join_row_in-requires-sync-M c κs = search (version-send, version-sync, sendable, crosses) depth 30

pub join_row_in-requires-sync-M-Reply : goal.join_row_in-requires-sync-M-Reply
join_row_in-requires-sync-M-Reply c κs = search (version-send, version-sync, sendable, crosses) depth 30

pub join_all-requires-send-M : goal.join_all-requires-send-M
join_all-requires-send-M c κs = search (case-send, sendable, crosses) depth 30

pub join_all-requires-send-M-Event : goal.join_all-requires-send-M-Event
join_all-requires-send-M-Event c κs = search (event-send, sendable, crosses) depth 30

pub join_all-requires-sync-M : goal.join_all-requires-sync-M
join_all-requires-sync-M c κs = search (case-sync, sendable, crosses) depth 30

pub join_all-requires-sync-M-Event : goal.join_all-requires-sync-M-Event
join_all-requires-sync-M-Event c κs = search (event-sync, sendable, crosses) depth 30
