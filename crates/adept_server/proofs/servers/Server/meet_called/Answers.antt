use Rattle.adept_server.proofs.{Common.{◌||◌, ◌∙◌, ◌≡◌, ap, AreLevel, arith, Bool, crosses, Desk, desk_view, length, refl, subst, sym, with_items, with_items_is, zip_with}, Meeting.{desks_met, even_flags_of, legal_desk}}
use Rattle.adept_server.proofs.{RowsMet.{met_of_cells, all_met_of, level_rows_before, legal_rows_before}, Sent.{case-send, case-sync, event-send, event-sync, version-send, version-sync}, Zips.zip_of}
use denote.Param.Send.{sendable}
use Rattle.adept_server.proofs.servers.Server.meet_called.Goals as goal

pub raise_all-requires : goal.raise_all-requires
raise_all-requires c = ap length c.deref_mut.ensures.value ∙ (sym (even_flags_of c.args.self.now c.args.one.now c.args.two.now c.requires.desks.0 c.requires.desks.1) ∙ sym (ap length c.deref.ensures.value))

pub copy_from_slice-requires : goal.copy_from_slice-requires
copy_from_slice-requires c = omega (arith, even_flags_of c.args.self.now c.args.one.now c.args.two.now c.requires.desks.0 c.requires.desks.1, c.deref-2.ensures.len, c.args.one.now.defined.ok.0, c.args.two.now.defined.ok.0)

pub meet_row_called-requires-clause-level : goal.meet_row_called-requires-clause-level
meet_row_called-requires-clause-level c κs =
    subst (λ fs. AreLevel fs (desk_view c.args.one.now).kinds (desk_view c.args.two.now).kinds) (sym c.deref-4.ensures.value) c.requires.level.kinds

pub meet_row_called-requires-clause-legal : goal.meet_row_called-requires-clause-legal
meet_row_called-requires-clause-legal c κs = ((legal_desk (desk_view c.args.one.now) c.requires.desks.0.desk).0, (legal_desk (desk_view c.args.two.now) c.requires.desks.1.desk).0)

pub meet_all_called-requires-clause-rows : goal.meet_all_called-requires-clause-rows
meet_all_called-requires-clause-rows c κs = omega (arith, ap length c.deref-6.ensures.value, ap length c.deref-5.ensures.value, c.requires.called)

pub meet_all_called-requires-clause-level : goal.meet_all_called-requires-clause-level
meet_all_called-requires-clause-level c κs = level_rows_before c.requires.level.cases c.deref-6.ensures.value c.deref_mut-2.ensures.value c.deref_mut-3.ensures.value

pub meet_all_called-requires-clause-legal : goal.meet_all_called-requires-clause-legal
meet_all_called-requires-clause-legal c κs = (
  legal_rows_before (legal_desk (desk_view c.args.one.now) c.requires.desks.0.desk).1 c.deref_mut-2.ensures.value,
  legal_rows_before (legal_desk (desk_view c.args.two.now) c.requires.desks.1.desk).1 c.deref_mut-3.ensures.value,
)

pub returns : goal.returns
returns c =
    let s = c.args.self.now in
    let d = c.args.one.now in
    let e = c.args.two.now in
    let met_d : Desk = record d { defined = with_items d.defined c.raise_all.new.flags; kinds = c.meet_row_called.new.one; cases = with_items d.cases c.meet_all_called.new.one } in
    let met_e : Desk = record e { defined = c.copy_from_slice.new.self; kinds = c.meet_row_called.new.two; cases = with_items e.cases c.meet_all_called.new.two } in
    let flags : met_d.defined.items ≡ zip_with (λ (a b : Bool). a || b) d.defined.items e.defined.items =
    zip_of (λ (a b : Bool). a || b) c.raise_all.ensures c.deref_mut.ensures.value c.deref.ensures.value (with_items_is d.defined c.raise_all.new.flags (c.raise_all.auto.flags ∙ c.deref_mut.ensures.len)) in
    let cases =
    all_met_of c.meet_all_called.ensures c.deref-5.ensures.value c.deref_mut-2.ensures.value c.deref_mut-3.ensures.value (with_items_is d.cases c.meet_all_called.new.one (c.meet_all_called.auto.one ∙ c.deref_mut-2.ensures.len))
    (with_items_is e.cases c.meet_all_called.new.two (c.meet_all_called.auto.two ∙ c.deref_mut-3.ensures.len)) in
    let k =
    desks_met s d e c.requires.desks.0 c.requires.desks.1 met_d met_e (record { number = refl; made = refl; taken = refl }) (record { number = refl; made = refl; taken = refl }) flags (c.copy_from_slice.ensures.items ∙ (c.deref-2.ensures.value ∙ flags))
    (met_of_cells c.meet_row_called.ensures c.deref-3.ensures.value) cases in
    record { desks = k.desks; one = k.one; two = k.two; more = k.more }

pub meet_row_called-requires-send-M : goal.meet_row_called-requires-send-M
meet_row_called-requires-send-M c κs = search (version-send, version-sync, sendable, crosses) depth 30

pub meet_row_called-requires-send-M-Reply : goal.meet_row_called-requires-send-M-Reply
meet_row_called-requires-send-M-Reply c κs = search (version-send, version-sync, sendable, crosses) depth 30

pub meet_row_called-requires-sync-M : goal.meet_row_called-requires-sync-M
meet_row_called-requires-sync-M c κs = search (version-send, version-sync, sendable, crosses) depth 30

pub meet_row_called-requires-sync-M-Reply : goal.meet_row_called-requires-sync-M-Reply
meet_row_called-requires-sync-M-Reply c κs = search (version-send, version-sync, sendable, crosses) depth 30

pub meet_all_called-requires-send-M : goal.meet_all_called-requires-send-M
meet_all_called-requires-send-M c κs = search (case-send, sendable, crosses) depth 30

pub meet_all_called-requires-send-M-Event : goal.meet_all_called-requires-send-M-Event
meet_all_called-requires-send-M-Event c κs = search (event-send, sendable, crosses) depth 30

pub meet_all_called-requires-sync-M : goal.meet_all_called-requires-sync-M
meet_all_called-requires-sync-M c κs = search (case-sync, sendable, crosses) depth 30

pub meet_all_called-requires-sync-M-Event : goal.meet_all_called-requires-sync-M-Event
meet_all_called-requires-sync-M-Event c κs = search (event-sync, sendable, crosses) depth 30
