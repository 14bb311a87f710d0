use Rattle.adept_server.proofs.Common.{◌<◌, ◌∙◌, AreOf, arith, CallsOne, case_after, case_reply, crosses, HasRoom, IfErr-weaker, length, map, refl, slice_get, slice_get_within, subst, sym, view_of, with_item, with_items, with_items_is}
use Rattle.adept_server.proofs.{Sent.{case-send, case-sync, event-send, event-sync}, Rows.items_at, Made.{case_row, case_made, row_room}}
use denote.Param.Send.{sendable}
use Rattle.adept_server.proofs.servers.Server.call_case.Goals as goal

pub call_at-requires-send-M : goal.call_at-requires-send-M
call_at-requires-send-M g c κs = search (case-send, sendable, crosses) depth 30

pub call_at-requires-send-M-Event : goal.call_at-requires-send-M-Event
call_at-requires-send-M-Event g c κs = search (event-send, sendable, crosses) depth 30

pub call_at-requires-sync-M : goal.call_at-requires-sync-M
call_at-requires-sync-M g c κs = search (case-sync, sendable, crosses) depth 30

pub call_at-requires-sync-M-Event : goal.call_at-requires-sync-M-Event
call_at-requires-sync-M-Event g c κs = search (event-sync, sendable, crosses) depth 30

pub index-cells-requires : goal.index-cells-requires
index-cells-requires g c =
    let r = case_row c.args.self.now c.args.desk.now c.args.id c.requires.desk c.requires.there in
    let lt = slice_get_within c.args.self.now.cases.items c.args.id.type_no r.row.cells r.row.cells_there in
    omega (arith, c.args.self.now.cases.ok.0)

pub index_mut-passes-requires : goal.index_mut-passes-requires
index_mut-passes-requires g c =
    let r = case_row c.args.self.now c.args.desk.now c.args.id c.requires.desk c.requires.there in
    let lt = slice_get_within c.args.desk.now.cases.items c.args.id.type_no r.row.passes r.row.passes_there in
    omega (arith, c.args.desk.now.cases.ok.0)

pub call_at-requires-clause-cells : goal.call_at-requires-clause-cells
call_at-requires-clause-cells g c = λ κs lives.
    let r = case_row c.args.self.now c.args.desk.now c.args.id c.requires.desk c.requires.there in
    let cells = items_at c.args.self.now.cases.items c.args.id.type_no r.row.cells c.index-cells.result.now c.deref.result.now r.row.cells_there c.deref.ensures.value c.index-cells.ensures in
    let passes = items_at c.args.desk.now.cases.items c.args.id.type_no r.row.passes c.index_mut-passes.result.now c.deref_mut.result.now r.row.passes_there c.deref_mut.ensures.value c.index_mut-passes.ensures.value in
    subst (λ cs. AreOf cs c.deref_mut.result.now) (sym cells) (subst (λ ps. AreOf r.row.cells.items ps) (sym passes) r.row.of)

pub call_at-requires-clause-there : goal.call_at-requires-clause-there
call_at-requires-clause-there g c = λ κs lives.
    let r = case_row c.args.self.now c.args.desk.now c.args.id c.requires.desk c.requires.there in
    let passes = items_at c.args.desk.now.cases.items c.args.id.type_no r.row.passes c.index_mut-passes.result.now c.deref_mut.result.now r.row.passes_there c.deref_mut.ensures.value c.index_mut-passes.ensures.value in
    subst (λ ps. c.args.id.place < length ps) (sym passes) r.place_there

pub returns-clause-desk : goal.returns-clause-desk
returns-clause-desk g c =
    let s = c.args.self.now in
    let d = c.args.desk.now in
    let r = case_row s d c.args.id c.requires.desk c.requires.there in
    let ps = c.call_at.new.passes in
    let row = with_items c.index_mut-passes.result.now ps in
    let whole = with_items_is c.index_mut-passes.result.now ps (c.call_at.auto.passes ∙ c.deref_mut.ensures.len) in
    let cells = items_at s.cases.items c.args.id.type_no r.row.cells c.index-cells.result.now c.deref.result.now r.row.cells_there c.deref.ensures.value c.index-cells.ensures in
    let passes = items_at d.cases.items c.args.id.type_no r.row.passes c.index_mut-passes.result.now c.deref_mut.result.now r.row.passes_there c.deref_mut.ensures.value c.index_mut-passes.ensures.value in
    let of = subst (λ qs. AreOf r.row.cells.items qs) (sym whole) (subst (λ cs. AreOf cs ps) cells c.call_at.ensures.cells) in
    let called = subst (λ qs. CallsOne case_after case_reply c.args.event.now c.args.id.place c.call_at.result (map view_of r.row.passes.items) (map view_of qs)) (sym whole)
    (subst (λ qs. CallsOne case_after case_reply c.args.event.now c.args.id.place c.call_at.result (map view_of qs) (map view_of ps)) passes c.call_at.ensures.called) in
    (case_made s d (record d { cases = with_item d.cases c.args.id.type_no row }) c.args.event.now c.args.id c.call_at.result c.requires.desk r.row row refl refl refl refl refl refl of called).0

pub returns-clause-called : goal.returns-clause-called
returns-clause-called g c =
    let s = c.args.self.now in
    let d = c.args.desk.now in
    let r = case_row s d c.args.id c.requires.desk c.requires.there in
    let ps = c.call_at.new.passes in
    let row = with_items c.index_mut-passes.result.now ps in
    let whole = with_items_is c.index_mut-passes.result.now ps (c.call_at.auto.passes ∙ c.deref_mut.ensures.len) in
    let cells = items_at s.cases.items c.args.id.type_no r.row.cells c.index-cells.result.now c.deref.result.now r.row.cells_there c.deref.ensures.value c.index-cells.ensures in
    let passes = items_at d.cases.items c.args.id.type_no r.row.passes c.index_mut-passes.result.now c.deref_mut.result.now r.row.passes_there c.deref_mut.ensures.value c.index_mut-passes.ensures.value in
    let of = subst (λ qs. AreOf r.row.cells.items qs) (sym whole) (subst (λ cs. AreOf cs ps) cells c.call_at.ensures.cells) in
    let called = subst (λ qs. CallsOne case_after case_reply c.args.event.now c.args.id.place c.call_at.result (map view_of r.row.passes.items) (map view_of qs)) (sym whole)
    (subst (λ qs. CallsOne case_after case_reply c.args.event.now c.args.id.place c.call_at.result (map view_of qs) (map view_of ps)) passes c.call_at.ensures.called) in
    (case_made s d (record d { cases = with_item d.cases c.args.id.type_no row }) c.args.event.now c.args.id c.call_at.result c.requires.desk r.row row refl refl refl refl refl refl of called).1

pub returns-clause-memory : goal.returns-clause-memory
returns-clause-memory g c =
    let s = c.args.self.now in
    let d = c.args.desk.now in
    let r = case_row s d c.args.id c.requires.desk c.requires.there in
    let ps = c.call_at.new.passes in
    let row = with_items c.index_mut-passes.result.now ps in
    let whole = with_items_is c.index_mut-passes.result.now ps (c.call_at.auto.passes ∙ c.deref_mut.ensures.len) in
    IfErr-weaker c.call_at.result _ _
    (λ f room is. row_room s d (record d { cases = with_item d.cases c.args.id.type_no row }) c.args.id r.row row refl (subst (λ qs. HasRoom (slice_get (map view_of qs) c.args.id.place)) (sym whole) (room is)))
    c.call_at.ensures.memory
