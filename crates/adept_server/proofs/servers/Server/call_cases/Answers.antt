use Rattle.adept_server.proofs.{Common.{◌∙◌, ap, AreOf, arith, case_after, case_reply, crosses, drop, refl, slice_get_within, subst, sym, with_item, with_items, with_items_is}, Made.{kind_row, batch_made}, OneCall.{batch_ok, batch_err}}
use Rattle.adept_server.proofs.{Rows.items_at, Sent.{case-send, case-sync, event-send, event-sync}}
use denote.Param.Send.{sendable}
use Rattle.adept_server.proofs.servers.Server.call_cases.Goals as goal

pub call_first-requires-send-M : goal.call_first-requires-send-M
call_first-requires-send-M g c κs = search (case-send, sendable, crosses) depth 30

pub call_first-requires-send-M-Event : goal.call_first-requires-send-M-Event
call_first-requires-send-M-Event g c κs = search (event-send, sendable, crosses) depth 30

pub call_first-requires-sync-M : goal.call_first-requires-sync-M
call_first-requires-sync-M g c κs = search (case-sync, sendable, crosses) depth 30

pub call_first-requires-sync-M-Event : goal.call_first-requires-sync-M-Event
call_first-requires-sync-M-Event g c κs = search (event-sync, sendable, crosses) depth 30

pub index-cells-requires : goal.index-cells-requires
index-cells-requires g c =
    let r = kind_row c.args.self.now c.args.desk.now c.args.type_no c.requires.desk c.requires.there in
    let lt = slice_get_within c.args.self.now.cases.items c.args.type_no r.cells r.cells_there in
    omega (arith, c.args.self.now.cases.ok.0)

pub call_first-requires-clause-cells : goal.call_first-requires-clause-cells
call_first-requires-clause-cells g c = λ κs lives.
    let r = kind_row c.args.self.now c.args.desk.now c.args.type_no c.requires.desk c.requires.there in
    let cells = items_at c.args.self.now.cases.items c.args.type_no r.cells c.index-cells.result.now c.deref.result.now r.cells_there c.deref.ensures.value c.index-cells.ensures in
    let passes = items_at c.args.desk.now.cases.items c.args.type_no r.passes c.index_mut-passes.result.now c.deref_mut.result.now r.passes_there c.deref_mut.ensures.value c.index_mut-passes.ensures.value in
    subst (λ cs. AreOf cs c.deref_mut.result.now) (sym cells) (subst (λ ps. AreOf r.cells.items ps) (sym passes) r.of)

pub returns-clause-desk : goal.returns-clause-desk
returns-clause-desk g c =
    let s = c.args.self.now in
    let d = c.args.desk.now in
    let t = c.args.type_no in
    let r = kind_row s d t c.requires.desk c.requires.there in
    let ps = c.call_first.new.passes in
    let row = with_items c.index_mut-passes.result.now ps in
    let whole = with_items_is c.index_mut-passes.result.now ps (c.call_first.auto.passes ∙ c.deref_mut.ensures.len) in
    let cells = items_at s.cases.items t r.cells c.index-cells.result.now c.deref.result.now r.cells_there c.deref.ensures.value c.index-cells.ensures in
    let passes = items_at d.cases.items t r.passes c.index_mut-passes.result.now c.deref_mut.result.now r.passes_there c.deref_mut.ensures.value c.index_mut-passes.ensures.value in
    let of = subst (λ qs. AreOf r.cells.items qs) (sym whole) (subst (λ cs. AreOf cs ps) cells c.call_first.ensures.cells) in
    (batch_made (λ (a : _). a.items.items) c.call_first.result s d (record d { cases = with_item d.cases t row }) c.args.event.now t c.args.many c.requires.desk r row refl refl refl refl refl refl of
    (batch_ok case_after case_reply c.args.event.now (λ (a : _). a.items.items) c.call_first.result c.args.many r.passes.items c.deref_mut.result.now ps row.items passes whole c.call_first.ensures.ok)
    (ap (drop c.args.many) whole ∙ (c.call_first.ensures.others ∙ ap (drop c.args.many) passes))
    (batch_err c.call_first.result r.passes.items c.deref_mut.result.now ps row.items passes whole c.call_first.ensures.err)).0

pub returns-clause-ok : goal.returns-clause-ok
returns-clause-ok g c =
    let s = c.args.self.now in
    let d = c.args.desk.now in
    let t = c.args.type_no in
    let r = kind_row s d t c.requires.desk c.requires.there in
    let ps = c.call_first.new.passes in
    let row = with_items c.index_mut-passes.result.now ps in
    let whole = with_items_is c.index_mut-passes.result.now ps (c.call_first.auto.passes ∙ c.deref_mut.ensures.len) in
    let cells = items_at s.cases.items t r.cells c.index-cells.result.now c.deref.result.now r.cells_there c.deref.ensures.value c.index-cells.ensures in
    let passes = items_at d.cases.items t r.passes c.index_mut-passes.result.now c.deref_mut.result.now r.passes_there c.deref_mut.ensures.value c.index_mut-passes.ensures.value in
    let of = subst (λ qs. AreOf r.cells.items qs) (sym whole) (subst (λ cs. AreOf cs ps) cells c.call_first.ensures.cells) in
    (batch_made (λ (a : _). a.items.items) c.call_first.result s d (record d { cases = with_item d.cases t row }) c.args.event.now t c.args.many c.requires.desk r row refl refl refl refl refl refl of
    (batch_ok case_after case_reply c.args.event.now (λ (a : _). a.items.items) c.call_first.result c.args.many r.passes.items c.deref_mut.result.now ps row.items passes whole c.call_first.ensures.ok)
    (ap (drop c.args.many) whole ∙ (c.call_first.ensures.others ∙ ap (drop c.args.many) passes))
    (batch_err c.call_first.result r.passes.items c.deref_mut.result.now ps row.items passes whole c.call_first.ensures.err)).1

pub returns-clause-err : goal.returns-clause-err
returns-clause-err g c =
    let s = c.args.self.now in
    let d = c.args.desk.now in
    let t = c.args.type_no in
    let r = kind_row s d t c.requires.desk c.requires.there in
    let ps = c.call_first.new.passes in
    let row = with_items c.index_mut-passes.result.now ps in
    let whole = with_items_is c.index_mut-passes.result.now ps (c.call_first.auto.passes ∙ c.deref_mut.ensures.len) in
    let cells = items_at s.cases.items t r.cells c.index-cells.result.now c.deref.result.now r.cells_there c.deref.ensures.value c.index-cells.ensures in
    let passes = items_at d.cases.items t r.passes c.index_mut-passes.result.now c.deref_mut.result.now r.passes_there c.deref_mut.ensures.value c.index_mut-passes.ensures.value in
    let of = subst (λ qs. AreOf r.cells.items qs) (sym whole) (subst (λ cs. AreOf cs ps) cells c.call_first.ensures.cells) in
    (batch_made (λ (a : _). a.items.items) c.call_first.result s d (record d { cases = with_item d.cases t row }) c.args.event.now t c.args.many c.requires.desk r row refl refl refl refl refl refl of
    (batch_ok case_after case_reply c.args.event.now (λ (a : _). a.items.items) c.call_first.result c.args.many r.passes.items c.deref_mut.result.now ps row.items passes whole c.call_first.ensures.ok)
    (ap (drop c.args.many) whole ∙ (c.call_first.ensures.others ∙ ap (drop c.args.many) passes))
    (batch_err c.call_first.result r.passes.items c.deref_mut.result.now ps row.items passes whole c.call_first.ensures.err)).2
