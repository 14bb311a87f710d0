use Rattle.adept_server.proofs.{Common.{◌∙◌, ◌≡◌, AreOf, CallsOne, crosses, false, HasRoom, IfErr, kind_after, kind_reply, map, refl, slice_get, subst, sym, true, view_of, with_items_is}, Made.kind_made, Sent.{version-send, version-sync}}
use denote.Param.Send.{sendable}
use Rattle.turn_cell.specs.declared.faults.CallFault.TheVariants as fault
use Rattle.adept_server.proofs.servers.Server.call_kind.Goals as goal

pub call_at-answer-requires-send-M : goal.call_at-answer-requires-send-M
call_at-answer-requires-send-M g c κs = search (version-send, version-sync, sendable, crosses) depth 30

pub call_at-answer-requires-send-M-Reply : goal.call_at-answer-requires-send-M-Reply
call_at-answer-requires-send-M-Reply g c κs = search (version-send, version-sync, sendable, crosses) depth 30

pub call_at-answer-requires-sync-M : goal.call_at-answer-requires-sync-M
call_at-answer-requires-sync-M g c κs = search (version-send, version-sync, sendable, crosses) depth 30

pub call_at-answer-requires-sync-M-Reply : goal.call_at-answer-requires-sync-M-Reply
call_at-answer-requires-sync-M-Reply g c κs = search (version-send, version-sync, sendable, crosses) depth 30

pub returns-then-tells_version-clause-desk : goal.returns-then-tells_version-clause-desk
returns-then-tells_version-clause-desk g c =
    let d = c.args.desk.now in
    let kinds = c.call_at-answer.new.passes in
    let of = subst (λ cs. AreOf cs kinds) c.deref.ensures.value c.call_at-answer.ensures.cells in
    let called = subst (λ ps. CallsOne kind_after kind_reply c.args.event.now c.args.type_no c.call_at-answer.result (map view_of ps) (map view_of kinds)) c.deref_mut.ensures.value c.call_at-answer.ensures.called in
    let whole = with_items_is d.kinds kinds (c.call_at-answer.auto.passes ∙ c.deref_mut.ensures.len) in
    (kind_made c.args.self.now d _ c.args.event.now c.args.type_no c.call_at-answer.result true kinds (sym c.tells_version.ensures ∙ c.if-tells_version.true) c.requires.desk refl refl refl refl refl whole of called).0

pub returns-else-tells_version-clause-desk : goal.returns-else-tells_version-clause-desk
returns-else-tells_version-clause-desk g c =
    let d = c.args.desk.now in
    let kinds = c.call_at-answer.new.passes in
    let of = subst (λ cs. AreOf cs kinds) c.deref.ensures.value c.call_at-answer.ensures.cells in
    let called = subst (λ ps. CallsOne kind_after kind_reply c.args.event.now c.args.type_no c.call_at-answer.result (map view_of ps) (map view_of kinds)) c.deref_mut.ensures.value c.call_at-answer.ensures.called in
    let whole = with_items_is d.kinds kinds (c.call_at-answer.auto.passes ∙ c.deref_mut.ensures.len) in
    (kind_made c.args.self.now d _ c.args.event.now c.args.type_no c.call_at-answer.result false kinds (sym c.tells_version.ensures ∙ c.if-tells_version.false) c.requires.desk refl refl refl refl refl whole of called).0

pub returns-then-tells_version-clause-memory : goal.returns-then-tells_version-clause-memory
returns-then-tells_version-clause-memory g c =
    let kinds = c.call_at-answer.new.passes in
    let whole = with_items_is c.args.desk.now.kinds kinds (c.call_at-answer.auto.passes ∙ c.deref_mut.ensures.len) in
    subst (λ ps. IfErr c.call_at-answer.result (λ f. f ≡ fault.NoMemory → HasRoom (slice_get (map view_of ps) c.args.type_no))) (sym whole) c.call_at-answer.ensures.memory

pub returns-else-tells_version-clause-memory : goal.returns-else-tells_version-clause-memory
returns-else-tells_version-clause-memory g c =
    let kinds = c.call_at-answer.new.passes in
    let whole = with_items_is c.args.desk.now.kinds kinds (c.call_at-answer.auto.passes ∙ c.deref_mut.ensures.len) in
    subst (λ ps. IfErr c.call_at-answer.result (λ f. f ≡ fault.NoMemory → HasRoom (slice_get (map view_of ps) c.args.type_no))) (sym whole) c.call_at-answer.ensures.memory
