use Rattle.crew_run.proofs.Common.{case-send, case-sync, crosses, event-send, event-sync, get_or, HasWorked, subst}
use denote.Param.Send.{IsSync, sendable}
use denote.Param.{param}
use Rattle.case_core.proofs.replies.Reply.TheSendSync as reply
use Rattle.crew_run.proofs.Sent.{closed-sync, kind-send, kind-sync, kind_event-send, kind_event-sync, kind_reply-send, kind_reply-sync, line-sync, schema-sync, worker-send}
use Rattle.turn_cell.proofs.cell.Cell.TheSendSync as cell
use Rattle.crew_run.proofs.phases.work_side_by_side.Goals as goal

pub for_each_mut-requires-send-T : goal.for_each_mut-requires-send-T
for_each_mut-requires-send-T g c κs within = search (worker-send, sendable, crosses) depth 30

pub for_each_mut-requires-sync-F : goal.for_each_mut-requires-sync-F
for_each_mut-requires-sync-F g c κs within =
    let r : IsSync (param 0 g.row.R) = c.type_bounds.sync-R in
    let s : IsSync (param 1 g.row.G) = c.type_bounds.sync-G in
    search (cell.the_sync, closed-sync, case-send, case-sync, event-send, event-sync, reply.the_send, reply.the_sync, kind-send, kind-sync, kind_event-send, kind_event-sync, kind_reply-send, kind_reply-sync, schema-sync, line-sync, sendable, crosses) depth 60 fits 5000

pub returns : goal.returns
returns g c = λ i d low.
    let s = c.args.server.now in
    let f = c.args.file.now in
    let lines = c.args.lines.now in
    let k = (c.for_each_mut.ensures i d low).1 in
    let call : HasWorked s f lines k.argument.now k.after_call.now = k.call in
    subst (λ w. HasWorked s f lines w (get_or c.for_each_mut.new.s i d)) k.argument_is (subst (HasWorked s f lines k.argument.now) k.left call)
