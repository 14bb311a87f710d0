use Rattle.talk_answers.proofs.{Common.{◌≡◌, call_of, Placing, roles_of, rules}, GivenIf.if_given-as, Tried.line-same}
use Rattle.talk_answers.proofs.tries.put_tried.Goals as goal

pub returns-clause-entries : goal.returns-clause-entries
returns-clause-entries g c =
    let f = c.args.file.now in
    let p : Placing = c.args.run.now in
    let l = c.args.line.now in
    let call : c.in_ok-call.call ≡ call_of l.actor (roles_of f l.actor) l.act = search rules in
    if_given-as g.K.Sink.written g.K.Sink.faults c.args.ok c.args.sink.now _ _ _ c.put_call_tried.result (line-same f p l c.in_ok-call.call call) c.put_call_tried.ensures.entries
