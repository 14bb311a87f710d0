use Rattle.talk_answers.proofs.Common.{actor_line, gives_item}
use Rattle.talk_answers.proofs.actors.put_actor_lines.Goals as goal

pub loop-decl-preserved : goal.loop-decl-preserved
loop-decl-preserved g c =
    gives_item _ _ _ _ _ _ _ _ (actor_line c.args.file.now) c.args.actors.now c.loop-decl.decl-index c.decl-item.result c.decl-item.is
    c.loop-decl-test.true c.loop-decl.invariant c.put_actor_line-well.ensures
