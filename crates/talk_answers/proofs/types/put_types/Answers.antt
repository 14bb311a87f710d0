use Rattle.talk_answers.proofs.{Common.type_line, Counted.gives_counted}
use Rattle.talk_answers.proofs.types.put_types.Goals as goal

pub loop-index-preserved : goal.loop-index-preserved
loop-index-preserved g c =
    gives_counted _ _ _ _ _ _ _ _ (type_line c.args.file.now c.args.run.now.placed) c.kinds-kind-items.result.now c.loop-index.index c.kind-item.result c.kind-item.is
    c.loop-index-test.true c.loop-index.invariant c.put_type_line-well.ensures
