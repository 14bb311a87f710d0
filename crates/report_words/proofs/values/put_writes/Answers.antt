use Rattle.report_words.specs.Words.{assigned}
use Rattle.report_words.proofs.Rows.{gives_item}
use Rattle.report_words.proofs.values.put_writes.Goals as goal

pub loop-write-preserved : goal.loop-write-preserved
loop-write-preserved g c =
    gives_item _ _ _ _ _ _ _ _ (assigned c.args.file.now) c.args.writes.now c.loop-write.write-index c.write-item.result c.write-item.is
    c.loop-write-test.true c.loop-write.invariant c.put_assigned-well.ensures
