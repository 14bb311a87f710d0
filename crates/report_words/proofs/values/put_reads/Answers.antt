use Rattle.report_words.specs.Words.{read_text}
use Rattle.report_words.proofs.Rows.{gives_item}
use Rattle.report_words.proofs.values.put_reads.Goals as goal

pub loop-read-preserved : goal.loop-read-preserved
loop-read-preserved g c =
    gives_item _ _ _ _ _ _ _ _ (read_text c.args.file.now) c.args.reads.now c.loop-read.read-index c.read-item.result c.read-item.is
    c.loop-read-test.true c.loop-read.invariant c.put_read-well.ensures
