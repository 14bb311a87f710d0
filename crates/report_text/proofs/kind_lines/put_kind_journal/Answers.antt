use Rattle.report_text.proofs.{Common.kind_line, NumberedRows.gives_line}
use Rattle.report_text.proofs.kind_lines.put_kind_journal.Goals as goal

pub loop-i-preserved : goal.loop-i-preserved
loop-i-preserved g c =
    gives_line _ _ _ _ _ _ _ _ (kind_line c.args.file.now) c.args.journal.now c.loop-i.i c.index-journal-i.result c.index-journal-i.is
    c.loop-i-test.true c.loop-i.invariant c.put_kind_line-well.ensures
