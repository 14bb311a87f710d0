use Rattle.report_text.proofs.{Common.case_line, NumberedRows.gives_line}
use Rattle.report_text.proofs.case_lines.put_case_journal.Goals as goal

pub loop-i-preserved : goal.loop-i-preserved
loop-i-preserved g c =
    gives_line _ _ _ _ _ _ _ _ (case_line c.args.file.now) c.args.journal.now c.loop-i.i c.index-journal-i.result c.index-journal-i.is
    c.loop-i-test.true c.loop-i.invariant c.put_case_line-well.ensures
