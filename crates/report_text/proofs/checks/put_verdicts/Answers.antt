use Rattle.report_text.proofs.Common.{gives_item, verdict_line}
use Rattle.report_text.proofs.checks.put_verdicts.Goals as goal

pub loop-verdict-preserved : goal.loop-verdict-preserved
loop-verdict-preserved g c =
    gives_item _ _ _ _ _ _ _ _ (verdict_line c.args.file.now) c.args.verdicts.now c.loop-verdict.verdict-index c.verdict-item.result c.verdict-item.is
    c.loop-verdict-test.true c.loop-verdict.invariant c.put_verdict-well.ensures
