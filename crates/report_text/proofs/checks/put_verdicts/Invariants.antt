use Rattle.report_text.proofs.Common.{flat_map, Gives, take, verdict_line}
use Rattle.report_text.proofs.checks.put_verdicts.Given as goal

abbrev pub invariant-loop-verdict : goal.invariant-loop-verdict
invariant-loop-verdict g l = Gives g.K.Sink.written g.K.Sink.faults l.ok l.well l.initial.sink l.sink (flat_map (verdict_line l.file) (take l.verdict-index l.verdicts))
