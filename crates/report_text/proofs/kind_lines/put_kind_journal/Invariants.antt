use Rattle.report_text.proofs.Common.{Gives, kind_line, numbered, take}
use Rattle.report_text.proofs.kind_lines.put_kind_journal.Given as goal

abbrev pub invariant-loop-i : goal.invariant-loop-i
invariant-loop-i g l = Gives g.K.Sink.written g.K.Sink.faults l.ok l.well l.initial.sink l.sink (numbered (kind_line l.file) 1 (take l.i l.journal))
