use Rattle.std.proofs.Common.{take}
use Rattle.std.specs.List.{flat_map}
use Rattle.adept_io.specs.Written.{Gives}
use Rattle.report_words.specs.Words.{read_text}
use Rattle.report_words.proofs.values.put_reads.Given as goal

abbrev pub invariant-loop-read : goal.invariant-loop-read
invariant-loop-read g l = Gives g.K.Sink.written g.K.Sink.faults l.ok l.well l.initial.sink l.sink (flat_map (read_text l.file) (take l.read-index l.reads))
