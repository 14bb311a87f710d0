use Rattle.std.proofs.Common.{take}
use Rattle.std.specs.List.{flat_map}
use Rattle.adept_io.specs.Written.{Gives}
use Rattle.report_words.specs.Words.{assigned}
use Rattle.report_words.proofs.values.put_writes.Given as goal

abbrev pub invariant-loop-write : goal.invariant-loop-write
invariant-loop-write g l = Gives g.K.Sink.written g.K.Sink.faults l.ok l.well l.initial.sink l.sink (flat_map (assigned l.file) (take l.write-index l.writes))
