use Rattle.report_text.proofs.Common.{flat_map, Gives, sound_line, take}
use Rattle.report_text.proofs.checks.put_sound_types.Given as goal

abbrev pub invariant-loop-decl : goal.invariant-loop-decl
invariant-loop-decl g l = Gives g.K.Sink.written g.K.Sink.faults l.ok l.well l.initial.sink l.sink (flat_map sound_line (take l.decl-index l.types))
