use Rattle.report_text.proofs.Common.{flat_map, Gives, take, value_now_text}
use Rattle.report_text.proofs.ends.put_values.Given as goal

abbrev pub invariant-loop-element : goal.invariant-loop-element
invariant-loop-element g l = Gives g.K.Sink.written g.K.Sink.faults l.ok l.well l.initial.sink l.sink (flat_map (value_now_text l.file l.live) (take l.element-index l.elements))
