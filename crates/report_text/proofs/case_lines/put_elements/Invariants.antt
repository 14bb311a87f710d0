use Rattle.report_text.proofs.Common.{flat_map, Gives, listed_element, take}
use Rattle.report_text.proofs.case_lines.put_elements.Given as goal

abbrev pub invariant-loop-element : goal.invariant-loop-element
invariant-loop-element g l = Gives g.K.Sink.written g.K.Sink.faults l.ok l.well l.initial.sink l.sink (flat_map (listed_element l.file) (take l.element-index l.elements))
