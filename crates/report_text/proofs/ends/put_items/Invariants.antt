use Rattle.report_text.proofs.Common.{flat_map, Gives, item_text, take}
use Rattle.report_text.proofs.ends.put_items.Given as goal

abbrev pub invariant-loop-row : goal.invariant-loop-row
invariant-loop-row g l = Gives g.K.Sink.written g.K.Sink.faults l.ok l.well l.initial.sink l.sink (flat_map (λ r. item_text l.file r.1) (take l.row-index l.items))
