use Rattle.report_text.proofs.Common.{flat_map, Gives, mark_text, take}
use Rattle.report_text.proofs.ends.put_marks.Given as goal

abbrev pub invariant-loop-card : goal.invariant-loop-card
invariant-loop-card g l = Gives g.K.Sink.written g.K.Sink.faults l.ok l.well l.initial.sink l.sink (flat_map (mark_text l.file l.live) (take l.card-index l.cards))
