use Rattle.talk_answers.proofs.Common.{ℕ, flat_map, Gives, Item, line_if_concerned, take}
use Rattle.talk_answers.proofs.items.put_item_lines.Given as goal

abbrev pub invariant-loop-row : goal.invariant-loop-row
invariant-loop-row g l = Gives g.K.Sink.written g.K.Sink.faults l.ok l.well l.initial.sink l.sink (flat_map (λ (r : ℕ × Item). line_if_concerned l.file l.actor l.decl r.1) (take l.row-index l.items))
