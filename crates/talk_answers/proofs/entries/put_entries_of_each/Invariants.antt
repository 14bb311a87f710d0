use Rattle.talk_answers.proofs.Common.{entry_at, flat_map, Gives, take}
use Rattle.talk_answers.proofs.entries.put_entries_of_each.Given as goal

abbrev pub invariant-loop-place : goal.invariant-loop-place
invariant-loop-place g l = Gives g.K.Sink.written g.K.Sink.faults l.ok l.well l.initial.sink l.sink (flat_map (entry_at l.file l.run) (take l.place-index l.place-items))
