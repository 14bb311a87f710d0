use Rattle.talk_answers.proofs.Common.{flat_map, Gives, standing_at, take}
use Rattle.talk_answers.proofs.standings.put_standings_of.Given as goal

abbrev pub invariant-loop-place : goal.invariant-loop-place
invariant-loop-place g l = Gives g.K.Sink.written g.K.Sink.faults l.ok l.well l.initial.sink l.sink (flat_map (standing_at l.file l.run) (take l.place-index l.place-items))
