use Rattle.talk_answers.proofs.Common.{◌≡◌, flat_map, Gives, places_of, take, tried_at}
use Rattle.talk_answers.proofs.tries.put_each_tried.Given as goal

abbrev pub invariant-loop-place : goal.invariant-loop-place
invariant-loop-place g l = record {
  given : Gives g.K.Sink.written g.K.Sink.faults l.ok l.well l.initial.sink l.sink (flat_map (tried_at l.file l.initial.run l.caller l.event) (take l.place (places_of l.type_no l.initial.run.placed.types)));
  same : l.run ≡ l.initial.run;
}
