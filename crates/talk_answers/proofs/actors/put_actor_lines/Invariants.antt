use Rattle.talk_answers.proofs.Common.{actor_line, flat_map, Gives, take}
use Rattle.talk_answers.proofs.actors.put_actor_lines.Given as goal

abbrev pub invariant-loop-decl : goal.invariant-loop-decl
invariant-loop-decl g l = Gives g.K.Sink.written g.K.Sink.faults l.ok l.well l.initial.sink l.sink (flat_map (actor_line l.file) (take l.decl-index l.actors))
