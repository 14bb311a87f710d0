use Rattle.talk_answers.proofs.Common.{flat_map, Gives, spaced_role, take}
use Rattle.talk_answers.proofs.actors.put_each_role.Given as goal

abbrev pub invariant-loop-role : goal.invariant-loop-role
invariant-loop-role g l = Gives g.K.Sink.written g.K.Sink.faults l.ok l.well l.initial.sink l.sink (flat_map (spaced_role l.file) (take l.role-index l.roles))
