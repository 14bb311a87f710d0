use Rattle.talk_answers.proofs.Common.{Gives, numbered, take, type_line}
use Rattle.talk_answers.proofs.types.put_types.Given as goal

abbrev pub invariant-loop-index : goal.invariant-loop-index
invariant-loop-index g l = Gives g.K.Sink.written g.K.Sink.faults l.ok l.well l.initial.sink l.sink (numbered (type_line l.file l.run.placed) 0 (take l.index l.kind-items))
