use Rattle.talk_answers.proofs.Common.{◌++◌, ◌≡◌, Bytes, Gives, length, quoted}
use Rattle.talk_answers.proofs.lines.put_quoted.Given as goal

-- the lines up to the rest were written
abbrev pub invariant-loop-line : goal.invariant-loop-line
invariant-loop-line g l = (front : Bytes) × Gives g.K.Sink.written g.K.Sink.faults l.ok l.well l.initial.sink l.sink front × (front ++ quoted l.rest ≡ quoted l.bytes)

abbrev pub decreases-loop-line : goal.decreases-loop-line
decreases-loop-line g l = length l.rest
