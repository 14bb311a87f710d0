use Rattle.std.proofs.Common.{◌≡◌, ◌≤◌, length}
use Rattle.talk_questions.specs.Trials.{from_word}
use Rattle.talk_questions.proofs.asking.from_word.Given as goal

abbrev pub invariant-loop-rest : goal.invariant-loop-rest
invariant-loop-rest l = record {
  word : from_word l.rest ≡ from_word l.bytes;
  short : length l.rest ≤ length l.bytes;
}

abbrev pub decreases-loop-rest : goal.decreases-loop-rest
decreases-loop-rest l = length l.rest
