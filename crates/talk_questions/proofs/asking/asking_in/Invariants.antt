use Rattle.std.proofs.Common.{◌≡◌, ◌≤◌, length}
use Rattle.file_words.specs.Lines.{lines_of}
use Rattle.talk_questions.specs.Trials.{asking, asking_from}
use Rattle.talk_questions.proofs.asking.asking_in.Given as goal

abbrev pub invariant-loop-line : goal.invariant-loop-line
invariant-loop-line l = record {
  asking : asking_from l.rest (lines_of l.rest).ended ≡ asking l.item;
  short : length l.rest ≤ length l.item;
}

abbrev pub decreases-loop-line : goal.decreases-loop-line
decreases-loop-line l = length l.rest
