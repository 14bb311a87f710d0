use Rattle.std.proofs.Common.{◌≡◌, ◌≤◌, ◌+◌, ◌-◌, length, drop}
use Rattle.file_words.specs.Words.{bare_end}
use Rattle.file_words.proofs.words.bare_end.Given as goal

abbrev pub invariant-loop-i : goal.invariant-loop-i
invariant-loop-i l = record {
  within : l.i ≤ length l.line;
  end : l.i + bare_end (drop l.i l.line) ≡ bare_end l.line;
}

abbrev pub decreases-loop-i : goal.decreases-loop-i
decreases-loop-i l = length l.line - l.i
