use Rattle.std.proofs.Common.{◌≡◌, ◌≤◌, ◌+◌, ◌-◌, length, drop}
use Rattle.file_words.specs.Words.{word_end}
use Rattle.file_words.specs.declared.words.Quote.TheVariants.{Outside}
use Rattle.file_words.proofs.words.quoted_end.Given as goal

abbrev pub invariant-loop-i : goal.invariant-loop-i
invariant-loop-i l = record {
  within : l.i ≤ length l.line;
  end : l.i + word_end l.quote (drop l.i l.line) ≡ l.front + word_end Outside (drop l.front l.line);
}

abbrev pub decreases-loop-i : goal.decreases-loop-i
decreases-loop-i l = length l.line - l.i
