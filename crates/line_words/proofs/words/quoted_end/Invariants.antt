use Rattle.std.proofs.Common.{◌≡◌, ◌≤◌, ◌+◌, ◌-◌, length, drop}
use Rattle.file_words.specs.Words.{word_end}
use Rattle.file_words.specs.declared.words.Quote.TheVariants.{Outside}
use Rattle.line_words.specs.Standing.{quoted}
use Rattle.line_words.proofs.words.quoted_end.Given as goal

abbrev pub invariant-loop-end : goal.invariant-loop-end
invariant-loop-end l = record {
  within : l.end ≤ length l.line;
  end : l.end + word_end (quoted l.stand) (drop l.end l.line) ≡ l.front + word_end Outside (drop l.front l.line);
}

abbrev pub decreases-loop-end : goal.decreases-loop-end
decreases-loop-end l = length l.line - l.end
