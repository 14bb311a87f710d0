use Rattle.std.proofs.Common.{[], ◌≡◌, ◌++◌, length}
use Rattle.file_words.specs.{Words.words_of, Shown.shown}
use Rattle.line_words.proofs.lists.LineWords.read.Given as goal

abbrev pub invariant-loop-word : goal.invariant-loop-word
invariant-loop-word l = record {
  so_far : shown l.self.few.items ++ words_of l.rest ≡ words_of l.line;
  none : l.self.many.items ≡ [];
}

abbrev pub decreases-loop-word : goal.decreases-loop-word
decreases-loop-word l = length (words_of l.rest)
