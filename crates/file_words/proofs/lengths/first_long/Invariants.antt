use Rattle.std.proofs.Common.{◌≡◌, drop}
use Rattle.file_words.specs.{Lengths.first_long, Shown.shown}
use Rattle.file_words.proofs.lengths.first_long.Given as goal

abbrev pub invariant-loop-word : goal.invariant-loop-word
invariant-loop-word l = first_long (shown (drop l.word-index l.words)) ≡ first_long (shown l.words)
