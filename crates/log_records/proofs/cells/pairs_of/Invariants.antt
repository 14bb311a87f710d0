use Rattle.std.proofs.Common.{◌≡◌, ◌++◌, drop, option_map}
use Rattle.file_words.specs.Shown.{shown}
use Rattle.log_records.specs.Forms.{pairs}
use Rattle.log_records.proofs.cells.pairs_of.Given as goal

abbrev pub invariant-loop-word : goal.invariant-loop-word
invariant-loop-word l = option_map (λ ps. l.writes ++ ps) (pairs l.elements (shown (drop l.word-index l.words))) ≡ pairs l.elements (shown l.words)
