use Rattle.std.proofs.Common.{◌≡◌, ◌++◌, map, drop, option_map}
use Rattle.file_words.specs.Shown.{shown, shown_pair}
use Rattle.file_forms.specs.ScriptForms.{pairs}
use Rattle.file_forms.proofs.script_lines.pairs.Given as goal

abbrev pub invariant-loop-word : goal.invariant-loop-word
invariant-loop-word l = option_map (λ ps. map shown_pair l.all.items ++ ps) (pairs (shown (drop l.word-index l.words))) ≡ pairs (shown l.words)
