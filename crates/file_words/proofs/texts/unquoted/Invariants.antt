use Rattle.std.proofs.Common.{◌≡◌, ◌++◌, option_map, drop, false}
use Rattle.file_words.specs.Texts.{unquoted}
use Rattle.file_words.proofs.texts.unquoted.Given as goal

abbrev pub invariant-loop-i : goal.invariant-loop-i
invariant-loop-i l = option_map (λ t. l.all.items ++ t) (unquoted l.is_escaped (drop l.i l.bytes)) ≡ unquoted false l.bytes
