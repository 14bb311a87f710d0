use Rattle.std.proofs.Common.{◌≡◌, ◌≤◌, ◌+◌, option_map, drop, length, false}
use Rattle.file_words.specs.Texts.{unquoted}
use Rattle.file_words.proofs.texts.unquoted_len.Given as goal

abbrev pub invariant-loop-i : goal.invariant-loop-i
invariant-loop-i l = record {
  within : l.len ≤ l.i;
  left : option_map (λ t. l.len + length t) (unquoted l.is_escaped (drop l.i l.bytes)) ≡ option_map length (unquoted false l.bytes);
}
