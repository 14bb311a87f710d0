use Rattle.std.proofs.Common.{◌≡◌, ◌-◌, ◌++◌, length, drop, take, option_map}
use Rattle.file_words.specs.Pairs.{parts_at_equals}
use Rattle.file_words.proofs.pairs.parts_at_equals.Given as goal

abbrev pub invariant-loop-i : goal.invariant-loop-i
invariant-loop-i l = option_map (λ p. (take l.i l.word ++ p.0, p.1)) (parts_at_equals (drop l.i l.word)) ≡ parts_at_equals l.word

abbrev pub decreases-loop-i : goal.decreases-loop-i
decreases-loop-i l = length l.word - l.i
