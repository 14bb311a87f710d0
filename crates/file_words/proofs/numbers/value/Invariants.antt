use Rattle.std.proofs.Common.{◌≡◌, ◌<◌, ◌^◌, drop, true}
use Rattle.std.specs.List.{list_all}
use Rattle.file_words.specs.{Names.is_digit, Numbers.value_from}
use Rattle.file_words.proofs.numbers.value.Given as goal

abbrev pub invariant-loop-digit : goal.invariant-loop-digit
invariant-loop-digit l = record {
  left : value_from l.n (drop l.digit-index l.digits) ≡ value_from 0 l.digits;
  digits : list_all is_digit (drop l.digit-index l.digits) ≡ true;
  small : l.n < 10 ^ l.digit-index;
}
