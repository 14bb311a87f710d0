use Rattle.talk_items.proofs.Common.{◌++◌, ◌≡◌, ◌≤◌, false, keyword, length, map, tell_enough, words_of}
use Rattle.talk_items.proofs.front.front_words.Given as goal

abbrev pub invariant-loop-word : goal.invariant-loop-word
invariant-loop-word l = record {
  first : l.words.items ++ map keyword (words_of l.rest) ≡ map keyword (words_of l.line);
  more : tell_enough l.words.items ≡ false;
  few : length l.words.items ≤ 4;
}

abbrev pub decreases-loop-word : goal.decreases-loop-word
decreases-loop-word l = length (words_of l.rest)
