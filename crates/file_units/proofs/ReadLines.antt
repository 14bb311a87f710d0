-- The lines of a unit that were read so far, and one more.
use Rattle.file_units.proofs.Common.{ℕ, ◌*◌, ◌+◌, ◌∙◌, ◌≡◌, ◌≤◌, ap, arith, at_place, Bor, Bytes, Contents, count_of_names, false, front_line, is_skipped, length, length-map, lines_of, lines_read, List, Ok, said, Section, shown, sym, true}
use Rattle.file_units.proofs.{Common.{unit_read, unit_step, without_return, words_of}, Ending.some-words, Inside.{Inside, step-inside, step-names}, LineRoom.words_take, SaidLines.{said-left, skipped-left}}

-- so many lines were read, and what is left of the bytes reads the rest
pub record AreRead (first : Contents) (unit : Bytes) (at : ℕ) (place : Section) (c : Contents) (rest : Bytes) : Type 0 where
  pub inside : Inside first at place c
  pub counted : 2 * at + length rest ≤ length unit
  pub room : count_of_names c + length rest ≤ count_of_names first + length unit
  pub left : lines_read (Ok (at_place place c)) at (said rest) ≡ unit_read first unit

module _ {first : Contents} {unit rest : Bytes} {at : ℕ} {place : Section} {c : Contents} (read : AreRead first unit at place c rest) (line more : Bytes) (split : lines_of rest ≡ front_line line (lines_of more)) (words : List (Bor Bytes)) (are : shown words ≡ words_of (without_return line)) where
  takes : length words + 1 + length more ≤ length rest
  takes = words_take words rest line more are split

  -- a line that says nothing
  pub read-past : is_skipped (shown words) ≡ true → AreRead first unit at place c more
  read-past skipped = record {
    inside = read.inside;
    counted = omega (arith, takes, read.counted);
    room = omega (arith, takes, read.room);
    left = sym (skipped-left (at_place place c) at rest line more split (sym (ap is_skipped are) ∙ skipped)) ∙ read.left;
  }

  -- a line that says something, which takes two bytes or more
  pub read-on : (next : Section) (after : Contents) → is_skipped (shown words) ≡ false → unit_step at place (without_return line) (shown words) c ≡ Ok (at_place next after) → AreRead first unit (at + 1) next after more
  read-on next after says stepped =
      let ws = shown words in
      let same = length-map words (λ (b : Bor Bytes). b.now) in
      let adds = step-names at place next (without_return line) ws c after stepped in
      record {
        inside = step-inside first at place next (without_return line) ws c after stepped read.inside;
        counted = omega (arith, takes, same, some-words ws says, read.counted);
        room = omega (arith, takes, same, adds, read.room);
        left = sym (said-left place next c after at rest line more ws split (sym (ap is_skipped are) ∙ says) are stepped) ∙ read.left;
      }
