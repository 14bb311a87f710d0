-- The line that asks, where an item is read line by line.
use Rattle.std.proofs.Common.{◌≡◌, ◌+◌, ◌≤◌, Bool, true, false, List, [], ◌∷◌, length, drop, refl, ap, sym, ◌∙◌, if◌then◌else◌, Option, Some}
use Rattle.file_words.specs.{Lines.{Bytes, CutLines, front_line, lines_of, without_return}, Words.{is_skipped, words_of}}
use Rattle.talk_questions.proofs.LineBytes.{behind-line}
use Rattle.talk_questions.specs.Trials.{Asking, asking_from}

module _ (rest line more : Bytes) (split : lines_of rest ≡ front_line line (lines_of more)) where
  -- where a line is the first
  at-line : asking_from rest (lines_of rest).ended ≡ asking_from rest (line ∷ (lines_of more).ended)
  at-line = ap (λ (ls : CutLines). asking_from rest ls.ended) split

  by-line : (skipped : Bool) → is_skipped (words_of (without_return line)) ≡ skipped
      → asking_from rest (line ∷ (lines_of more).ended) ≡ (if skipped then asking_from more (lines_of more).ended else Some (record { bytes = rest; line = line; more = more }))
  by-line skipped is =
      let behind = drop (length line + 1) rest in
      ap (λ (b : Bool). if b then asking_from behind (lines_of more).ended else Some (record { bytes = rest; line = line; more = behind })) is
      ∙ ap (λ (bs : Bytes). if skipped then asking_from bs (lines_of more).ended else Some (record { bytes = rest; line = line; more = bs })) (sym (behind-line rest line more split))

  pub found : is_skipped (words_of (without_return line)) ≡ false → asking_from rest (lines_of rest).ended ≡ Some (record { bytes = rest; line = line; more = more })
  found is = at-line ∙ by-line false is

  pub passed : is_skipped (words_of (without_return line)) ≡ true → asking_from rest (lines_of rest).ended ≡ asking_from more (lines_of more).ended
  passed is = at-line ∙ by-line true is
