-- The end of a file, a line that is skipped, and the first line that is refused.
use Rattle.file_model.proofs.Common.{ℕ, ◌+◌, ◌==◌, ◌∷◌, ◌≡◌, ap, at_line, Bytes, Contents, false, finished, if◌then◌else◌, is_skipped, length, List, read_from, refl, refused, State, Step, step, step_in, true, Why, without_return, words_of}
use Rattle.std.specs.Prelude.{Ok, Err}
use Rattle.file_model.specs.declared.refusals.Why.TheVariants as why

-- bytes behind the last line feed
pub not_ended : (s : State) (left : Bytes) → (length left == 0) ≡ false → finished s left ≡ Err (why.Unended, s.contents)
not_ended s left more = rw more refl

-- a line that says nothing leaves all as it is
pub skipped_line : (s : State) (at : ℕ) (left l : Bytes) (ls : List Bytes) →
    is_skipped (words_of (without_return l)) ≡ true → read_from (Ok s) at left (l ∷ ls) ≡ read_from (Ok s) (at + 1) left ls
skipped_line s at left l ls none =
    let line = without_return l in
    ap (λ test. read_from (at_line at (if test then Ok s else step_in s.place at line (words_of line) s.contents)) (at + 1) left ls) none

-- the refusal of a line is that of the file
pub refused_line : (s : State) (at : ℕ) (left l : Bytes) (ls : List Bytes) (w : Why) (c : Contents) →
    step s at (without_return l) ≡ Err (w, c) → read_from (Ok s) at left (l ∷ ls) ≡ Err (refused at w c)
refused_line s at left l ls w c is = ap (λ (o : Step). read_from (at_line at o) (at + 1) left ls) is
