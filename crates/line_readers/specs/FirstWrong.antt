-- The first wrong line of a text, where some texts are right.
use Rattle.std.specs.Prelude.{◌≡◌, ℕ, ◌+◌, ◌<◌, ◌≤◌, List, [], length, take, Option, Some, None}
use Rattle.file_words.specs.Lines.{Bytes, lines_of}
use Rattle.line_readers.specs.Readers.{Reader, taken, read}

-- the lines that line feeds end
abbrev pub ended : Bytes → List Bytes
ended bytes = (lines_of bytes).ended

module _ (IsRight : Bytes → Type 0) where
  -- a right text begins with the first n lines of this one, which has as many
  abbrev pub Begins : Bytes → ℕ → Type 0
  Begins bytes n = (n ≤ length (ended bytes)) × ((t : Bytes) × IsRight t × (take n (ended t) ≡ take n (ended bytes)))

  -- None where the text is right, else the least number of lines with which no right text begins
  abbrev pub IsFirstWrong : Bytes → Option ℕ → Type 0
  IsFirstWrong bytes None = IsRight bytes
  IsFirstWrong bytes (Some n) = (IsRight bytes → ⊥) × ((m : ℕ) → m < n → Begins bytes m) × (Begins bytes n → ⊥)

-- by a reader: bytes behind the last line feed are wrong
abbrev pub wrong_in : {A : Type 0} → Reader A → Bytes → Bytes → List Bytes → Option A → Option ℕ
wrong_in r bytes [] ls (Some a) = None
wrong_in r bytes left ls value = Some (taken r ls + 1)

abbrev pub first_wrong : {A : Type 0} → Reader A → Bytes → Option ℕ
first_wrong r bytes = wrong_in r bytes (lines_of bytes).left (ended bytes) (read r (ended bytes))
