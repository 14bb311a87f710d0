-- How far a reader goes along the lines of a text.
use Rattle.std.specs.Prelude.{◌≡◌, ℕ, ◌+◌, List, [], ◌∷◌, Option, Some, None, if◌then◌else◌}
use Rattle.file_words.specs.Lines.{Bytes, lines_of}
use Rattle.line_readers.specs.{FirstWrong.ended, Readers.{Reader, done, takes, taken}}

-- its value and the lines behind those that it takes, where it comes to its end
abbrev pub walk : {A : Type 0} → Reader A → List Bytes → Option (A × List Bytes)
walk (done a) ls = Some (a, ls)
walk (takes p go) [] = None
walk (takes p go) (l ∷ ls) = if p l then walk (go l) ls else None

-- It came to its end with this value where one is given, and these bytes are behind; else it stopped.
abbrev pub IsAtEnd : {A : Type 0} → Reader A → Bytes → Bytes → Option A → Type 0
IsAtEnd r old new None = walk r (ended old) ≡ None
IsAtEnd r old new (Some a) = (walk r (ended old) ≡ Some (a, ended new)) × ((lines_of new).left ≡ (lines_of old).left)

-- it was brought along a text, of which some bytes are behind, and the lines that it took were counted
pub record Goes {A : Type 0} (r : Reader A) (old new : Bytes) (counted count : ℕ) (value : Option A) : Type 0 where
  pub lines : count ≡ counted + taken r (ended old)
  pub at_end : IsAtEnd r old new value
