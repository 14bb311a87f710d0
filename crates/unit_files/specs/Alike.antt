-- Lines of a file and the same lines as those of units, one after another.
use Rattle.std.specs.{Prelude.{◌≡◌, ◌⊎◌, ℕ, ◌+◌, List, [], ◌∷◌, length, map, take, Result, Ok, Err}, List.filter}
use Rattle.file_words.specs.{Lines.{Bytes, without_return}, Words.words_of}
use Rattle.file_model.specs.{Reading.{at_line, step, step_in}, Steps.{State, outside}, declared.files.Act.Act, declared.refusals.Refused.Refused, declared.states.Contents.Contents}
use Rattle.file_units.specs.Units.{said, says}
use Rattle.unit_files.specs.Same.{IsOfFile, SameState}

-- the reader's state behind lines of a file, of which the first has this number
abbrev pub lines_behind : Result State Refused → ℕ → List Bytes → Result State Refused
lines_behind (Err r) at ls = Err r
lines_behind (Ok s) at [] = Ok s
lines_behind (Ok s) at (l ∷ ls) = lines_behind (at_line at (step s at (without_return l))) (at + 1) ls

-- the state behind lines of a unit that say something, behind so many others
abbrev pub lines_taken : Result State Refused → ℕ → List Bytes → Result State Refused
lines_taken (Err r) k ls = Err r
lines_taken (Ok s) k [] = Ok s
lines_taken (Ok s) k (l ∷ ls) = lines_taken (at_line (k + 1) (step_in s.place (k + 1) l (words_of l) s.contents)) (k + 1) ls

-- the lines of a unit, wherever it ends
abbrev pub unit_taken : Contents → Bytes → Result State Refused
unit_taken c unit = lines_taken (Ok (outside c)) 0 (said unit)

-- those that say something
abbrev pub said_of : List Bytes → List Bytes
said_of ls = filter says (map without_return ls)

-- a refusal is told of one of these lines, by its number in the file, and by its number among those that say something
pub record IsAtLine (at k : ℕ) (ls : List Bytes) (line number : ℕ) : Type 0 where
  pub place : ℕ
  pub in_file : line ≡ at + place
  pub in_unit : number ≡ k + length (said_of (take (place + 1) ls))

-- the same is refused for the same reason in the same words
abbrev pub IsSameRefusal : ℕ → ℕ → List Bytes → (file held : Refused) → Type 0
IsSameRefusal at k ls r q = (q.why ≡ r.why) × (q.text ≡ r.text) × IsAtLine at k ls r.line q.line

-- lines of a file of format 3 and the lines of a unit are taken alike, or refused alike; or in the file a limit cuts them off
abbrev pub Reads : List (ℕ × Act) → ℕ → ℕ → List Bytes → (file held : Result State Refused) → Type 0
Reads before at k ls (Ok s) (Ok t) = SameState before s t × (s.contents.format ≡ 3)
Reads before at k ls (Ok s) (Err q) = ⊥
Reads before at k ls (Err r) (Ok t) = IsOfFile r.why
Reads before at k ls (Err r) (Err q) = IsOfFile r.why ⊎ IsSameRefusal at k ls r q
