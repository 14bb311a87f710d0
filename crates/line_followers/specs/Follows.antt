-- How far a reader goes from one place of a text to another.
use Rattle.std.specs.Prelude.{◌≡◌, ℕ, List, [], drop, take, Option, None, option_map}
use Rattle.file_words.specs.Lines.{Bytes, lines_of}
use Rattle.line_readers.specs.{Readers.Reader, Walks.Goes}
use Rattle.text_follower.specs.Followed.{Followed, feeds}

-- the bytes behind the place, and how many lines end before it
abbrev pub left_of : Followed → Bytes
left_of s = drop s.at s.text

abbrev pub passed : Followed → ℕ
passed s = feeds (take s.at s.text)

-- The reader was brought along from one place to the other: to its end with a value, or to the line where it stopped.
abbrev pub Follows : {A : Type 0} → Reader A → Followed → Followed → Option A → Type 0
Follows r old new value = (new.text ≡ old.text) × Goes r (left_of old) (left_of new) (passed old) (passed new) value

-- Who goes on by the second reader from the second place goes by the first one from the first, with a value that is made of his.
abbrev pub Reaches : {A B : Type 0} → Reader A → Followed → Reader B → Followed → (B → A) → Type 0
Reaches r old more mid f = (mid.text ≡ old.text) × ((end : Followed) (value : _) → Follows more mid end value → Follows r old end (option_map f value))

-- whole lines
abbrev pub IsWhole : Bytes → Type 0
IsWhole piece = (lines_of piece).left ≡ []
