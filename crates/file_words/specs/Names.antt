-- Words that are names.
use Rattle.std.specs.{Prelude.{ℕ, Bool, ◌&&◌, ◌||◌, nat_lt, nat_le, length, slice_index, ◌==◌, if◌then◌else◌, Option, Some, None}, List.list_all}
use Rattle.file_words.specs.Lines.{Bytes}

abbrev pub in_range : ℕ → ℕ → ℕ → Bool
in_range lo hi b = nat_le lo b && nat_le b hi

abbrev pub is_digit : ℕ → Bool
is_digit = in_range 48 57

-- a letter or _
abbrev pub starts_name : ℕ → Bool
starts_name b = in_range 97 122 b || in_range 65 90 b || b == 95

-- also a digit, - or .
abbrev pub in_name : ℕ → Bool
in_name b = starts_name b || is_digit b || b == 45 || b == 46

-- at least one byte, of which the first may start a name
abbrev pub is_name : Bytes → Bool
is_name w = nat_lt 0 (length w) && starts_name (slice_index w 0) && list_all in_name w

-- the word, where it is a name
abbrev pub name : Bytes → Option Bytes
name w = if is_name w then Some w else None
