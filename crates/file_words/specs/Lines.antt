-- Lines, on bytes alone.
use Rattle.std.specs.Prelude.{ℕ, suc, ◌-◌, length, take, slice_index, List, [], ◌∷◌, ◌==◌, if◌then◌else◌}

-- a line, a word and a name are bytes
abbrev pub Bytes : Type 0
Bytes = List ℕ

-- the lines that a line feed ends, and what stands behind the last one
pub record CutLines : Type 0 where
  pub ended : List Bytes
  pub left : Bytes

abbrev pub put_first : ℕ → List Bytes → Bytes → CutLines
put_first b [] left = record { ended = []; left = b ∷ left }
put_first b (l ∷ ls) left = record { ended = (b ∷ l) ∷ ls; left = left }

abbrev pub onto_lines : ℕ → CutLines → CutLines
onto_lines b ls = if b == 10 then record { ended = [] ∷ ls.ended; left = ls.left } else put_first b ls.ended ls.left

abbrev pub lines_of : Bytes → CutLines
lines_of [] = record { ended = []; left = [] }
lines_of (b ∷ bs) = onto_lines b (lines_of bs)

-- bytes without a line feed, and a line in front of others
abbrev pub one_left : Bytes → CutLines
one_left bs = record { ended = []; left = bs }

abbrev pub front_line : Bytes → CutLines → CutLines
front_line l ls = record { ended = l ∷ ls.ended; left = ls.left }

-- how many bytes stand before the first line feed
abbrev pub line_end : Bytes → ℕ
line_end [] = 0
line_end (b ∷ bs) = if b == 10 then 0 else suc (line_end bs)

-- a line without the carriage return at its end
abbrev pub without_return : Bytes → Bytes
without_return line = if slice_index line (length line - 1) == 13 then take (length line - 1) line else line
