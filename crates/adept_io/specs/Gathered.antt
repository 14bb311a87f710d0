-- What a gathering sink knows of the sink behind it.
use Rattle.std.specs.Prelude.{ℕ, List, length, Option, Some, None}

-- how many bytes are known
abbrev pub known_length : Option (List ℕ) → ℕ
known_length None = 0
known_length (Some xs) = length xs
