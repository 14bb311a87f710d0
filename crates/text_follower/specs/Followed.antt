-- A text that is gone along.
use Rattle.std.specs.Prelude.{ℕ, suc, ◌+◌, ◌-◌, ◌==◌, List, [], ◌∷◌, drop, if◌then◌else◌}

-- a text and a place in it
pub record Followed : Type 0 where
  pub text : List ℕ
  pub at : ℕ

-- how many bytes are the same from the front on
abbrev pub same_front : List ℕ → List ℕ → ℕ
same_front [] bs = 0
same_front (x ∷ xs) [] = 0
same_front (x ∷ xs) (b ∷ bs) = if x == b then suc (same_front xs bs) else 0

-- the place behind the bytes that are a piece's first ones
abbrev pub followed : List ℕ → Followed → Followed
followed piece s = record { text = s.text; at = s.at + same_front piece (drop s.at s.text) }

-- how many line feeds there are
abbrev pub feeds : List ℕ → ℕ
feeds [] = 0
feeds (b ∷ bs) = if b == 10 then suc (feeds bs) else feeds bs

-- how many bytes the first n lines have, with their line feeds
abbrev pub behind_lines : ℕ → List ℕ → ℕ
behind_lines n [] = 0
behind_lines n (b ∷ bs) = if n == 0 then 0 else suc (behind_lines (if b == 10 then n - 1 else n) bs)
