-- Rows that are put over others.
use Rattle.std.specs.Prelude.{ℕ, List, [], ◌∷◌}
use Rattle.wsm_lists.specs.Rows.{put_row}

-- the second rows with each of the first at its place, in place of one with the same key
abbrev pub put_over : {X : Type 0} → (X → ℕ × ℕ) → List X → List X → List X
put_over key [] ys = ys
put_over key (x ∷ xs) ys = put_row key x (put_over key xs ys)
