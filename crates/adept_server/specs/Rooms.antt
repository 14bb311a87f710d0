-- Rows that have room for others.
use Rattle.std.specs.Prelude.{◌≡◌, List, map, Vec, vec_len, vec_capacity}

-- each of the others is empty, with room for as many items as stand in the row at its place
abbrev pub HaveRoomFor : {X Y A : Type 0} → List (Vec X A) → List (Vec Y A) → Type 0
HaveRoomFor rows others = (map vec_capacity others ≡ map vec_len rows) × (map vec_len others ≡ map (λ _. 0) rows)
