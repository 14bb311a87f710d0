-- Numbers that ascend.
use Rattle.std.specs.Prelude.{ℕ, Bool, true, ◌&&◌, List, [], ◌∷◌, Option, Some, None, nat_lt}

-- whether a number is above the last one, where there is one
abbrev pub is_above : Option ℕ → ℕ → Bool
is_above None n = true
is_above (Some last) n = nat_lt last n

-- whether each of the numbers is above the one before it, the first above the last one
abbrev pub ascend_from : Option ℕ → List ℕ → Bool
ascend_from last [] = true
ascend_from last (n ∷ ns) = is_above last n && ascend_from (Some n) ns
