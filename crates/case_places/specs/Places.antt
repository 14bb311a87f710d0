-- Where the cases of types were declared.
use Rattle.std.specs.Prelude.{◌≡◌, ℕ, ◌+◌, ◌==◌, List, [], ◌∷◌, get_or, if◌then◌else◌}

-- how many types were declared, and the type of each case, in order of declaration
pub record Placed : Type 0 where
  pub kinds : ℕ
  pub types : List ℕ

-- at which places the cases of a type stand, where the first case stands at this one
abbrev pub places_from : ℕ → ℕ → List ℕ → List ℕ
places_from place t [] = []
places_from place t (u ∷ us) = if u == t then place ∷ places_from (place + 1) t us else places_from (place + 1) t us

abbrev pub places_of : ℕ → List ℕ → List ℕ
places_of t types = places_from 0 t types

-- a row for each type, and none past their end
abbrev pub AreRows : List (List ℕ) → List ℕ → Type 0
AreRows rows types = (t : ℕ) → get_or rows t [] ≡ places_of t types
