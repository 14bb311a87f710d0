-- What was taken from a source.
use Rattle.std.specs.{Prelude.{◌≡◌, ℕ, ◌≤◌, List, length, Option}, Io.KnownBytes.Consumes}

-- known bytes lost this many from their front
abbrev pub ConsumesMany : (old new : Option (List ℕ)) → ℕ → Type 0
ConsumesMany old new n = (bytes : List ℕ) × Consumes old new bytes × (length bytes ≡ n)

-- known bytes lost at most this many from their front
abbrev pub ConsumesUpTo : (old new : Option (List ℕ)) → ℕ → Type 0
ConsumesUpTo old new n = (bytes : List ℕ) × Consumes old new bytes × (length bytes ≤ n)
