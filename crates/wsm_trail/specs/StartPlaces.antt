-- Where a Start of a node stands in a trail.
use Rattle.std.specs.Prelude.{◌≡◌, ℕ, true, List, [], ◌∷◌, ◌++◌, length, take, drop, Option, Some, None, ◌+◌, ◌<◌}
use Rattle.wsm_schema.specs.{Marks.is_start_of, declared.entries.Entry.Entry}
use Rattle.wsm_trail.specs.Withdrawn.{starts_of}

-- a list is its front, an entry and the rest
abbrev pub StandsAt : ℕ → ℕ → List (ℕ × Entry) → ℕ × Entry → Type 0
StandsAt n i es e = (is_start_of n e.1 ≡ true) × (es ≡ take i es ++ e ∷ drop (i + 1) es)

abbrev pub IsStartPlace : ℕ → List (ℕ × Entry) → Option ℕ → Type 0
IsStartPlace n es None = starts_of n es ≡ []
IsStartPlace n es (Some i) = (i < length es) × ((e : ℕ × Entry) × StandsAt n i es e)
