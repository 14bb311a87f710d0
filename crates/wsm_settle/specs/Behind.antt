-- From which place on something stands behind a place, or behind none.
use Rattle.std.specs.Prelude.{◌≡◌, ◌==◌, ℕ, ◌+◌, List, Option, Some, None}
use Rattle.wsm_walk.specs.RankPlaces.{Handed}

abbrev pub low_of : Option ℕ → ℕ
low_of None = 0
low_of (Some p) = p + 1

-- the node that became pending last, where there is one, is pending
abbrev pub WasHanded : List ℕ → ℕ → Option ℕ → List ℕ → Type 0
WasHanded rank low last places = (n : ℕ) → last ≡ Some n → Handed rank (λ k. n == k) low places places
