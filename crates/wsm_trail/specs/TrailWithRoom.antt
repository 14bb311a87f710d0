-- A trail, with the room that is reserved for what comes.
use Rattle.std.specs.Prelude.{ℕ, ◌+◌, ◌≤◌, List, [], ◌∷◌}
use Rattle.wsm_schema.specs.{Trail.TrailModel, declared.entries.Entry.Entry}

-- how many entries may come before memory is taken
pub record TrailWithRoom : Type 0 where
  pub trail : TrailModel
  pub spare : ℕ

-- positions rise, from `low` on, and stay below `high`
abbrev pub Rises : ℕ → ℕ → List (ℕ × Entry) → Type 0
Rises low high [] = low ≤ high
Rises low high (e ∷ es) = (low ≤ e.0) × Rises (e.0 + 1) high es
