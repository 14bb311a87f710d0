-- The entries of a table that grows: rows under their keys.
use Rattle.std.specs.Prelude.{◌≡◌, ℕ, List, map}
use Rattle.wsm_lists.specs.Rows.{AllRows}

-- the rows alone
abbrev pub rows_of : {X : Type 0} → List ((ℕ × ℕ) × X) → List X
rows_of entries = map (λ e. e.1) entries

-- each row stands under its own key
abbrev pub Keyed : {X : Type 0} → (X → ℕ × ℕ) → List ((ℕ × ℕ) × X) → Type 0
Keyed key entries = AllRows (λ e. e.0 ≡ key e.1) entries
