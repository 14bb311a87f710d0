-- Rows grouped by their first number.
use Rattle.std.specs.{Prelude.{◌≡◌, ℕ, Bool, not, ◌&&◌, ◌+◌, ◌<◌, ◌≤◌, List, [], ◌∷◌, Option, Some, None, map, filter, slice_get, ◌==◌}, List.Sorted.IsPartitionPoint}
use Rattle.wsm_schema.specs.declared.cards.Card.{Card}

-- the rows of one number
abbrev pub rows_with : {A : Type 0} → ℕ → List (ℕ × A) → List (ℕ × A)
rows_with number rows = filter (λ r. r.0 == number) rows

-- two lists with the same rows of each number, in the same order
pub record SameGroups {A : Type 0} (xs ys : List (ℕ × A)) : Type 0 where
  pub same : (number : ℕ) → rows_with number ys ≡ rows_with number xs

-- edges from their targets back to their sources
abbrev pub reversed : List (ℕ × ℕ) → List (ℕ × ℕ)
reversed edges = map (λ e. (e.1, e.0)) edges

-- the nodes of cards with the cards' places in the list, from a place on
abbrev pub numbered : ℕ → List Card → List (ℕ × ℕ)
numbered place [] = []
numbered place (c ∷ cs) = (c.node, place) ∷ numbered (place + 1) cs

-- numbers with their places in the list, from a place on
abbrev pub placed : ℕ → List ℕ → List (ℕ × ℕ)
placed place [] = []
placed place (n ∷ ns) = (n, place) ∷ placed (place + 1) ns

-- where the rows below a number end, and where those up to it end
abbrev pub IsStart : {A : Type 0} → ℕ → List (ℕ × A) → ℕ → Type 0
IsStart {A} number = IsPartitionPoint (λ (r : ℕ × A). r.0 < number) (λ (r : ℕ × A). number ≤ r.0)

abbrev pub IsEnd : {A : Type 0} → ℕ → List (ℕ × A) → ℕ → Type 0
IsEnd {A} number = IsPartitionPoint (λ (r : ℕ × A). r.0 ≤ number) (λ (r : ℕ × A). number < r.0)

-- whether a row has a number
abbrev pub has_number : {A : Type 0} → ℕ → Option (ℕ × A) → Bool
has_number number None = Bool.false
has_number number (Some r) = r.0 == number

-- whether the row at a place has the number, and the one before it has not
abbrev pub starts_at : {A : Type 0} → ℕ → List (ℕ × A) → ℕ → Bool
starts_at number rows ℕ.zero = has_number number (slice_get rows 0)
starts_at number rows (ℕ.suc place) = has_number number (slice_get rows (ℕ.suc place)) && not (has_number number (slice_get rows place))
