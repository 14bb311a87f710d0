-- All places of a rank, visited in their order.
use Rattle.std.specs.Prelude.{◌≡◌, ℕ, zero, suc, ◌+◌, List, [], ◌∷◌, length, Option}
use Rattle.wsm_schema.specs.{declared.cards.Card.Card, declared.marks.Mark.Mark}
use Rattle.wsm_walk.specs.Walk.{Walks}

-- so many places from one on
abbrev pub places_from : ℕ → ℕ → List ℕ
places_from place zero = []
places_from place (suc n) = place ∷ places_from (place + 1) n

-- the walk goes on from all places behind one, this one among them, and leaves those behind it
abbrev pub WalksOne : List Card → List ℕ → List (ℕ × Mark) → ℕ → List (ℕ × Option Mark) → List (ℕ × Option Mark) → Type 0
WalksOne cards rank kept place changes changes' =
    (n : ℕ) → place + suc n ≡ length rank → Walks cards rank kept (places_from place (suc n)) changes (places_from (place + 1) n) changes'
