-- Sets of numbers: lists that ascend.
use Rattle.std.specs.Prelude.{◌≡◌, ◌<◌, ℕ, Bool, List}
use Rattle.wsm_lists.specs.Rows.{AllRows, Ascends}
use Rattle.wsm_schema.specs.{declared.cards.Card.Card, Trail.is_one_of}

-- the key of a number
abbrev pub number : ℕ → ℕ × ℕ
number n = (n, 0)

-- a set has the numbers that pass a test
abbrev pub Holds : List ℕ → (ℕ → Bool) → Type 0
Holds set test = (d : ℕ) → is_one_of d set ≡ test d

-- numbers that ascend
abbrev pub InOrder : List ℕ → Type 0
InOrder ds = Ascends number ds

-- what each card writes ascends
abbrev pub WritesInOrder : List Card → Type 0
WritesInOrder cards = AllRows (λ c. InOrder c.writes) cards

-- all numbers of one list are below all of another
abbrev pub AllBelow : List ℕ → List ℕ → Type 0
AllBelow lower upper = AllRows (λ x. AllRows (λ y. x < y) upper) lower
