-- What actors still owe: phase by phase their lines, of which an actor's own stand in order.
use Rattle.std.specs.Prelude.{ℕ, ◌+◌, ◌==◌, List, [], ◌∷◌, ◌++◌, length, filter, Option, Some, None, if◌then◌else◌}

module _ {L : Type 0} where
  -- the phases from the first on in which something is owed
  abbrev pub due : List (List L) → List (List L)
  due [] = []
  due ([] ∷ phases) = due phases
  due ((l ∷ ls) ∷ phases) = (l ∷ ls) ∷ phases

  -- all that is owed, and how much it is
  abbrev pub all_owed : List (List L) → List L
  all_owed [] = []
  all_owed (phase ∷ phases) = phase ++ all_owed phases

  abbrev pub how_many : List (List L) → ℕ
  how_many [] = 0
  how_many (phase ∷ phases) = length phase + how_many phases

module _ {L : Type 0} (actor_of : L → ℕ) where
  -- the lines of an actor
  abbrev pub lines_by : ℕ → List L → List L
  lines_by a ls = filter (λ l. actor_of l == a) ls

  -- the first line of an actor, and all others
  abbrev pub with_others : L → Option (L × List L) → Option (L × List L)
  with_others l None = None
  with_others l (Some p) = Some (p.0, l ∷ p.1)

  abbrev pub first_by : ℕ → List L → Option (L × List L)
  first_by a [] = None
  first_by a (l ∷ ls) = if actor_of l == a then Some (l, ls) else with_others l (first_by a ls)
