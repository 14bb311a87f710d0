-- The solution of a net's equations, by one pass in the order of a rank.
use Rattle.std.specs.Prelude.{ℕ, Bool, List, [], ◌∷◌, Option, Some, None, ◌==◌, if◌then◌else◌}
use Rattle.wsm_schema.specs.{Flat.card_at, Marks.Facts, declared.cards.Card.Card}
use Rattle.wsm_marks.specs.Timed.{Marking, Timed, eq_at}

-- another mark for a node
abbrev pub put_mark : ℕ → Timed → Marking → Marking
put_mark n x m k = if n == k then x else m k

-- the mark that its equation gives it, if it is one of the net
abbrev pub put_eq : List Card → Facts → ℕ → Option Card → Marking → Marking
put_eq cards f n None m = m
put_eq cards f n (Some c) m = put_mark n (eq_at cards f m c) m

-- one node after another
abbrev pub solve : List Card → Facts → List ℕ → Marking → Marking
solve cards f [] m = m
solve cards f (n ∷ ns) m = solve cards f ns (put_eq cards f n (card_at n cards) m)

-- the same for the nodes of a region alone
abbrev pub solve_inside : List Card → Facts → (ℕ → Bool) → List ℕ → Marking → Marking
solve_inside cards f inside [] m = m
solve_inside cards f inside (n ∷ ns) m = solve_inside cards f inside ns (if inside n then put_eq cards f n (card_at n cards) m else m)

-- the solution of a net
abbrev pub solution : List Card → List ℕ → Facts → Marking
solution cards rank f = solve cards f rank (λ _. None)
