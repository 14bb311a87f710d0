-- What is owed in phases that have numbers, those in which nothing is owed left out.
use Rattle.std.specs.Prelude.{ℕ, ◌+◌, ◌==◌, List, [], ◌∷◌, ◌++◌, if◌then◌else◌}

abbrev pub numbered_from : {L : Type 0} → ℕ → List (List L) → List (ℕ × List L)
numbered_from i [] = []
numbered_from i ([] ∷ phases) = numbered_from (i + 1) phases
numbered_from i ((l ∷ ls) ∷ phases) = (i, l ∷ ls) ∷ numbered_from (i + 1) phases

-- one line more, in the last of the phases or in a later one
abbrev pub in_last : {L : Type 0} → ℕ → L → ℕ × List L → List (ℕ × List L)
in_last p l q = if q.0 == p then (q.0, q.1 ++ l ∷ []) ∷ [] else q ∷ (p, l ∷ []) ∷ []

abbrev pub with_line : {L : Type 0} → ℕ → L → List (ℕ × List L) → List (ℕ × List L)
with_line p l [] = (p, l ∷ []) ∷ []
with_line p l (q ∷ []) = in_last p l q
with_line p l (q ∷ r ∷ qs) = q ∷ with_line p l (r ∷ qs)

abbrev pub with_lines : {L : Type 0} → ℕ → List L → List (ℕ × List L) → List (ℕ × List L)
with_lines p [] qs = qs
with_lines p (l ∷ ls) qs = with_lines p ls (with_line p l qs)
