-- What is owed, without the phases in which nothing is.
use Rattle.std.specs.Prelude.{List, [], ◌∷◌}

abbrev pub filled : {L : Type 0} → List (List L) → List (List L)
filled [] = []
filled ([] ∷ phases) = filled phases
filled ((l ∷ ls) ∷ phases) = (l ∷ ls) ∷ filled phases
