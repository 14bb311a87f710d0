-- The orders of a list, by exchanges of neighbours.
use Rattle.wsm_commute.proofs.Common.{[], ℕ, ◌<◌, ◌∷◌, arith, get_or, IsPermutation, length, List, set, subst, suc, swap, zero}
use Rattle.std.proofs.{lemmas.List.Sorted.IsPermutation-keeps, lemmas.List.Edits.swap_is}

-- one list is the other with neighbours exchanged, any number of times
pub data Reorder {X : Type 0} : List X → List X → Type 0 where
  same : (xs : List X) → Reorder xs xs
  under : (x : X) {xs ys : List X} → Reorder xs ys → Reorder (x ∷ xs) (x ∷ ys)
  exchange : (x y : X) (xs : List X) → Reorder (x ∷ y ∷ xs) (y ∷ x ∷ xs)
  joined : {xs ys zs : List X} → Reorder xs ys → Reorder ys zs → Reorder xs zs

module _ {X : Type 0} where
  -- an item comes to the front, and the first one takes its place
  pull : (x : X) (xs : List X) (j : ℕ) (d : X) → j < length xs → Reorder (x ∷ xs) (get_or xs j d ∷ set xs j x)
  pull x [] j d lt = absurd (omega (arith, lt))
  pull x (y ∷ ys) zero d lt = exchange x y ys
  pull x (y ∷ ys) (suc j) d lt = joined (exchange x y ys) (joined (under y (pull x ys j d (omega (arith, lt)))) (exchange y (get_or ys j d) (set ys j x)))

  sets : (xs : List X) (i j : ℕ) (d : X) → i < length xs → j < length xs → Reorder xs (set (set xs i (get_or xs j d)) j (get_or xs i d))
  sets [] i j d p q = same []
  sets (x ∷ xs) zero zero d p q = same (x ∷ xs)
  sets (x ∷ xs) zero (suc j) d p q = pull x xs j d (omega (arith, q))
  sets (x ∷ xs) (suc i) zero d p q = pull x xs i d (omega (arith, p))
  sets (x ∷ xs) (suc i) (suc j) d p q = under x (sets xs i j d (omega (arith, p)) (omega (arith, q)))

  swapped : (xs : List X) (i j : ℕ) → i < length xs → j < length xs → Reorder xs (swap xs i j)
  swapped [] i j p q = same []
  swapped (x ∷ xs) i j p q = subst (Reorder (x ∷ xs)) (swap_is (x ∷ xs) i j x p q) (sets (x ∷ xs) i j x p q)

  -- each order is reached
  pub reordered : (xs ys : List X) → IsPermutation xs ys → Reorder xs ys
  reordered xs ys h = IsPermutation-keeps xs (Reorder xs) (same xs) (λ l i j p q r. joined r (swapped l i j p q)) ys h
