-- Items at their indices, where one of them is changed.
use Rattle.case_store.proofs.Common.{[], ℕ, ◌++◌, ◌+◌, ◌<◌, ◌∙◌, ◌∷◌, ◌≡◌, ◌≢◌, ap, arith, changed_at, length, List, None, Option, option_map, put_back, refl, replicate, slice_get, Some, suc, zero}

module _ {X : Type 0} (f : X → X) where
  pub changed-later : (i : ℕ) (x : X) (xs : List X) → changed_at f (suc i) (x ∷ xs) ≡ x ∷ changed_at f i xs
  changed-later i x xs = go (slice_get xs i)
    where
      go : (o : Option X) → put_back f (suc i) (x ∷ xs) o ≡ x ∷ put_back f i xs o
      go None = refl
      go (Some y) = refl

  pub get-changed : (i : ℕ) (xs : List X) → slice_get (changed_at f i xs) i ≡ option_map f (slice_get xs i)
  get-changed zero [] = refl
  get-changed (suc i) [] = refl
  get-changed zero (x ∷ xs) = refl
  get-changed (suc i) (x ∷ xs) = ap (λ ys. slice_get ys (suc i)) (changed-later i x xs) ∙ get-changed i xs

  pub get-other : (i j : ℕ) (xs : List X) → j ≢ i → slice_get (changed_at f i xs) j ≡ slice_get xs j
  get-other zero j [] other = refl
  get-other (suc i) j [] other = refl
  get-other zero zero (x ∷ xs) other = absurd (other refl)
  get-other zero (suc j) (x ∷ xs) other = refl
  get-other (suc i) zero (x ∷ xs) other = ap (λ ys. slice_get ys 0) (changed-later i x xs)
  get-other (suc i) (suc j) (x ∷ xs) other = ap (λ ys. slice_get ys (suc j)) (changed-later i x xs) ∙ get-other i j xs (λ is. other (ap suc is))

  -- the item behind so many others
  pub changed-seam : (done : List X) (t : ℕ) (x : X) (rest : List X) → length done ≡ t → changed_at f t (done ++ x ∷ rest) ≡ done ++ f x ∷ rest
  changed-seam [] zero x rest is = refl
  changed-seam [] (suc t) x rest is = absurd (omega (arith, is))
  changed-seam (y ∷ done) zero x rest is = absurd (omega (arith, is))
  changed-seam (y ∷ done) (suc t) x rest is = changed-later t y (done ++ x ∷ rest) ∙ ap (λ ys. y ∷ ys) (changed-seam done t x rest (omega (arith, is)))

module _ {X : Type 0} where
  pub get-replica : (n p : ℕ) (x : X) (rest : List X) → p < n → slice_get (replicate n x ++ rest) p ≡ Some x
  get-replica zero p x rest within = absurd (omega (arith, within))
  get-replica (suc n) zero x rest within = refl
  get-replica (suc n) (suc p) x rest within = get-replica n p x rest (omega (arith, within))

  pub get-behind : (n p : ℕ) (x : X) (rest : List X) → slice_get (replicate n x ++ rest) (n + p) ≡ slice_get rest p
  get-behind zero p x rest = ap (slice_get rest) (omega arith)
  get-behind (suc n) p x rest =
      let next : suc n + p ≡ suc (n + p) = omega arith in
      ap (slice_get (replicate (suc n) x ++ rest)) next ∙ get-behind n p x rest
