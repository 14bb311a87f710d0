-- Calls of the cells in front of a row.
use Rattle.adept_server.proofs.Common.{[], ℕ, ◌++◌, ◌+◌, ◌<◌, ◌∙◌, ◌∷◌, ◌≡◌, ◌≤◌, ◌⊎◌, ap, AreCalled, AreOf, arith, CallEach, CallFault, Cell, drop, drop-map, drop_all, drop_min, Err, IfOk, inl, inr, IsAnswered, length, length-append, List}
use Rattle.adept_server.proofs.{Common.{map, map-append, min, Pass, PassView, refl, Result, slice_get, Some, subst, suc, sym, take, take-append-drop, take_all, take_min, view_of, zero}, Short.each-even}
use Rattle.turn_cell.specs.declared.faults.CallFault.TheVariants.{NoMemory}

module _ {X : Type 0} where
  -- a list whose front is another's is cut as it was
  take-front : (n : ℕ) (xs front : List X) → length front ≡ min n (length xs) → take n (front ++ drop n xs) ≡ front
  take-front zero xs [] even = refl
  take-front zero xs (y ∷ front) even = absurd (omega (arith, even))
  take-front (suc n) [] [] even = refl
  take-front (suc n) [] (y ∷ front) even = absurd (omega (arith, even))
  take-front (suc n) (x ∷ xs) [] even = absurd (omega (arith, even))
  take-front (suc n) (x ∷ xs) (y ∷ front) even = ap (λ ys. y ∷ ys) (take-front n xs front (omega (arith, even)))

  drop-front : (n : ℕ) (xs front : List X) → length front ≡ min n (length xs) → drop n (front ++ drop n xs) ≡ drop n xs
  drop-front zero xs [] even = refl
  drop-front zero xs (y ∷ front) even = absurd (omega (arith, even))
  drop-front (suc n) [] [] even = refl
  drop-front (suc n) [] (y ∷ front) even = absurd (omega (arith, even))
  drop-front (suc n) (x ∷ xs) [] even = absurd (omega (arith, even))
  drop-front (suc n) (x ∷ xs) (y ∷ front) even = drop-front n xs front (omega (arith, even))

  -- what is behind stays where it was
  pub others-stay : (many n : ℕ) (xs front : List X) → n ≡ min many (length xs) → length front ≡ n → drop many (front ++ drop n xs) ≡ drop many xs
  others-stay many n xs front is even =
      let rest = ap (λ i. drop i xs) is ∙ drop_min many xs in
      ap (λ ys. drop many (front ++ ys)) rest ∙ drop-front many xs front (even ∙ is)

  front-is : (many n : ℕ) (xs front : List X) → n ≡ min many (length xs) → length front ≡ n → take many (front ++ drop n xs) ≡ front
  front-is many n xs front is even =
      let rest = ap (λ i. drop i xs) is ∙ drop_min many xs in
      ap (λ ys. take many (front ++ ys)) rest ∙ take-front many xs front (even ∙ is)

module _ {M E R W S : Type 0} {g : _} where
  -- the passes in front are of the cells in front
  pub front-of : (n : ℕ) (cs : List (Cell M E R W S)) (ps : List (Pass M E R W S g)) → AreOf cs ps → AreOf (take n cs) (take n ps)
  front-of zero cs ps k = tt
  front-of (suc n) [] [] k = tt
  front-of (suc n) [] (p ∷ ps) k = absurd k
  front-of (suc n) (c ∷ cs) [] k = absurd k
  front-of (suc n) (c ∷ cs) (p ∷ ps) k = (k.0, front-of n cs ps k.1)

  -- other passes of the cells in front, and those behind
  pub front-put : (n : ℕ) (cs : List (Cell M E R W S)) (ps qs : List (Pass M E R W S g)) → AreOf cs ps → AreOf (take n cs) qs → AreOf cs (qs ++ drop n ps)
  front-put zero cs ps [] k new = k
  front-put zero cs ps (q ∷ qs) k new = absurd new
  front-put (suc n) [] [] [] k new = tt
  front-put (suc n) [] [] (q ∷ qs) k new = absurd new
  front-put (suc n) [] (p ∷ ps) qs k new = absurd k
  front-put (suc n) (c ∷ cs) [] qs k new = absurd k
  front-put (suc n) (c ∷ cs) (p ∷ ps) [] k new = absurd new
  front-put (suc n) (c ∷ cs) (p ∷ ps) (q ∷ qs) k new = (new.0, front-put n cs ps qs k.1 new.1)

  -- a row whose passes behind stayed where they were
  pub row_cut : (many : ℕ) (ps row : List (Pass M E R W S g)) → drop many row ≡ drop many ps → map view_of row ≡ map view_of (take many row) ++ drop many (map view_of ps)
  row_cut many ps row same =
      ap (map view_of) (sym (take-append-drop many row)) ∙ (map-append view_of (take many row) (drop many row) ∙ ap (λ vs. map view_of (take many row) ++ vs) (ap (map view_of) same ∙ sym (drop-map view_of many ps)))

module _ {M E R W S : Type 0} (after : S → E → S) (reply : S → E → R) (event : E) where
  -- a batch of calls with the passes in front
  pub first_called : {g : _} {X Y : Type 0} (f : X → List (Result R CallFault)) (o : Result X Y) (many n : ℕ) (ps front : List (Pass M E R W S g)) → n ≡ min many (length ps) → length front ≡ n
      → IfOk o (λ a. AreCalled after reply event (take n ps) (f a) front) → IfOk o (λ a. AreCalled after reply event (take many ps) (f a) (take many (front ++ drop n ps)))
  first_called f o many n ps front is even k =
      subst (λ qs. IfOk o (λ a. AreCalled after reply event (take many ps) (f a) qs)) (sym (front-is many n ps front is even))
      (subst (λ xs. IfOk o (λ a. AreCalled after reply event xs (f a) front)) (ap (λ i. take i ps) is ∙ take_min many ps) k)

  -- as many passes as before
  pub first-even : (many : ℕ) (answers : List (Result R CallFault)) (ps front : List (PassView M E R W S)) → CallEach after reply event (take many ps) answers front → length (front ++ drop many ps) ≡ length ps
  first-even many answers ps front k =
      length-append front (drop many ps) ∙ (ap (λ n. n + length (drop many ps)) (each-even after reply event (take many ps) answers front k) ∙ (sym (length-append (take many ps) (drop many ps)) ∙ ap length (take-append-drop many ps)))

  -- each pass behind it is as before, or has called
  pub first_behind : (many : ℕ) (answers : List (Result R CallFault)) (ps front : List (PassView M E R W S)) → CallEach after reply event (take many ps) answers front
      → (j : ℕ) (q : PassView M E R W S) → slice_get (front ++ drop many ps) j ≡ Some q → (p : PassView M E R W S) × (a : Result R CallFault) × (slice_get ps j ≡ Some p) × ((q ≡ p) ⊎ ((j < many) × IsAnswered after reply event p a q))
  first_behind zero [] ps [] k j q is = (q, Err NoMemory, is, inl refl)
  first_behind zero [] ps (r ∷ front) k j q is = absurd k
  first_behind zero (a ∷ answers) ps front k j q is = absurd k
  first_behind (suc many) [] [] [] k j q is = absurd (cc (is))
  first_behind (suc many) [] [] (r ∷ front) k j q is = absurd k
  first_behind (suc many) (a ∷ answers) [] front k j q is = absurd k
  first_behind (suc many) [] (p ∷ ps) front k j q is = absurd k
  first_behind (suc many) (a ∷ answers) (p ∷ ps) [] k j q is = absurd k
  first_behind (suc many) (a ∷ answers) (p ∷ ps) (r ∷ front) k zero q is = (p, a, refl, inr (omega arith, (let same : r ≡ q = cc (is) in subst (IsAnswered after reply event p a) same k.0)))
  first_behind (suc many) (a ∷ answers) (p ∷ ps) (r ∷ front) k (suc j) q is =
      let b = first_behind many answers ps front k.2 j q is in
      (b.0, b.1, b.2, elim b.3 [ inl s ↦ inl s | inr s ↦ inr (omega (arith, s.0), s.1) ])

-- where a list has no more items, all of them are in front
pub all_in_front : {X : Type 0} (many : ℕ) (xs : List X) → length xs ≤ many → (take many xs ≡ take (length xs) xs) × (drop many xs ≡ drop (length xs) xs)
all_in_front many xs within = (take_all many xs within ∙ sym (take_all (length xs) xs (omega arith)), drop_all many xs within ∙ sym (drop_all (length xs) xs (omega arith)))
