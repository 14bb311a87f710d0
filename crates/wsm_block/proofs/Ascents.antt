-- Of numbers that ascend none stands twice.
use Rattle.wsm_block.proofs.Common.{[], ℕ, ◌+◌, ◌<◌, ◌∙◌, ◌∷◌, ◌≡◌, ◌≤◌, add-one, AllRows, and_parts, ap, arith, ascend_from, drop, drop-cons, drop_of_length-le, false, get_or, get_or-map, is_above, is_one_of, length, length-map, List}
use Rattle.wsm_block.proofs.Common.{ltb-true, map, nat_lt, ne_eqb, None, Option, refl, Some, subst, sym, true, twice}

-- a number above all that were seen is none of them
above-all : (n m : ℕ) (seen : List ℕ) → n < m → AllRows (λ s. s ≤ n) seen → is_one_of m seen ≡ false
above-all n m [] less rows = refl
above-all n m (s ∷ seen) less rows = let low = rows.0 in rw (ne_eqb s m (omega (arith, low, less))) (above-all n m seen less rows.1)

below-next : (n m : ℕ) (seen : List ℕ) → n < m → AllRows (λ s. s ≤ n) seen → AllRows (λ s. s ≤ m) seen
below-next n m [] less rows = tt
below-next n m (s ∷ seen) less rows = let low = rows.0 in (omega (arith, low, less), below-next n m seen less rows.1)

ascending-fresh : (n : ℕ) (ns seen : List ℕ) → AllRows (λ s. s ≤ n) seen → ascend_from (Some n) ns ≡ true → twice seen ns ≡ None
ascending-fresh n [] seen rows up = refl
ascending-fresh n (m ∷ ms) seen rows up =
    let parts = and_parts (nat_lt n m) (ascend_from (Some m) ms) up in
    let less : n < m = ltb-true n m parts.0 in
    rw (above-all n m seen less rows) (ascending-fresh m ms (m ∷ seen) (omega arith, below-next n m seen less rows) parts.1)

pub ascending-once : (ns : List ℕ) → ascend_from None ns ≡ true → twice [] ns ≡ None
ascending-once [] up = refl
ascending-once (n ∷ ns) up = ascending-fresh n ns (n ∷ []) (omega arith, tt) up

-- the numbers of rows, one after another
module _ {X : Type 0} (key : X → ℕ) (xs : List X) (i : ℕ) (last : Option ℕ) where
  module _ (d : X) (lt : i < length xs) where
    rest-at : drop i (map key xs) ≡ key (get_or xs i d) ∷ drop (i + 1) (map key xs)
    rest-at =
        let within : i < length (map key xs) = subst (λ n. i < n) (sym (length-map xs key)) lt in
        drop-cons (map key xs) i 0 within
        ∙ ap (λ n. n ∷ drop (ℕ.suc i) (map key xs)) (get_or-map key xs i d 0 lt)
        ∙ ap (λ j. key (get_or xs i d) ∷ drop j (map key xs)) (sym (add-one i))

    pub ascends-next : is_above last (key (get_or xs i d)) ≡ true → ascend_from (Some (key (get_or xs i d))) (drop (i + 1) (map key xs)) ≡ ascend_from last (drop i (map key xs))
    ascends-next above = sym (ap (ascend_from last) rest-at ∙ rw above refl)

    pub ascends-stops : is_above last (key (get_or xs i d)) ≡ false → false ≡ ascend_from last (drop i (map key xs))
    ascends-stops below = sym (ap (ascend_from last) rest-at ∙ rw below refl)

  pub ascends-end : length xs ≤ i → true ≡ ascend_from last (drop i (map key xs))
  ascends-end le =
      let all : length (map key xs) ≤ i = subst (λ n. n ≤ i) (sym (length-map xs key)) le in
      sym (ap (ascend_from last) (drop_of_length-le (map key xs) all))
