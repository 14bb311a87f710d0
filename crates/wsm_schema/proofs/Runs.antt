-- The rows of one number, among rows in the order of their numbers, are a run.
use Rattle.wsm_schema.proofs.Common.{[], ℕ, ◌&&◌, ◌+◌, ◌-◌, ◌<◌, ◌∙◌, ◌∷◌, ◌≡◌, ◌≤◌, ◌⊎◌, and_parts, ap, arith, Bool, both_ways, Card, card_at, cases_Bool, cases_order, cond, eq-eqb, eqb, eqb-false, eqb-true, false, filter, get_or}
use Rattle.wsm_schema.proofs.Common.{has_number, inl, inr, is_one_of, IsEnd, IsStart, le-ltb, leb, leb-false, leb-true, length, List, lt-ltb, ltb, ltb-false, ltb-true, ne_eqb, nodes_of, None, not, numbered, Option, option_map, placed}
use Rattle.wsm_schema.proofs.Common.{position_from, refl, reversed, rows_with, SameGroups, slice_get, slice_range, Some, starts_at, suc, sym, take, true, zero}
use Rattle.std.specs.{Prelude.map, List.Sorted.{IsNonDecreasingBy, IsPartitionPoint, IsStableByKey, ties}, Ordering.{nat_cmp, is_lt}}
use Rattle.std.proofs.lemmas.Option.{slice_get_within, get_or_from_slice_get, slice_get-get_or}

module _ {A : Type 0} (n : ℕ) where
  start-later : (x : ℕ × A) (xs : List (ℕ × A)) (i : ℕ) → IsStart n (x ∷ xs) (suc i) → IsStart n xs i
  start-later x xs i p = ((λ k d a b. p.0 (suc k) d (omega arith) (omega (arith, b))), (λ k d a b. p.1 (suc k) d (omega (arith, a)) (omega (arith, b))))

  start-first : (x : ℕ × A) (xs : List (ℕ × A)) → IsStart n (x ∷ xs) zero → IsStart n xs zero
  start-first x xs p = ((λ k d a b. absurd (omega (arith, b))), (λ k d a b. p.1 (suc k) d (omega arith) (omega (arith, b))))

  end-later : (x : ℕ × A) (xs : List (ℕ × A)) (i : ℕ) → IsEnd n (x ∷ xs) (suc i) → IsEnd n xs i
  end-later x xs i p = ((λ k d a b. p.0 (suc k) d (omega arith) (omega (arith, b))), (λ k d a b. p.1 (suc k) d (omega (arith, a)) (omega (arith, b))))

  end-first : (x : ℕ × A) (xs : List (ℕ × A)) → IsEnd n (x ∷ xs) zero → IsEnd n xs zero
  end-first x xs p = ((λ k d a b. absurd (omega (arith, b))), (λ k d a b. p.1 (suc k) d (omega arith) (omega (arith, b))))

  crossed : (x : ℕ × A) (xs : List (ℕ × A)) (i : ℕ) → IsStart n (x ∷ xs) (suc i) → IsEnd n (x ∷ xs) zero → ⊥
  crossed x xs i p q = let low = p.0 0 x (omega arith) (omega arith) in let high = q.1 0 x (omega arith) (omega arith) in omega (arith, low, high)

  pub run-order : (xs : List (ℕ × A)) (i j : ℕ) → i ≤ length xs → IsStart n xs i → IsEnd n xs j → i ≤ j
  run-order xs zero j le p q = omega arith
  run-order [] (suc i) j le p q = absurd (omega (arith, le))
  run-order (x ∷ xs) (suc i) zero le p q = absurd (crossed x xs i p q)
  run-order (x ∷ xs) (suc i) (suc j) le p q = omega (arith, run-order xs i j (omega (arith, le)) (start-later x xs i p) (end-later x xs j q))

  pub run-is : (xs : List (ℕ × A)) (i j : ℕ) → i ≤ length xs → j ≤ length xs → IsStart n xs i → IsEnd n xs j → slice_range xs i j ≡ rows_with n xs
  run-is [] zero zero le le' p q = refl
  run-is [] zero (suc j) le le' p q = absurd (omega (arith, le'))
  run-is [] (suc i) j le le' p q = absurd (omega (arith, le))
  run-is (x ∷ xs) (suc i) zero le le' p q = absurd (crossed x xs i p q)
  run-is (x ∷ xs) (suc i) (suc j) le le' p q =
      let low = p.0 0 x (omega arith) (omega arith) in
      let other : eqb x.0 n ≡ false = ne_eqb x.0 n (omega (arith, low)) in
      let width : suc j - suc i ≡ j - i = omega arith in
      rw (other, width) (run-is xs i j (omega (arith, le)) (omega (arith, le')) (start-later x xs i p) (end-later x xs j q))
  run-is (x ∷ xs) zero zero le le' p q =
      let high = q.1 0 x (omega arith) (omega arith) in
      let other : eqb x.0 n ≡ false = ne_eqb x.0 n (omega (arith, high)) in
      rw other (run-is xs zero zero (omega arith) (omega arith) (start-first x xs p) (end-first x xs q))
  run-is (x ∷ xs) zero (suc j) le le' p q =
      let low = p.1 0 x (omega arith) (omega arith) in
      let high = q.0 0 x (omega arith) (omega arith) in
      let same : eqb x.0 n ≡ true = eq-eqb x.0 n (omega (arith, low, high)) in
      let width : suc j - 0 ≡ suc j = omega arith in
      let width' : j - 0 ≡ j = omega arith in
      let rest : take j xs ≡ rows_with n xs = rw width' at (run-is xs zero j (omega arith) (omega (arith, le')) (start-first x xs p) (end-later x xs j q)) in
      rw (same, width) (ap (λ ys. x ∷ ys) rest)

  none-above : (xs : List (ℕ × A)) → ((k : ℕ) (d : ℕ × A) → k < length xs → n < (get_or xs k d).0) → rows_with n xs ≡ []
  none-above [] above = refl
  none-above (x ∷ xs) above =
      let high : n < x.0 = above 0 x (omega arith) in
      let other : eqb x.0 n ≡ false = ne_eqb x.0 n (omega (arith, high)) in
      rw other (none-above xs (λ k d lt. above (suc k) d (omega (arith, lt))))

  -- a row, where it has the number
  abbrev pub row_of : Option (ℕ × A) → Option (ℕ × A)
  row_of None = None
  row_of (Some r) = cond (eqb r.0 n) (Some r) None

  pub first-at_start : (xs : List (ℕ × A)) (i : ℕ) → IsNonDecreasingBy (λ (r : ℕ × A). r.0) xs → IsStart n xs i → row_of (slice_get xs i) ≡ slice_get (rows_with n xs) 0
  first-at_start [] i order p = refl
  first-at_start (x ∷ xs) (suc i) order p =
      let low = p.0 0 x (omega arith) (omega arith) in
      let other : eqb x.0 n ≡ false = ne_eqb x.0 n (omega (arith, low)) in
      let later : IsNonDecreasingBy (λ (r : ℕ × A). r.0) xs = λ j k d le lt. order (suc j) (suc k) d (omega (arith, le)) (omega (arith, lt)) in
      rw other (first-at_start xs i later (start-later x xs i p))
  first-at_start (x ∷ xs) zero order p =
      elim (cases_Bool (eqb x.0 n)) [
        | inl same ↦ rw same refl
        | inr other ↦
            let from : n ≤ x.0 = p.1 0 x (omega arith) (omega arith) in
            let above : (k : ℕ) (d : ℕ × A) → k < length xs → n < (get_or xs k d).0 =
            λ k d lt.
            let up : x.0 ≤ (get_or xs k d).0 = order 0 (suc k) d (omega arith) (omega (arith, lt)) in
            omega (arith, from, up, eqb-false x.0 n other)
            in
            rw other (sym (ap (λ rows. slice_get rows 0) (none-above xs above)))
      ]

  -- what tests by booleans say of places
  pub start-from_tests : (xs : List (ℕ × A)) (i : ℕ) → IsPartitionPoint (λ (r : ℕ × A). ltb r.0 n ≡ true) (λ (r : ℕ × A). ltb r.0 n ≡ false) xs i → IsStart n xs i
  start-from_tests xs i p = ((λ k d a b. ltb-true _ n (p.0 k d a b)), (λ k d a b. ltb-false _ n (p.1 k d a b)))

  row-there : (o : Option (ℕ × A)) → has_number n o ≡ true → (r : ℕ × A) × (o ≡ Some r) × (r.0 ≡ n)
  row-there None h = absurd (cc)
  row-there (Some r) h = (r, refl, eqb-true r.0 n h)

  none-there : (o : Option (ℕ × A)) (r : ℕ × A) → not (has_number n o) ≡ true → o ≡ Some r → eqb r.0 n ≡ false
  none-there o r h is = off (eqb r.0 n) (rw is at h)
    where
      off : (b : Bool) → not b ≡ true → b ≡ false
      off true h = absurd (cc)
      off false h = refl

  from-row : (xs : List (ℕ × A)) (i : ℕ) (r : ℕ × A) → IsNonDecreasingBy (λ (r : ℕ × A). r.0) xs → slice_get xs i ≡ Some r → r.0 ≡ n → (k : ℕ) (d : ℕ × A) → i ≤ k → k < length xs → n ≤ (get_or xs k d).0
  from-row xs i r order is same k d a b =
      let up = order i k d a b in
      let here = ap (λ (x : ℕ × A). x.0) (get_or_from_slice_get xs i r d is) in
      omega (arith, up, here, same)

  -- where a row has the number and the one before it has not, the rows of smaller numbers end
  pub start-from_row : (xs : List (ℕ × A)) (i : ℕ) → IsNonDecreasingBy (λ (r : ℕ × A). r.0) xs → starts_at n xs i ≡ true → IsStart n xs i
  start-from_row xs zero order here =
      let row = row-there (slice_get xs 0) here in
      ((λ k d a b. absurd (omega (arith, b))), from-row xs 0 row.0 order row.1 row.2)
  start-from_row xs (suc i) order here =
      let parts = and_parts _ _ here in
      let row = row-there (slice_get xs (suc i)) parts.0 in
      let within = slice_get_within xs (suc i) row.0 row.1 in
      let before : (k : ℕ) (d : ℕ × A) → k < suc i → (get_or xs k d).0 < n =
      λ k d lt.
      let up = order k i d (omega (arith, lt)) (omega (arith, within)) in
      let next = order i (suc i) d (omega arith) within in
      let there = ap (λ (x : ℕ × A). x.0) (get_or_from_slice_get xs (suc i) row.0 d row.1) in
      let other = eqb-false _ n (none-there (slice_get xs i) (get_or xs i d) parts.1 (slice_get-get_or xs i d (omega (arith, within)))) in
      omega (arith, up, next, there, row.2, other)
      in
      ((λ k d a b. before k d b), from-row xs (suc i) row.0 order row.1 row.2)

  pub place-within : (xs : List (ℕ × A)) (i : ℕ) → starts_at n xs i ≡ true → i ≤ length xs
  place-within xs zero here = omega arith
  place-within xs (suc i) here =
      let row = row-there (slice_get xs (suc i)) (and_parts _ _ here).0 in
      omega (arith, slice_get_within xs (suc i) row.0 row.1)

  pub starts_behind : (xs : List (ℕ × A)) (i : ℕ) → (i ≡ 0 → ⊥) → starts_at n xs i ≡ (has_number n (slice_get xs i) && not (has_number n (slice_get xs (i - 1))))
  starts_behind xs zero other = absurd (other refl)
  starts_behind xs (suc i) other = ap (λ k. has_number n (slice_get xs (suc i)) && not (has_number n (slice_get xs k))) (omega arith)

  pub end-from_tests : (xs : List (ℕ × A)) (i : ℕ) → IsPartitionPoint (λ (r : ℕ × A). leb r.0 n ≡ true) (λ (r : ℕ × A). leb r.0 n ≡ false) xs i → IsEnd n xs i
  end-from_tests xs i p = ((λ k d a b. leb-true _ n (p.0 k d a b)), (λ k d a b. leb-false _ n (p.1 k d a b)))

-- two numbers tie where they are equal
ties-number : (a b : ℕ) → (not (is_lt (nat_cmp a b)) && not (is_lt (nat_cmp b a))) ≡ eqb b a
ties-number a b =
    elim (cases_order a b) [
      | inl same ↦ rw (le-ltb a b (omega arith), le-ltb b a (omega arith), eq-eqb a b same, eq-eqb b a (sym same)) refl
      | inr (inl less) ↦ rw (lt-ltb a b less, ne_eqb b a (omega arith)) refl
      | inr (inr more) ↦ rw (le-ltb a b (omega arith), lt-ltb b a more, ne_eqb a b (omega arith), ne_eqb b a (omega arith)) refl
    ]

passes : {X : Type 0} (p : X → Bool) (xs : List X) (y : X) (rest : List X) → filter p xs ≡ y ∷ rest → p y ≡ true
passes p [] y rest e = absurd (cc)
passes p (x ∷ xs) y rest e =
    elim (cases_Bool (p x)) [
      | inl yes_it ↦ let q : x ∷ filter p xs ≡ y ∷ rest = rw yes_it at e in let same : x ≡ y = cc in ap p (sym same) ∙ yes_it
      | inr other ↦ passes p xs y rest (rw other at e)
    ]

-- a stable sort by the first number leaves the rows of each number as they were
module _ {A : Type 0} (xs ys : List (ℕ × A)) (stable : IsStableByKey (λ (r : ℕ × A). r.0) nat_cmp xs ys) where
  same_at : (x : ℕ × A) → rows_with x.0 ys ≡ rows_with x.0 xs
  same_at x =
      let test : (λ (r : ℕ × A). eqb r.0 x.0) ≡ ties (λ (a b : ℕ × A). is_lt (nat_cmp a.0 b.0)) x = λ i r. sym (ties-number x.0 r.0) i in
      ap (λ p. filter p ys) test ∙ stable x ∙ ap (λ p. filter p xs) (sym test)

  group : (n : ℕ) (fs gs : List (ℕ × A)) → rows_with n xs ≡ fs → rows_with n ys ≡ gs → rows_with n ys ≡ rows_with n xs
  group n [] [] e h = h ∙ sym e
  group n (f ∷ fs) gs e h =
      let here : f.0 ≡ n = eqb-true f.0 n (passes (λ (r : ℕ × A). eqb r.0 n) xs f fs e) in
      rw (sym here) (same_at f)
  group n [] (g ∷ gs) e h =
      let here : g.0 ≡ n = eqb-true g.0 n (passes (λ (r : ℕ × A). eqb r.0 n) ys g gs h) in
      rw (sym here) (same_at g)

  pub sorted-groups : SameGroups xs ys
  sorted-groups = record { same = λ n. group n (rows_with n xs) (rows_with n ys) refl refl }

-- the edges into a node, among the reversed edges
pub sources-reversed : (n : ℕ) (edges : List (ℕ × ℕ)) → map (λ e. e.1) (rows_with n (reversed edges)) ≡ map (λ e. e.0) (filter (λ e. eqb e.1 n) edges)
sources-reversed n [] = refl
sources-reversed n (e ∷ es) =
    elim (cases_Bool (eqb e.1 n)) [
      | inl here ↦ rw here (ap (λ ns. e.0 ∷ ns) (sources-reversed n es))
      | inr other ↦ rw other (sources-reversed n es)
    ]

-- the first row of a node, among numbered cards, has the place of the node's first card
pub place-numbered : (n start : ℕ) (cards : List Card) →
    option_map (λ r. r.1) (slice_get (rows_with n (numbered start cards)) 0) ≡ position_from (λ c. eqb c.node n) start cards
place-numbered n start [] = refl
place-numbered n start (c ∷ cs) =
    elim (cases_Bool (eqb c.node n)) [
      | inl here ↦ rw here refl
      | inr other ↦ rw other (place-numbered n (start + 1) cs)
    ]

-- the same of a list of nodes
pub place-placed : (n start : ℕ) (nodes : List ℕ) → option_map (λ (r : ℕ × ℕ). r.1) (slice_get (rows_with n (placed start nodes)) 0) ≡ position_from (λ k. eqb k n) start nodes
place-placed n start [] = refl
place-placed n start (k ∷ ks) =
    elim (cases_Bool (eqb k n)) [
      | inl here ↦ rw here refl
      | inr other ↦ rw other (place-placed n (start + 1) ks)
    ]

-- and that card stands there
card-from : (n start : ℕ) (cards : List Card) →
    ((position_from (λ c. eqb c.node n) start cards ≡ None) × (card_at n cards ≡ None))
    ⊎ ((k : ℕ) × (position_from (λ c. eqb c.node n) start cards ≡ Some (start + k)) × (slice_get cards k ≡ card_at n cards))
card-from n start [] = inl (refl, refl)
card-from n start (c ∷ cs) =
    elim (cases_Bool (eqb c.node n)) [
      | inl here ↦ let place : start ≡ start + 0 = omega arith in inr (0, rw here (ap Some place), rw here refl)
      | inr other ↦
          elim (card-from n (start + 1) cs) [
            | inl none ↦ inl (rw other none.0, rw other none.1)
            | inr found ↦
                let place : (start + 1) + found.0 ≡ start + suc found.0 = omega arith in
                inr (suc found.0, rw other (found.1 ∙ ap Some place), rw other found.2)
          ]
    ]

pub no_card-placed : (n : ℕ) (cards : List Card) → position_from (λ c. eqb c.node n) 0 cards ≡ None → card_at n cards ≡ None
no_card-placed n cards none =
    elim (card-from n 0 cards) [
      | inl absent ↦ absent.1
      | inr found ↦ let bad : Some (0 + found.0) ≡ None = sym found.1 ∙ none in absurd (cc)
    ]

pub card-placed : (n : ℕ) (cards : List Card) (place : ℕ) → position_from (λ c. eqb c.node n) 0 cards ≡ Some place → slice_get cards place ≡ card_at n cards
card-placed n cards place some =
    elim (card-from n 0 cards) [
      | inl absent ↦ let bad : None ≡ Some place = sym absent.0 ∙ some in absurd (cc)
      | inr found ↦
          let same : Some (0 + found.0) ≡ Some place = sym found.1 ∙ some in
          let here : 0 + found.0 ≡ place = cc in
          let there : place ≡ found.0 = omega (arith, here) in
          ap (slice_get cards) there ∙ found.2
    ]

-- the node at that place
node-from : (n start : ℕ) (cards : List Card) (place : ℕ) → position_from (λ c. eqb c.node n) start cards ≡ Some place →
    (k : ℕ) × (place ≡ start + k) × (k < length cards) × (get_or (nodes_of cards) k 0 ≡ n)
node-from n start [] place some = absurd (cc)
node-from n start (c ∷ cs) place some =
    elim (cases_Bool (eqb c.node n)) [
      | inl here ↦
          let same : Some start ≡ Some place = rw here at some in
          let first : start ≡ place = cc in
          (0, omega (arith, first), omega arith, eqb-true c.node n here)
      | inr other ↦
          let later = node-from n (start + 1) cs place (rw other at some) in
          (suc later.0, omega (arith, later.1), omega (arith, later.2), later.3)
    ]

pub node-placed : (n : ℕ) (cards : List Card) (place : ℕ) → position_from (λ c. eqb c.node n) 0 cards ≡ Some place →
    (place < length cards) × (get_or (nodes_of cards) place 0 ≡ n)
node-placed n cards place some =
    let there = node-from n 0 cards place some in
    let same : place ≡ there.0 = omega (arith, there.1) in
    (omega (arith, same, there.2), ap (λ k. get_or (nodes_of cards) k 0) same ∙ there.3)

pub node-not_placed : (n start : ℕ) (cards : List Card) → position_from (λ c. eqb c.node n) start cards ≡ None → is_one_of n (nodes_of cards) ≡ false
node-not_placed n start [] none = refl
node-not_placed n start (c ∷ cs) none =
    elim (cases_Bool (eqb c.node n)) [
      | inl here ↦ absurd (let bad : Some start ≡ None = rw here at none in cc)
      | inr other ↦ rw other (node-not_placed n (start + 1) cs (rw other at none))
    ]
