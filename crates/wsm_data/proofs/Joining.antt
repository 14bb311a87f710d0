-- What two lists of numbers that ascend have together.
use Rattle.wsm_data.proofs.Common.{[], ℕ, ◌++◌, ◌+◌, ◌<◌, ◌||◌, ◌∙◌, ◌∷◌, ◌≡◌, ◌⊎◌, add-one, all-rows-map, AllBelow, AllRows, ap, append-nil, arith, Bool, drop, drop-cons, eqb, false, get_or, Holds, inl, InOrder, inr, is_one_of, length}
use Rattle.wsm_data.proofs.{Common.{List, lt_from, number, refl, rows-append, subst, suc, sym, true, zero}, Elements.{or_swap, or_group}, Merging.{all-above, above-less, has-last, order-last}}
use Rattle.wsm_schema.proofs.DocumentOrder.{one_of-append}

-- part of it, and what is left of both lists
pub record Joined (xs ys all front back : List ℕ) : Type 0 where
  pub members : (d : ℕ) → (is_one_of d all || (is_one_of d front || is_one_of d back)) ≡ (is_one_of d xs || is_one_of d ys)
  pub order : InOrder all
  pub below_first : AllBelow all front
  pub below_second : AllBelow all back
  pub first : InOrder front
  pub second : InOrder back

pub joined-none : (xs ys : List ℕ) → InOrder xs → InOrder ys → Joined xs ys [] xs ys
joined-none xs ys first second = record { members = λ d. refl; order = tt; below_first = tt; below_second = tt; first = first; second = second }

-- either list may be called the first
swapped : (xs ys all front back : List ℕ) → Joined xs ys all front back → Joined ys xs all back front
swapped xs ys all front back j = record {
  members = λ d. ap (λ b. is_one_of d all || b) (or_swap (is_one_of d back) (is_one_of d front)) ∙ j.members d ∙ or_swap (is_one_of d xs) (is_one_of d ys);
  order = j.order;
  below_first = j.below_second;
  below_second = j.below_first;
  first = j.second;
  second = j.first;
}

one-moved : (a e r b : Bool) → ((a || e) || (r || b)) ≡ (a || ((e || r) || b))
one-moved true e r b = refl
one-moved false e r b = sym (or_group e r b)

both-moved : (a e r o : Bool) → ((a || e) || (r || o)) ≡ (a || ((e || r) || (e || o)))
both-moved true e r o = refl
both-moved false true r o = refl
both-moved false false r o = refl

-- a list that ascends has one more at its end
with-last : (all rest : List ℕ) (x : ℕ) → AllBelow all (x ∷ rest) → InOrder (x ∷ rest) → AllBelow (all ++ x ∷ []) rest
with-last all rest x below order = rows-append _ all (x ∷ []) (all-rows-map _ _ (λ z above. above.1) all below) (all-above x rest order.0, tt)

lesser-taken : (xs ys all front back rest others : List ℕ) (x y : ℕ) → front ≡ x ∷ rest → back ≡ y ∷ others → x < y → Joined xs ys all front back → Joined xs ys (all ++ x ∷ []) rest back
lesser-taken xs ys all front back rest others x y is_front is_back less j =
    let order : InOrder (x ∷ rest) = subst InOrder is_front j.first in
    let second : InOrder (y ∷ others) = subst InOrder is_back j.second in
    let below : AllBelow all (x ∷ rest) = subst (AllBelow all) is_front j.below_first in
    let above : AllRows (λ z. x < z) back = subst (AllRows (λ z. x < z)) (sym is_back) (above-less x y others less (all-above y others second.0)) in
    record {
      members = λ d.
          ap (λ b. b || (is_one_of d rest || is_one_of d back)) (has-last d x all)
          ∙ one-moved (is_one_of d all) (eqb x d) (is_one_of d rest) (is_one_of d back)
          ∙ sym (ap (λ zs. is_one_of d all || (is_one_of d zs || is_one_of d back)) is_front)
          ∙ j.members d;
      order = order-last all x j.order (all-rows-map _ (λ z. z < x) (λ z more. more.0) all below);
      below_first = with-last all rest x below order;
      below_second = rows-append _ all (x ∷ []) j.below_second (above, tt);
      first = order.1;
      second = j.second;
    }

same-taken : (xs ys all front back rest others : List ℕ) (x y : ℕ) → front ≡ x ∷ rest → back ≡ y ∷ others → x ≡ y → Joined xs ys all front back → Joined xs ys (all ++ x ∷ []) rest others
same-taken xs ys all front back rest others x y is_front is_back same j =
    let back_is : back ≡ x ∷ others = is_back ∙ ap (λ k. k ∷ others) (sym same) in
    let order : InOrder (x ∷ rest) = subst InOrder is_front j.first in
    let second : InOrder (x ∷ others) = subst InOrder back_is j.second in
    let below : AllBelow all (x ∷ rest) = subst (AllBelow all) is_front j.below_first in
    let below_others : AllBelow all (x ∷ others) = subst (AllBelow all) back_is j.below_second in
    record {
      members = λ d.
          ap (λ b. b || (is_one_of d rest || is_one_of d others)) (has-last d x all)
          ∙ both-moved (is_one_of d all) (eqb x d) (is_one_of d rest) (is_one_of d others)
          ∙ sym (ap (λ zs. is_one_of d all || (is_one_of d zs || is_one_of d back)) is_front ∙ ap (λ zs. is_one_of d all || (is_one_of d (x ∷ rest) || is_one_of d zs)) back_is)
          ∙ j.members d;
      order = order-last all x j.order (all-rows-map _ (λ z. z < x) (λ z more. more.0) all below);
      below_first = with-last all rest x below order;
      below_second = with-last all others x below_others second;
      first = order.1;
      second = second.1;
    }

-- the same at places of both lists
module _ (xs ys all : List ℕ) (i j : ℕ) (lt : i < length xs) (within : j < length ys) (joined : Joined xs ys all (drop i xs) (drop j ys)) where
  pub join-first : get_or xs i 0 < get_or ys j 0 → Joined xs ys (all ++ get_or xs i 0 ∷ []) (drop (i + 1) xs) (drop j ys)
  join-first less = rw add-one (lesser-taken xs ys all (drop i xs) (drop j ys) (drop (suc i) xs) (drop (suc j) ys) (get_or xs i 0) (get_or ys j 0) (drop-cons xs i 0 lt) (drop-cons ys j 0 within) less joined)

  pub join-second : get_or ys j 0 < get_or xs i 0 → Joined xs ys (all ++ get_or ys j 0 ∷ []) (drop i xs) (drop (j + 1) ys)
  join-second less =
      let other : Joined ys xs (all ++ get_or ys j 0 ∷ []) (drop (suc j) ys) (drop i xs) =
      lesser-taken ys xs all (drop j ys) (drop i xs) (drop (suc j) ys) (drop (suc i) xs) (get_or ys j 0) (get_or xs i 0) (drop-cons ys j 0 within) (drop-cons xs i 0 lt) less (swapped xs ys all (drop i xs) (drop j ys) joined) in
      rw add-one (swapped ys xs (all ++ get_or ys j 0 ∷ []) (drop (suc j) ys) (drop i xs) other)

  pub join-both : get_or xs i 0 ≡ get_or ys j 0 → Joined xs ys (all ++ get_or xs i 0 ∷ []) (drop (i + 1) xs) (drop (j + 1) ys)
  join-both same =
      let new : Joined xs ys (all ++ get_or xs i 0 ∷ []) (drop (suc i) xs) (drop (suc j) ys) =
      same-taken xs ys all (drop i xs) (drop j ys) (drop (suc i) xs) (drop (suc j) ys) (get_or xs i 0) (get_or ys j 0) (drop-cons xs i 0 lt) (drop-cons ys j 0 within) same joined in
      let one : suc i ≡ i + 1 = omega arith in
      let other : suc j ≡ j + 1 = omega arith in
      subst (λ k. Joined xs ys (all ++ get_or xs i 0 ∷ []) (drop k xs) (drop (j + 1) ys)) one (subst (λ k. Joined xs ys (all ++ get_or xs i 0 ∷ []) (drop (suc i) xs) (drop k ys)) other new)

-- ---- where nothing is left of one list, all is there with the rest of the other
order-append : (xs ys : List ℕ) → InOrder xs → InOrder ys → AllBelow xs ys → InOrder (xs ++ ys)
order-append [] ys order second below = second
order-append (x ∷ xs) ys order second below =
    (rows-append _ xs ys order.0 (all-rows-map (λ y. x < y) _ (λ y less. lt_from (number x) (number y) (inl less)) ys below.0), order-append xs ys order.1 second below.1)

one-empty : (front back : List ℕ) → (front ≡ []) ⊎ (back ≡ []) → AllBelow front back
one-empty front back empty =
    elim empty [
      | inl none ↦ subst (λ zs. AllBelow zs back) (sym none) tt
      | inr none ↦ subst (AllBelow front) (sym none) (below-none front)
    ]
  where
    below-none : (zs : List ℕ) → AllBelow zs []
    below-none [] = tt
    below-none (z ∷ zs) = (tt, below-none zs)

pub joined-order : (xs ys all front back : List ℕ) → (front ≡ []) ⊎ (back ≡ []) → Joined xs ys all front back → InOrder ((all ++ front) ++ back)
joined-order xs ys all front back empty j =
    order-append (all ++ front) back (order-append all front j.order j.first j.below_first) j.second (rows-append _ all front j.below_second (one-empty front back empty))

pub joined-members : (xs ys all front back : List ℕ) → Joined xs ys all front back → Holds ((all ++ front) ++ back) (λ d. is_one_of d xs || is_one_of d ys)
joined-members xs ys all front back j d =
    one_of-append d (all ++ front) back ∙ ap (λ b. b || is_one_of d back) (one_of-append d all front) ∙ or_group (is_one_of d all) (is_one_of d front) (is_one_of d back) ∙ j.members d
