-- What two lists of numbers that ascend share.
use Rattle.wsm_data.proofs.Common.{[], ℕ, ◌&&◌, ◌++◌, ◌+◌, ◌-◌, ◌<◌, ◌||◌, ◌∙◌, ◌∷◌, ◌≡◌, ◌≤◌, add-one, all-rows-map, AllBelow, AllRows, ap, arith, Bool, cases_Bool, cond, drop, drop-cons, eqb, eqb-true, false, find, get_or, Holds, inl}
use Rattle.wsm_data.proofs.{Common.{InOrder, inr, is_one_of, key_lt, length, List, lt_from, lt_means, ne_eqb, None, number, Option, refl, rows-append, rows-swap, Some, subst, suc, sym, true, zero}, Elements.{or_swap, or_group, and_false}}

-- ---- numbers that stand above another
pub less_of : (x y : ℕ) → key_lt (number x) (number y) ≡ true → x < y
less_of x y h = elim (lt_means (number x) (number y) h) [ inl less ↦ less | inr same ↦ absurd (let none = same.1 in omega (arith, none)) ]

pub all-above : (x : ℕ) (ys : List ℕ) → AllRows (λ y. key_lt (number x) (number y) ≡ true) ys → AllRows (λ y. x < y) ys
all-above x ys h = all-rows-map _ (λ y. x < y) (λ y less. less_of x y less) ys h

pub above-less : (x y : ℕ) (zs : List ℕ) → x < y → AllRows (λ z. y < z) zs → AllRows (λ z. x < z) (y ∷ zs)
above-less x y zs less h = (less, all-rows-map _ (λ z. x < z) (λ z more. omega (arith, less, more)) zs h)

-- a number that is below all, or above all, is none of them
pub absent-below : (x : ℕ) (ys : List ℕ) → AllRows (λ y. x < y) ys → is_one_of x ys ≡ false
absent-below x [] h = refl
absent-below x (y ∷ ys) h = let less = h.0 in rw (ne_eqb y x (λ same. omega (arith, same, less))) (absent-below x ys h.1)

absent-above : (x : ℕ) (ys : List ℕ) → AllRows (λ y. y < x) ys → is_one_of x ys ≡ false
absent-above x [] h = refl
absent-above x (y ∷ ys) h = let less = h.0 in rw (ne_eqb y x (λ same. omega (arith, same, less))) (absent-above x ys h.1)

-- ---- lists of which one is below the other
none-if_absent : (xs ys : List ℕ) → AllRows (λ x. is_one_of x ys ≡ false) xs → find (λ d. is_one_of d ys) xs ≡ None
none-if_absent [] ys h = refl
none-if_absent (x ∷ xs) ys h = rw h.0 (none-if_absent xs ys h.1)

pub none-below : (xs ys : List ℕ) → AllBelow xs ys → find (λ d. is_one_of d ys) xs ≡ None
none-below xs ys h = none-if_absent xs ys (all-rows-map _ _ (λ x below. absent-below x ys below) xs h)

pub none-above : (xs ys : List ℕ) → AllBelow ys xs → find (λ d. is_one_of d ys) xs ≡ None
none-above xs ys h = none-if_absent xs ys (all-rows-map _ _ (λ x above. absent-above x ys above) xs (rows-swap (λ y x. y < x) ys xs h))

up_to-last : (xs : List ℕ) (k : ℕ) → length xs ≡ suc k → InOrder xs → AllRows (λ x. x ≤ get_or xs k 0) xs
up_to-last [] k e s = tt
up_to-last (x ∷ []) zero e s = (omega arith, tt)
up_to-last (x ∷ []) (suc k) e s = absurd (omega (arith, e))
up_to-last (x ∷ y ∷ ys) zero e s = absurd (omega (arith, e))
up_to-last (x ∷ y ∷ ys) (suc k) e s =
    let rest = up_to-last (y ∷ ys) k (omega (arith, e)) s.1 in
    let less = less_of x y s.0.0 in
    let last = rest.0 in
    (omega (arith, less, last), rest)

from-first : (y : ℕ) (ys : List ℕ) → InOrder (y ∷ ys) → AllRows (λ z. y ≤ z) (y ∷ ys)
from-first y ys s = (omega arith, all-rows-map _ (λ z. y ≤ z) (λ z less. let l = less_of y z less in omega (arith, l)) ys s.0)

pub below-all : (xs ys : List ℕ) → InOrder xs → InOrder ys → get_or xs (length xs - 1) 0 < get_or ys 0 0 → AllBelow xs ys
below-all [] ys s t less = tt
below-all (x ∷ xs) [] s t less = all-rows-map (λ z. z ≤ get_or (x ∷ xs) (length (x ∷ xs) - 1) 0) _ (λ z le. tt) (x ∷ xs) (up_to-last (x ∷ xs) (length (x ∷ xs) - 1) (omega arith) s)
below-all (x ∷ xs) (y ∷ ys) s t less =
    all-rows-map (λ z. z ≤ get_or (x ∷ xs) (length (x ∷ xs) - 1) 0) _
    (λ z le. all-rows-map (λ w. y ≤ w) (λ w. z < w) (λ w more. omega (arith, le, less, more)) (y ∷ ys) (from-first y ys t))
    (x ∷ xs) (up_to-last (x ∷ xs) (length (x ∷ xs) - 1) (omega arith) s)

-- ---- one step of a merge
find-same : (p q : ℕ → Bool) (xs : List ℕ) → AllRows (λ x. p x ≡ q x) xs → find p xs ≡ find q xs
find-same p q [] h = refl
find-same p q (x ∷ xs) h = rw h.0 (ap (cond (q x) (Some x)) (find-same p q xs h.1))

skip-first : (x y : ℕ) (xs ys : List ℕ) → x < y → InOrder (y ∷ ys) → find (λ d. is_one_of d (y ∷ ys)) (x ∷ xs) ≡ find (λ d. is_one_of d (y ∷ ys)) xs
skip-first x y xs ys less t = rw (absent-below x (y ∷ ys) (above-less x y ys less (all-above y ys t.0))) refl

skip-second : (x y : ℕ) (xs ys : List ℕ) → y < x → InOrder (x ∷ xs) → find (λ d. is_one_of d (y ∷ ys)) (x ∷ xs) ≡ find (λ d. is_one_of d ys) (x ∷ xs)
skip-second x y xs ys less s =
    find-same (λ d. is_one_of d (y ∷ ys)) (λ d. is_one_of d ys) (x ∷ xs)
    (all-rows-map (λ z. y < z) _ (λ z more. ap (λ b. b || is_one_of z ys) (ne_eqb y z (λ same. omega (arith, same, more)))) (x ∷ xs) (above-less y x xs less (all-above x xs s.0)))

-- the same at places of both lists
pub order-behind : (xs : List ℕ) (i : ℕ) → i < length xs → InOrder (drop i xs) → InOrder (drop (i + 1) xs)
order-behind xs i lt s = rw add-one (subst InOrder (drop-cons xs i 0 lt) s).1

abbrev shared : List ℕ → List ℕ → Option ℕ
shared xs ys = find (λ d. is_one_of d ys) xs

skip-in_first : (all other xs ys : List ℕ) (x y : ℕ) → all ≡ x ∷ xs → other ≡ y ∷ ys → x < y → InOrder other → shared all other ≡ shared xs other
skip-in_first all other xs ys x y front back less t =
    ap (λ zs. shared zs other) front ∙ ap (shared (x ∷ xs)) back ∙ skip-first x y xs ys less (subst InOrder back t) ∙ ap (shared xs) (sym back)

skip-in_second : (all other xs ys : List ℕ) (x y : ℕ) → all ≡ x ∷ xs → other ≡ y ∷ ys → y < x → InOrder all → shared all other ≡ shared all ys
skip-in_second all other xs ys x y front back less s =
    ap (λ zs. shared zs other) front ∙ ap (shared (x ∷ xs)) back ∙ skip-second x y xs ys less (subst InOrder front s) ∙ ap (λ zs. shared zs ys) (sym front)

pub first-skipped : (xs ys : List ℕ) (i j : ℕ) → i < length xs → j < length ys → get_or xs i 0 < get_or ys j 0 → InOrder (drop j ys) →
    find (λ d. is_one_of d (drop j ys)) (drop i xs) ≡ find (λ d. is_one_of d (drop j ys)) (drop (i + 1) xs)
first-skipped xs ys i j lt within less t =
    rw add-one (skip-in_first (drop i xs) (drop j ys) (drop (suc i) xs) (drop (suc j) ys) (get_or xs i 0) (get_or ys j 0) (drop-cons xs i 0 lt) (drop-cons ys j 0 within) less t)

pub second-skipped : (xs ys : List ℕ) (i j : ℕ) → i < length xs → j < length ys → get_or ys j 0 < get_or xs i 0 → InOrder (drop i xs) →
    find (λ d. is_one_of d (drop j ys)) (drop i xs) ≡ find (λ d. is_one_of d (drop (j + 1) ys)) (drop i xs)
second-skipped xs ys i j lt within less s =
    rw add-one (skip-in_second (drop i xs) (drop j ys) (drop (suc i) xs) (drop (suc j) ys) (get_or xs i 0) (get_or ys j 0) (drop-cons xs i 0 lt) (drop-cons ys j 0 within) less s)

-- nothing is shared with no number
pub none-with_none : (xs ys : List ℕ) → ys ≡ [] → find (λ d. is_one_of d ys) xs ≡ None
none-with_none xs ys none = ap (λ zs. find (λ d. is_one_of d zs) xs) none ∙ none-if_absent xs [] (all-absent xs)
  where
    all-absent : (zs : List ℕ) → AllRows (λ x. is_one_of x [] ≡ false) zs
    all-absent [] = tt
    all-absent (z ∷ zs) = (refl, all-absent zs)

-- ---- what is shared, in order
-- part of it, and what is left of both lists
pub record Merged (xs ys shared front back : List ℕ) : Type 0 where
  pub members : (d : ℕ) → (is_one_of d shared || (is_one_of d front && is_one_of d back)) ≡ (is_one_of d xs && is_one_of d ys)
  pub order : InOrder shared
  pub below : AllBelow shared front
  pub first : InOrder front
  pub second : InOrder back

pub merged-none : (xs ys : List ℕ) → InOrder xs → InOrder ys → Merged xs ys [] xs ys
merged-none xs ys first second = record { members = λ d. refl; order = tt; below = tt; first = first; second = second }

first-absent : (d x : ℕ) (xs ys : List ℕ) → is_one_of x ys ≡ false → (is_one_of d (x ∷ xs) && is_one_of d ys) ≡ (is_one_of d xs && is_one_of d ys)
first-absent d x xs ys absent =
    elim (cases_Bool (eqb x d)) [
      | inl same ↦ let gone : is_one_of d ys ≡ false = subst (λ k. is_one_of k ys ≡ false) (eqb-true x d same) absent in rw (same, gone) (sym (and_false (is_one_of d xs)))
      | inr other ↦ rw other refl
    ]

second-absent : (d y : ℕ) (xs ys : List ℕ) → is_one_of y xs ≡ false → (is_one_of d xs && is_one_of d (y ∷ ys)) ≡ (is_one_of d xs && is_one_of d ys)
second-absent d y xs ys absent =
    elim (cases_Bool (eqb y d)) [
      | inl same ↦ let gone : is_one_of d xs ≡ false = subst (λ k. is_one_of k xs ≡ false) (eqb-true y d same) absent in rw gone refl
      | inr other ↦ rw other refl
    ]

skipped-first : (xs ys shared front back rest others : List ℕ) (x y : ℕ) → front ≡ x ∷ rest → back ≡ y ∷ others → x < y → Merged xs ys shared front back → Merged xs ys shared rest back
skipped-first xs ys shared front back rest others x y is_front is_back less m =
    let order : InOrder (y ∷ others) = subst InOrder is_back m.second in
    let absent : is_one_of x back ≡ false = subst (λ zs. is_one_of x zs ≡ false) (sym is_back) (absent-below x (y ∷ others) (above-less x y others less (all-above y others order.0))) in
    record {
      members = λ d. ap (λ b. is_one_of d shared || b) (sym (ap (λ zs. is_one_of d zs && is_one_of d back) is_front ∙ first-absent d x rest back absent)) ∙ m.members d;
      order = m.order;
      below = all-rows-map _ _ (λ z above. above.1) shared (subst (AllBelow shared) is_front m.below);
      first = (subst InOrder is_front m.first).1;
      second = m.second;
    }

skipped-second : (xs ys shared front back rest others : List ℕ) (x y : ℕ) → front ≡ x ∷ rest → back ≡ y ∷ others → y < x → Merged xs ys shared front back → Merged xs ys shared front others
skipped-second xs ys shared front back rest others x y is_front is_back less m =
    let order : InOrder (x ∷ rest) = subst InOrder is_front m.first in
    let absent : is_one_of y front ≡ false = subst (λ zs. is_one_of y zs ≡ false) (sym is_front) (absent-below y (x ∷ rest) (above-less y x rest less (all-above x rest order.0))) in
    record {
      members = λ d. ap (λ b. is_one_of d shared || b) (sym (ap (λ zs. is_one_of d front && is_one_of d zs) is_back ∙ second-absent d y front others absent)) ∙ m.members d;
      order = m.order;
      below = m.below;
      first = m.first;
      second = (subst InOrder is_back m.second).1;
    }

pub has-last : (d x : ℕ) (zs : List ℕ) → is_one_of d (zs ++ x ∷ []) ≡ (is_one_of d zs || eqb x d)
has-last d x [] = or_swap (eqb x d) false
has-last d x (z ∷ zs) = ap (λ b. eqb z d || b) (has-last d x zs) ∙ sym (or_group (eqb z d) (is_one_of d zs) (eqb x d))

pub order-last : (zs : List ℕ) (x : ℕ) → InOrder zs → AllRows (λ z. z < x) zs → InOrder (zs ++ x ∷ [])
order-last [] x order below = (tt, tt)
order-last (z ∷ zs) x order below = (rows-append _ zs (x ∷ []) order.0 (lt_from (number z) (number x) (inl below.0), tt), order-last zs x order.1 below.1)

one-taken : (s e a b : Bool) → ((s || e) || (a && (e || b))) ≡ (s || ((e || a) && (e || b)))
one-taken true e a b = refl
one-taken false true a b = refl
one-taken false false a b = refl

taken : (xs ys shared front back rest others : List ℕ) (x y : ℕ) → front ≡ x ∷ rest → back ≡ y ∷ others → x ≡ y → Merged xs ys shared front back → Merged xs ys (shared ++ x ∷ []) rest back
taken xs ys shared front back rest others x y is_front is_back same m =
    let order : InOrder (x ∷ rest) = subst InOrder is_front m.first in
    let below : AllBelow shared (x ∷ rest) = subst (AllBelow shared) is_front m.below in
    let back_is : back ≡ x ∷ others = is_back ∙ ap (λ k. k ∷ others) (sym same) in
    record {
      members = λ d.
          ap (λ b. b || (is_one_of d rest && is_one_of d back)) (has-last d x shared)
          ∙ ap (λ zs. (is_one_of d shared || eqb x d) || (is_one_of d rest && is_one_of d zs)) back_is
          ∙ one-taken (is_one_of d shared) (eqb x d) (is_one_of d rest) (is_one_of d others)
          ∙ sym (ap (λ zs. is_one_of d shared || (is_one_of d zs && is_one_of d back)) is_front ∙ ap (λ zs. is_one_of d shared || (is_one_of d (x ∷ rest) && is_one_of d zs)) back_is)
          ∙ m.members d;
      order = order-last shared x m.order (all-rows-map _ (λ z. z < x) (λ z above. above.0) shared below);
      below = rows-append _ shared (x ∷ []) (all-rows-map _ _ (λ z above. above.1) shared below) (all-above x rest order.0, tt);
      first = order.1;
      second = m.second;
    }

-- the same at places of both lists
module _ (xs ys shared : List ℕ) (i j : ℕ) (lt : i < length xs) (within : j < length ys) (m : Merged xs ys shared (drop i xs) (drop j ys)) where
  pub merge-first : get_or xs i 0 < get_or ys j 0 → Merged xs ys shared (drop (i + 1) xs) (drop j ys)
  merge-first less = rw add-one (skipped-first xs ys shared (drop i xs) (drop j ys) (drop (suc i) xs) (drop (suc j) ys) (get_or xs i 0) (get_or ys j 0) (drop-cons xs i 0 lt) (drop-cons ys j 0 within) less m)

  pub merge-second : get_or ys j 0 < get_or xs i 0 → Merged xs ys shared (drop i xs) (drop (j + 1) ys)
  merge-second less = rw add-one (skipped-second xs ys shared (drop i xs) (drop j ys) (drop (suc i) xs) (drop (suc j) ys) (get_or xs i 0) (get_or ys j 0) (drop-cons xs i 0 lt) (drop-cons ys j 0 within) less m)

  pub merge-both : get_or xs i 0 ≡ get_or ys j 0 → Merged xs ys (shared ++ get_or xs i 0 ∷ []) (drop (i + 1) xs) (drop j ys)
  merge-both same = rw add-one (taken xs ys shared (drop i xs) (drop j ys) (drop (suc i) xs) (drop (suc j) ys) (get_or xs i 0) (get_or ys j 0) (drop-cons xs i 0 lt) (drop-cons ys j 0 within) same m)

-- where nothing is left of one list, all is there
pub merged-front : (xs ys shared front back : List ℕ) → front ≡ [] → Merged xs ys shared front back → Holds shared (λ d. is_one_of d xs && is_one_of d ys)
merged-front xs ys shared front back none m d =
    or_swap false (is_one_of d shared) ∙ ap (λ zs. is_one_of d shared || (is_one_of d zs && is_one_of d back)) (sym none) ∙ m.members d

pub merged-back : (xs ys shared front back : List ℕ) → back ≡ [] → Merged xs ys shared front back → Holds shared (λ d. is_one_of d xs && is_one_of d ys)
merged-back xs ys shared front back none m d =
    or_swap false (is_one_of d shared) ∙ ap (λ b. is_one_of d shared || b) (sym (and_false (is_one_of d front))) ∙ ap (λ zs. is_one_of d shared || (is_one_of d front && is_one_of d zs)) (sym none) ∙ m.members d
