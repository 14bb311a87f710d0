-- Operations whose footprints have nothing in common that one of them changes.
use Rattle.wsm_commute.proofs.Common.{[], ◌++◌, ◌∷◌, ◌≡◌, ◌⊎◌, all_changes, AllRows, Bool, cases_Bool, changes, comparing, filter, flat_map, footprint, inl, inr, is_among, is_eq, IsTotalOrder, least, least_overlap, lesser, List, Name}
use Rattle.wsm_commute.proofs.Common.{name_cmp, None, Op, Option, Ordering, ordering_reverse, refl, rules, Some, subst, true, uses}
use Rattle.std.specs.declared.cmp.Ordering.TheVariants.{Less, Equal, Greater}

-- a name is one of some names
abbrev pub In : Name → List Name → Type 0
In n [] = ⊥
In n (m ∷ ms) = (n ≡ m) ⊎ In n ms

-- what an operation changes or uses
abbrev pub foot : Op → List Name
foot o = changes o ++ uses o

-- neither touches what the other changes
pub record Apart (a b : Op) : Type 0 where
  pub left : (n : Name) → In n (changes a) → In n (foot b) → ⊥
  pub right : (n : Name) → In n (foot a) → In n (changes b) → ⊥

pub flip : (a b : Op) → Apart a b → Apart b a
flip a b h = record { left = λ n i j. h.right n j i; right = λ n i j. h.left n j i }

-- ---- names in lists
pub in-left : (n : Name) (xs ys : List Name) → In n xs → In n (xs ++ ys)
in-left n [] ys h = absurd h
in-left n (x ∷ xs) ys (inl h) = inl h
in-left n (x ∷ xs) ys (inr h) = inr (in-left n xs ys h)

pub in-right : (n : Name) (xs ys : List Name) → In n ys → In n (xs ++ ys)
in-right n [] ys h = h
in-right n (x ∷ xs) ys h = inr (in-right n xs ys h)

pub in-parts : (n : Name) (xs ys : List Name) → In n (xs ++ ys) → In n xs ⊎ In n ys
in-parts n [] ys h = inr h
in-parts n (x ∷ xs) ys (inl h) = inl (inl h)
in-parts n (x ∷ xs) ys (inr h) = elim (in-parts n xs ys h) [ inl i ↦ inl (inr i) | inr i ↦ inr i ]

pub changed : (o : Op) (n : Name) → In n (changes o) → In n (foot o)
changed o n h = in-left n (changes o) (uses o) h

-- ---- a name in a list is found by the test
same_name : (R : Name → Name → Ordering) → IsTotalOrder R → (n : Name) → is_eq (R n n) ≡ true
same_name R o n = go (R n n) (o.antisymm n n)
  where
    go : (x : Ordering) → x ≡ ordering_reverse x → is_eq x ≡ true
    go Less h = absurd (cc)
    go Equal h = refl
    go Greater h = absurd (cc)

name_total : IsTotalOrder name_cmp
name_total = search (comparing, rules)

pub among : (n : Name) (ms : List Name) → In n ms → is_among ms n ≡ true
among n [] h = absurd h
among n (m ∷ ms) (inl h) = rw (subst (λ x. is_eq (name_cmp n x) ≡ true) h (same_name name_cmp name_total n)) refl
among n (m ∷ ms) (inr h) =
    elim (cases_Bool (is_eq (name_cmp n m))) [
      | inl here ↦ rw here refl
      | inr other ↦ rw other (among n ms h)
    ]

-- ---- no least name, no name
none-least : (ns : List Name) → least ns ≡ None → ns ≡ []
none-least [] h = refl
none-least (n ∷ ns) h = go (least ns) h
  where
    go : (o : Option Name) → lesser (Some n) o ≡ None → n ∷ ns ≡ []
    go None h = absurd (cc)
    go (Some m) h = absurd (cc)

none-appended : (xs ys : List Name) → xs ++ ys ≡ [] → (xs ≡ []) × (ys ≡ [])
none-appended [] ys h = (refl, h)
none-appended (x ∷ xs) ys h = absurd (cc)

none-kept : (p : Name → Bool) (xs : List Name) → filter p xs ≡ [] → (n : Name) → In n xs → p n ≡ true → ⊥
none-kept p [] h n i t = i
none-kept p (x ∷ xs) h n i t =
    elim (cases_Bool (p x)) [
      | inl kept ↦ let bad : x ∷ filter p xs ≡ [] = rw kept at h in cc
      | inr dropped ↦ let rest : filter p xs ≡ [] = rw dropped at h in elim i [
        | inl is ↦ let bad : p x ≡ true = subst (λ m. p m ≡ true) is t in cc
        | inr later ↦ none-kept p xs rest n later t
      ]
    ]

-- lists that share no name
pub record Disjoint (left right : List Op) : Type 0 where
  pub changed_left : (n : Name) → In n (all_changes left) → In n (footprint right) → ⊥
  pub changed_right : (n : Name) → In n (all_changes right) → In n (footprint left) → ⊥

pub disjoint : (left right : List Op) → least_overlap left right ≡ None → Disjoint left right
disjoint left right h =
    let none = none-appended _ _ (none-least _ h) in
    record {
      changed_left = λ n i j. none-kept (is_among (footprint right)) (all_changes left) none.0 n i (among n (footprint right) j);
      changed_right = λ n i j. none-kept (is_among (footprint left)) (all_changes right) none.1 n i (among n (footprint left) j);
    }

-- each operation of one list is apart from each of the other
abbrev pub ApartFrom : Op → List Op → Type 0
ApartFrom a bs = AllRows (λ b. Apart a b) bs

abbrev pub AllApart : List Op → List Op → Type 0
AllApart os bs = AllRows (λ a. ApartFrom a bs) os

-- what an operation of a list changes or touches, the list does
module _ (o : Op) (os : List Op) where
  pub first-change : (n : Name) → In n (changes o) → In n (all_changes (o ∷ os))
  first-change n h = in-left n (changes o) (all_changes os) h

  pub first-touch : (n : Name) → In n (foot o) → In n (footprint (o ∷ os))
  first-touch n h =
      elim (in-parts n (changes o) (uses o) h) [
        | inl i ↦ in-left n (all_changes (o ∷ os)) (flat_map uses (o ∷ os)) (first-change n i)
        | inr i ↦ in-right n (all_changes (o ∷ os)) (flat_map uses (o ∷ os)) (in-left n (uses o) (flat_map uses os) i)
      ]

  pub later-change : (n : Name) → In n (all_changes os) → In n (all_changes (o ∷ os))
  later-change n h = in-right n (changes o) (all_changes os) h

  pub later-touch : (n : Name) → In n (footprint os) → In n (footprint (o ∷ os))
  later-touch n h =
      elim (in-parts n (all_changes os) (flat_map uses os) h) [
        | inl i ↦ in-left n (all_changes (o ∷ os)) (flat_map uses (o ∷ os)) (later-change n i)
        | inr i ↦ in-right n (all_changes (o ∷ os)) (flat_map uses (o ∷ os)) (in-right n (uses o) (flat_map uses os) i)
      ]

apart-from : (a : Op) (bs : List Op) → ((n : Name) → In n (changes a) → In n (footprint bs) → ⊥) → ((n : Name) → In n (foot a) → In n (all_changes bs) → ⊥) → ApartFrom a bs
apart-from a [] l r = tt
apart-from a (b ∷ bs) l r = (
  record { left = λ n i j. l n i (first-touch b bs n j); right = λ n i j. r n i (first-change b bs n j) },
  apart-from a bs (λ n i j. l n i (later-touch b bs n j)) (λ n i j. r n i (later-change b bs n j)),
)

all-apart : (os bs : List Op) → Disjoint os bs → AllApart os bs
all-apart [] bs h = tt
all-apart (a ∷ os) bs h = (
  apart-from a bs (λ n i j. h.changed_left n (first-change a os n i) j) (λ n i j. h.changed_right n j (first-touch a os n i)),
  all-apart os bs (record { changed_left = λ n i j. h.changed_left n (later-change a os n i) j; changed_right = λ n i j. h.changed_right n i (later-touch a os n j) }),
)

-- lists that do not overlap
pub no-overlap : (left right : List Op) → least_overlap left right ≡ None → AllApart left right
no-overlap left right h = all-apart left right (disjoint left right h)

apart-back : (b : Op) (os : List Op) → AllRows (λ a. Apart a b) os → ApartFrom b os
apart-back b [] h = tt
apart-back b (a ∷ os) h = (flip a b h.0, apart-back b os h.1)
