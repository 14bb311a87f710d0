-- Lists with one more element, and names in a list.
use Rattle.file_facts.proofs.Common.{[], ℕ, ◌++◌, ◌+◌, ◌<◌, ◌∷◌, ◌≡◌, ◌≤◌, ◌⊎◌, ap, arith, Bool, Bytes, bytes_eq, cases_Bool, cond_some, inl, inr, is_listed, length, length_push, List, list_any, noted, number_of, or_cases, or_left}
use Rattle.file_facts.proofs.Common.{or_right, place_of, refl, same_Some, slice_get, Some, suc, true, zero}

-- ---- one more element
-- an element of a list with one more is an old one, or the new one at the end
pub at-push : {X : Type 0} (xs : List X) (y : X) (k : ℕ) (x : X) → slice_get (xs ++ y ∷ []) k ≡ Some x → (slice_get xs k ≡ Some x) ⊎ ((k ≡ length xs) × (y ≡ x))
at-push [] y zero x h = inr (refl, same_Some y x h)
at-push [] y (suc k) x h = absurd (cc)
at-push (z ∷ xs) y zero x h = inl h
at-push (z ∷ xs) y (suc k) x h =
    elim (at-push xs y k x h) [
      | inl old ↦ inl old
      | inr new ↦ inr (ap suc new.0, new.1)
    ]

-- what passes a test at an index passes it in the list
pub any-at : {X : Type 0} (test : X → Bool) (xs : List X) (k : ℕ) (x : X) → slice_get xs k ≡ Some x → test x ≡ true → list_any test xs ≡ true
any-at test [] k x h passes = absurd (cc)
any-at test (y ∷ xs) zero x h passes = or_left (test y) (list_any test xs) (rw (same_Some y x h) passes)
any-at test (y ∷ xs) (suc k) x h passes = or_right (test y) (list_any test xs) (any-at test xs k x h passes)

pub any-more : {X : Type 0} (test : X → Bool) (xs : List X) (x : X) → list_any test xs ≡ true → list_any test (xs ++ x ∷ []) ≡ true
any-more test [] x h = absurd (cc)
any-more test (y ∷ xs) x h =
    elim (or_cases (test y) (list_any test xs) h) [
      | inl here ↦ or_left (test y) (list_any test (xs ++ x ∷ [])) here
      | inr later ↦ or_right (test y) (list_any test (xs ++ x ∷ [])) (any-more test xs x later)
    ]

-- ---- names
-- at most one name is noted
pub length-noted : (names : List Bytes) (n : Bytes) → length (noted names n) ≤ length names + 1
length-noted names n =
    elim (cases_Bool (is_listed n names)) [
      | inl there ↦ rw there (omega arith)
      | inr absent ↦ rw absent (omega (arith, length_push names n))
    ]

number_within : (names : List Bytes) (n : Bytes) → is_listed n names ≡ true → number_of names n < length names
number_within [] n there = absurd (cc)
number_within (m ∷ ms) n there =
    elim (cases_Bool (bytes_eq n m)) [
      | inl same ↦ rw same (omega arith)
      | inr other ↦ let later : is_listed n ms ≡ true = rw other at there in rw other (omega (arith, number_within ms n later))
    ]

pub place_within : (names : List Bytes) (n : Bytes) (i : ℕ) → place_of names n ≡ Some i → i < length names
place_within names n i is =
    let found = cond_some (is_listed n names) (number_of names n) i is in
    rw (← found.1) (number_within names n found.0)
