-- What a journal has of each of its callers, who are a first one and some others.
use Rattle.crew_run.proofs.Common.{[], ℕ, ◌++◌, ◌+◌, ◌==◌, ◌∙◌, ◌∷◌, ◌≡◌, ◌≢◌, ◌≤◌, AllByRecursion, ap, arith, Bool, calls_of, Entry, eq-eqb, false, filter, if◌then◌else◌, length, List, ne_eqb, refl, suc, sym, true, zero}
use mathlib.Core.Logic.{dite}
use native.Mathlib.Decide.{ℕ_discrete}

-- of a list those items that have a number, and those that have another
module _ {A : Type 0} (key : A → ℕ) where
  abbrev pub with_key : ℕ → List A → List A
  with_key n xs = filter (λ x. key x == n) xs

  abbrev without : ℕ → List A → List A
  without n [] = []
  without n (x ∷ xs) = if key x == n then without n xs else x ∷ without n xs

  parted : (n : ℕ) (xs : List A) → length xs ≡ length (with_key n xs) + length (without n xs)
  parted n [] = refl
  parted n (x ∷ xs) = by (key x == n) (parted n xs)
    where
      by : (b : Bool) → length xs ≡ length (with_key n xs) + length (without n xs) → suc (length xs) ≡ length (if b then x ∷ with_key n xs else with_key n xs) + length (if b then without n xs else x ∷ without n xs)
      by true e = omega arith
      by false e = omega arith

  others-stay : (n m : ℕ) → m ≢ n → (xs : List A) → with_key m (without n xs) ≡ with_key m xs
  others-stay n m not [] = refl
  others-stay n m not (x ∷ xs) =
      let rest = others-stay n m not xs in
      dite (ℕ_discrete (key x) n)
      (λ (is : key x ≡ n). rw (eq-eqb (key x) n is, ne_eqb (key x) m (λ same. not (sym same ∙ is))) rest)
      (λ other. rw (ne_eqb (key x) n other) (ap (λ ys. if key x == m then x ∷ ys else ys) rest))

  below : (n : ℕ) (xs : List A) → AllByRecursion (λ x. key x ≤ suc n) xs → AllByRecursion (λ x. key x ≤ n) (without (suc n) xs)
  below n [] all = tt
  below n (x ∷ xs) (le, all) =
      let rest = below n xs all in
      dite (ℕ_discrete (key x) (suc n)) (λ (is : key x ≡ suc n). rw (eq-eqb (key x) (suc n) is) rest) (λ other. rw (ne_eqb (key x) (suc n) other) (omega arith, rest))

  none-without : (xs : List A) → AllByRecursion (λ x. key x ≤ 0) xs → without 0 xs ≡ []
  none-without [] all = refl
  none-without (x ∷ xs) (le, all) = rw (eq-eqb (key x) 0 (omega arith)) (none-without xs all)

-- Where of each number from 1 on one list has no more items than another, it has no more than that and those with the number 0.
pub no-more : {A B : Type 0} (key : A → ℕ) (mark : B → ℕ) (n : ℕ) (xs : List A) (ys : List B) → AllByRecursion (λ x. key x ≤ n) xs → ((a : ℕ) → 1 ≤ a → a ≤ n → length (with_key key a xs) ≤ length (with_key mark a ys))
    → length xs ≤ length (with_key key 0 xs) + length ys
no-more key mark zero xs ys all few = omega (arith, parted key 0 xs, ap length (none-without key xs all))
no-more key mark (suc n) xs ys all few =
    let rest =
    no-more key mark n (without key (suc n) xs) (without mark (suc n) ys) (below key n xs all)
    (λ a low high. rw (others-stay key (suc n) a (λ is. omega arith) xs, others-stay mark (suc n) a (λ is. omega arith) ys) (few a low (omega arith))) in
    omega (arith, rest, parted key (suc n) xs, parted mark (suc n) ys, few (suc n) (omega arith) (omega arith), ap length (others-stay key (suc n) 0 (λ is. omega arith) xs))

module _ {M E R W S : Type 0} where
  pub calls-with : (n : ℕ) (es : List (Entry M E R W S)) → calls_of n es ≡ with_key (λ e. e.caller) n es
  calls-with n [] = refl
  calls-with n (e ∷ es) = ap (λ ys. if e.caller == n then e ∷ ys else ys) (calls-with n es)

  -- whose calls are none has no entry
  pub none-of : (a : ℕ) (es : List (Entry M E R W S)) → calls_of a es ≡ [] → AllByRecursion (λ e. e.caller ≢ a) es
  none-of a [] none = tt
  none-of a (e ∷ es) none = dite (ℕ_discrete e.caller a)
      (λ (is : e.caller ≡ a). absurd (cc (ap (λ (b : Bool). if b then e ∷ calls_of a es else calls_of a es) (sym (eq-eqb e.caller a is)) ∙ none)))
      (λ not. (not, none-of a es (ap (λ (b : Bool). if b then e ∷ calls_of a es else calls_of a es) (sym (ne_eqb e.caller a not)) ∙ none)))

  -- where the others have none, all are the first's
  pub only-first : (n : ℕ) (es : List (Entry M E R W S)) → AllByRecursion (λ e. e.caller ≤ n) es → ((a : ℕ) → 1 ≤ a → a ≤ n → AllByRecursion (λ e. e.caller ≢ a) es) → calls_of 0 es ≡ es
  only-first n [] all none = refl
  only-first n (e ∷ es) (le, all) none =
      ap (λ (b : Bool). if b then e ∷ calls_of 0 es else calls_of 0 es) (eq-eqb e.caller 0 (first e.caller refl)) ∙ ap (λ ys. e ∷ ys) (only-first n es all (λ a low high. (none a low high).1))
    where
      first : (c : ℕ) → e.caller ≡ c → e.caller ≡ 0
      first zero is = is
      first (suc c) is = absurd ((none e.caller (omega arith) le).0 refl)

-- what holds of a whole holds of its parts
pub of-parts : {A : Type 0} (P : A → Type 0) (xs ys : List A) → AllByRecursion P (xs ++ ys) → AllByRecursion P xs × AllByRecursion P ys
of-parts P [] ys all = (tt, all)
of-parts P (x ∷ xs) ys (p, all) = let r = of-parts P xs ys all in ((p, r.0), r.1)
