-- Signals before a number, one by one and in lists.
use Rattle.wsm_marks.proofs.Common.{[], ℕ, ◌∙◌, ◌∷◌, ◌≡◌, ◌≤◌, ◌⊎◌, and_left, and_right, arith, before, Bool, both_ways, cases_Bool, false, Flow, flow, greater, inl, inr, is_yes, latest, le-ltb, List, list_all, lt-ltb, ltb-false, ltb-true}
use Rattle.wsm_marks.proofs.Common.{map, nat_lt, None, Option, refl, Some, sym, time, Timed, true}
use Rattle.wsm_schema.specs.declared.states.Flow.TheVariants.{Yes, No}

-- two that are in time have a greater one that is
pub greater-lt : (a b q : ℕ) → nat_lt a q ≡ true → nat_lt b q ≡ true → nat_lt (greater a b) q ≡ true
greater-lt a b q x y = elim (cases_Bool (nat_lt a b)) [ inl less ↦ rw less y | inr more ↦ rw more x ]

-- the greater of two is late where the first is
pub greater-late_left : (a b q : ℕ) → nat_lt a q ≡ false → nat_lt (greater a b) q ≡ false
greater-late_left a b q x =
    elim (cases_Bool (nat_lt a b)) [
      | inl less ↦ rw less (le-ltb b q (omega (arith, ltb-true a b less, ltb-false a q x)))
      | inr more ↦ rw more x
    ]

-- and where the second is
pub greater-late_right : (a b q : ℕ) → nat_lt b q ≡ false → nat_lt (greater a b) q ≡ false
greater-late_right a b q y =
    elim (cases_Bool (nat_lt a b)) [
      | inl less ↦ rw less y
      | inr more ↦ rw more (le-ltb a q (omega (arith, ltb-false a b more, ltb-false b q y)))
    ]

-- of two, one is late where the greater is
pub greater-late : (a b q : ℕ) → nat_lt (greater a b) q ≡ false → (nat_lt a q ≡ false) ⊎ (nat_lt b q ≡ false)
greater-late a b q h = elim (cases_Bool (nat_lt a b)) [ inl less ↦ inr (rw less at h) | inr more ↦ inl (rw more at h) ]

-- what is in time holds
pub before-in_time : (q : ℕ) (x : Timed) → nat_lt (time x) q ≡ true → before q x ≡ flow x
before-in_time q x h = rw h refl

-- what is late does not
pub before-late : (q : ℕ) (x : Timed) → nat_lt (time x) q ≡ false → before q x ≡ None
before-late q x h = rw h refl

-- all in time: nothing is cut off
pub map-in_time : (q : ℕ) (xs : List Timed) → nat_lt (latest xs) q ≡ true → map (before q) xs ≡ map flow xs
map-in_time q [] h = refl
map-in_time q (x ∷ xs) h =
    elim (cases_Bool (nat_lt (time x) q)) [
      | inl soon ↦
          elim (cases_Bool (nat_lt (latest xs) q)) [
            | inl rest ↦ rw (before-in_time q x soon, map-in_time q xs rest) refl
            | inr late ↦ absurd (both_ways _ (greater-late_right (time x) (latest xs) q late) h)
          ]
      | inr late ↦ absurd (both_ways _ (greater-late_left (time x) (latest xs) q late) h)
    ]

-- one late: no test that wants signals passes
pub all-late : (test : Option Flow → Bool) → test None ≡ false → (q : ℕ) → nat_lt 0 q ≡ true → (xs : List Timed) → nat_lt (latest xs) q ≡ false →
    list_all test (map (before q) xs) ≡ false
all-late test none q pos [] h = absurd (both_ways _ h pos)
all-late test none q pos (x ∷ xs) h =
    elim (greater-late (time x) (latest xs) q h) [
      | inl late ↦ and_left (test (before q x)) _ (rw (before-late q x late) none)
      | inr rest ↦ and_right (test (before q x)) _ (all-late test none q pos xs rest)
    ]

-- nothing never holds
pub before_none : (q : ℕ) → before q None ≡ None
before_none q = elim (cases_Bool (nat_lt 0 q)) [ inl soon ↦ rw soon refl | inr late ↦ rw late refl ]

-- what is ready before q
pub is_ready_mark : (q : ℕ) (x : Timed) → before q x ≡ Some Yes → (t : ℕ) × (x ≡ Some (t, Yes)) × (nat_lt t q ≡ true)
is_ready_mark q None h = let p : None ≡ Some Yes = sym (before_none q) ∙ h in absurd (cc)
is_ready_mark q (Some (t, No)) h =
    elim (cases_Bool (nat_lt t q)) [
      | inl soon ↦ let p : Some No ≡ Some Yes = rw soon at h in absurd (cc)
      | inr late ↦ let p : None ≡ Some Yes = rw late at h in absurd (cc)
    ]
is_ready_mark q (Some (t, Yes)) h =
    elim (cases_Bool (nat_lt t q)) [
      | inl soon ↦ (t, refl, soon)
      | inr late ↦ let p : None ≡ Some Yes = rw late at h in absurd (cc)
    ]

-- what tests as True is True
pub is_yes-some : (o : Option Flow) → is_yes o ≡ true → o ≡ Some Yes
is_yes-some None h = absurd (both_ways _ refl h)
is_yes-some (Some Yes) h = refl
is_yes-some (Some No) h = absurd (both_ways _ refl h)

-- what holds before a number holds before each later one
pub before-later : (a b : ℕ) → a ≤ b → (x : Timed) (y : Flow) → before a x ≡ Some y → before b x ≡ Some y
before-later a b le x y h =
    elim (cases_Bool (nat_lt (time x) a)) [
      | inl soon ↦ let later : nat_lt (time x) b ≡ true = lt-ltb (time x) b (omega (arith, ltb-true (time x) a soon)) in rw later (rw soon at h)
      | inr late ↦ let p : None ≡ Some y = rw late at h in absurd (cc)
    ]
