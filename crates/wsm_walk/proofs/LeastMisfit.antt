-- The first misfit along a trail is the least position over the nodes of the region.
use Rattle.wsm_walk.proofs.Common.{[], ℕ, ◌&&◌, ◌<◌, ◌||◌, ◌∙◌, ◌∷◌, ◌≡◌, ◌≤◌, ap, arith, AtMostOne, bad_at, Bool, cases_Bool, Entries, Entry, Facts, false, find, first_bad, fits, FlatModel, inl, inr, is_of, le-ltb, least, lesser, List}
use Rattle.wsm_walk.proofs.Common.{list_any, lt-ltb, ltb-true, map, Marking, misfit_in, None, not, Option, refl, RisesAfter, Some, true, Value}

-- the first misfit of a region is the first bad entry
pub misfit-bad : (inside : ℕ → Bool) (g : FlatModel) (f : Facts) (m : Marking) (value : ℕ → ℕ → Option Value) (es : Entries) →
    misfit_in inside g f m value es ≡ first_bad (λ e. is_of inside e.1 && not (fits g f m (λ d. value d e.0) e.0 e.1)) es
misfit-bad inside g f m value [] = refl
misfit-bad inside g f m value (e ∷ es) =
    elim (cases_Bool (is_of inside e.1)) [
      | inr out ↦ rw out (misfit-bad inside g f m value es)
      | inl it ↦ elim (cases_Bool (fits g f m (λ d. value d e.0) e.0 e.1)) [ inl fine ↦ rw (it, fine) (misfit-bad inside g f m value es) | inr bad ↦ rw (it, bad) refl ]
    ]

-- a number below all positions
abbrev Above : ℕ → Option ℕ → Type 0
Above last None = Unit {0}
Above last (Some p) = last < p

above-lower : (a b : ℕ) → a < b → (o : Option ℕ) → Above b o → Above a o
above-lower a b less None h = tt
above-lower a b less (Some p) h = omega (arith, less, h)

bad-above : (bad : ℕ × Entry → Bool) (last : ℕ) (es : Entries) → RisesAfter last es → Above last (first_bad bad es)
bad-above bad last [] rises = tt
bad-above bad last (e ∷ es) rises =
    elim (cases_Bool (bad e)) [
      | inl it ↦ rw it (ltb-true last e.0 rises.0)
      | inr other ↦ rw other (above-lower last e.0 (ltb-true last e.0 rises.0) (first_bad bad es) (bad-above bad e.0 es rises.1))
    ]

left-least : (a : ℕ) (o : Option ℕ) → Above a o → Some a ≡ lesser (Some a) o
left-least a None h = refl
left-least a (Some b) h = rw (le-ltb b a (omega (arith, h))) refl

right-least : (a : ℕ) (o : Option ℕ) → Above a o → Some a ≡ lesser o (Some a)
right-least a None h = refl
right-least a (Some b) h = rw (lt-ltb a b h) refl

both-least : (a : ℕ) → Some a ≡ lesser (Some a) (Some a)
both-least a = rw (le-ltb a a (omega arith)) refl

-- the first entry that passes one of two tests
pub bad-or : (s t : ℕ × Entry → Bool) (last : ℕ) (es : Entries) → RisesAfter last es → first_bad (λ e. s e || t e) es ≡ lesser (first_bad s es) (first_bad t es)
bad-or s t last [] rises = refl
bad-or s t last (e ∷ es) rises =
    elim (cases_Bool (s e)) [
      | inl it ↦ elim (cases_Bool (t e)) [
        | inl too ↦ rw (it, too) (both-least e.0)
        | inr other ↦ rw (it, other) (left-least e.0 (first_bad t es) (bad-above t e.0 es rises.1))
      ]
      | inr out ↦ elim (cases_Bool (t e)) [
        | inl too ↦ rw (out, too) (right-least e.0 (first_bad s es) (bad-above s e.0 es rises.1))
        | inr other ↦ rw (out, other) (bad-or s t e.0 es rises.1)
      ]
    ]

-- the first entry that passes one of many tests is the least of the first ones
pub bad-any : {X : Type 0} (test : X → ℕ × Entry → Bool) (xs : List X) (last : ℕ) (es : Entries) → RisesAfter last es →
    first_bad (λ e. list_any (λ x. test x e) xs) es ≡ least (map (λ x. first_bad (test x) es) xs)
bad-any test [] last es rises = none es
  where
    none : (es : Entries) → first_bad (λ e. false) es ≡ None
    none [] = refl
    none (e ∷ es) = none es
bad-any test (x ∷ xs) last es rises =
    bad-or (test x) (λ e. list_any (λ y. test y e) xs) last es rises ∙ ap (lesser (first_bad (test x) es)) (bad-any test xs last es rises)

none-bad : (test bad : ℕ × Entry → Bool) (es : Entries) → find test es ≡ None → first_bad (λ e. test e && bad e) es ≡ None
none-bad test bad [] h = refl
none-bad test bad (e ∷ es) h = elim (cases_Bool (test e)) [ inl it ↦ let p : Some e ≡ None = rw it at h in absurd (cc) | inr other ↦ rw other (none-bad test bad es (rw other at h)) ]

-- where at most one entry passes a test, it alone is looked at
pub bad-found : (test bad : ℕ × Entry → Bool) (es : Entries) → AtMostOne test es → first_bad (λ e. test e && bad e) es ≡ bad_at bad (find test es)
bad-found test bad [] one = refl
bad-found test bad (e ∷ es) one =
    elim (cases_Bool (test e)) [
      | inr other ↦ rw other (bad-found test bad es one.1)
      | inl it ↦ elim (cases_Bool (bad e)) [ inl worse ↦ rw (it, worse) refl | inr fine ↦ rw (it, fine) (none-bad test bad es (one.0 it)) ]
    ]

-- what passes a test behind an entry that passes it and is not bad is not bad either
abbrev pub Steady : (ℕ × Entry → Bool) → (ℕ × Entry → Bool) → Type 0
Steady test bad = (d e : ℕ × Entry) → d.0 < e.0 → test d ≡ true → bad d ≡ false → test e ≡ true → bad e ≡ false

none-later : (test bad : ℕ × Entry → Bool) → Steady test bad → (d : ℕ × Entry) → test d ≡ true → bad d ≡ false → (last : ℕ) (es : Entries) → d.0 ≤ last → RisesAfter last es → first_bad (λ e. test e && bad e) es ≡ None
none-later test bad steady d it fine last [] low rises = refl
none-later test bad steady d it fine last (e ∷ es) low rises =
    let later : last < e.0 = ltb-true last e.0 rises.0 in
    let rest = none-later test bad steady d it fine e.0 es (omega (arith, low, later)) rises.1 in
    elim (cases_Bool (test e)) [
      | inr other ↦ rw other rest
      | inl too ↦ let good : bad e ≡ false = steady d e (omega (arith, low, later)) it fine too in rw (too, good) rest
    ]

-- so the first entry that passes alone is looked at
pub bad-first : (test bad : ℕ × Entry → Bool) → Steady test bad → (last : ℕ) (es : Entries) → RisesAfter last es → first_bad (λ e. test e && bad e) es ≡ bad_at bad (find test es)
bad-first test bad steady last [] rises = refl
bad-first test bad steady last (e ∷ es) rises =
    elim (cases_Bool (test e)) [
      | inr other ↦ rw other (bad-first test bad steady e.0 es rises.1)
      | inl it ↦ elim (cases_Bool (bad e)) [ inl worse ↦ rw (it, worse) refl | inr fine ↦ rw (it, fine) (none-later test bad steady e it fine e.0 es (omega arith) rises.1) ]
    ]
