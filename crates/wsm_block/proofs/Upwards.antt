-- Where each edge goes from a smaller number to a larger one, no sync edge closes a cycle.
use Rattle.wsm_block.proofs.Common.{[], ℕ, ◌&&◌, ◌++◌, ◌<◌, ◌∷◌, ◌≡◌, ◌≤◌, AllRows, and_parts, ap, arith, both_ways, cases_Bool, Edges, eq-eqb, eqb, eqb-true, false, height_in, inl, inr, is_one_of, leads, length, List, list_any, or_cases}
use Rattle.wsm_block.proofs.{Common.{or_parts, refl, suc, true, zero}, Leading.passes}

module _ (height : ℕ → ℕ) where
  abbrev pub Rises : ℕ × ℕ → Type 0
  Rises e = height e.0 < height e.1

  pub leads-up : (edges : Edges) → AllRows Rises edges → (k a b : ℕ) → leads edges k a b ≡ true → height a ≤ height b
  leads-up edges rise zero a b h = let same : height a ≡ height b = ap height (eqb-true a b h) in omega (arith, same)
  leads-up edges rise (suc k) a b h =
      elim (or_cases (eqb a b) (list_any (λ e. eqb e.0 a && leads edges k e.1 b) edges) h) [
        | inl here ↦ let same : height a ≡ height b = ap height (eqb-true a b here) in omega (arith, same)
        | inr later ↦
            let edge = passes (λ e. eqb e.0 a && leads edges k e.1 b) Rises edges rise later in
            let parts = and_parts (eqb edge.0.0 a) (leads edges k edge.0.1 b) edge.1.1 in
            let first : height edge.0.0 ≡ height a = ap height (eqb-true edge.0.0 a parts.0) in
            let step : height edge.0.0 < height edge.0.1 = edge.1.0 in
            let rest : height edge.0.1 ≤ height b = leads-up edges rise k edge.0.1 b parts.1 in
            omega (arith, first, step, rest)
      ]

-- ---- how many numbers stand before a number
pub height-at : (n : ℕ) (front rest : List ℕ) → is_one_of n front ≡ false → height_in (front ++ n ∷ rest) n ≡ length front
height-at n [] rest new = rw (eq-eqb n n refl) refl
height-at n (x ∷ front) rest new = let parts = or_parts (eqb x n) (is_one_of n front) new in rw parts.0 (ap suc (height-at n front rest parts.1))

pub height-below : (m : ℕ) (front rest : List ℕ) → is_one_of m front ≡ true → height_in (front ++ rest) m < length front
height-below m [] rest one = absurd (both_ways _ refl one)
height-below m (x ∷ front) rest one =
    elim (cases_Bool (eqb x m)) [
      | inl same ↦ rw same (omega arith)
      | inr other ↦ rw other (let later : height_in (front ++ rest) m < length front = height-below m front rest (rw other at one) in omega (arith, later))
    ]

pub below-height : (m : ℕ) (front rest : List ℕ) → height_in (front ++ rest) m < length front → is_one_of m front ≡ true
below-height m [] rest lt = absurd (omega (arith, lt))
below-height m (x ∷ front) rest lt =
    elim (cases_Bool (eqb x m)) [
      | inl same ↦ rw same refl
      | inr other ↦ rw other (let later : suc (height_in (front ++ rest) m) < suc (length front) = rw other at lt in below-height m front rest (omega (arith, later)))
    ]
