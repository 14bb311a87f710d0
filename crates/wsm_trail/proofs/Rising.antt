-- Positions rise.
use Rattle.wsm_trail.proofs.Common.{[], ℕ, ◌++◌, ◌+◌, ◌<◌, ◌∷◌, ◌≡◌, ◌≤◌, AllRows, arith, Ascends, Entry, first, inl, key_lt, List, lt_from, Rises, true}

pub rises-le : (low high : ℕ) (es : List (ℕ × Entry)) → Rises low high es → low ≤ high
rises-le low high [] h = h
rises-le low high (e ∷ es) h = let rest = rises-le (e.0 + 1) high es h.1 in omega (arith, h.0, rest)

rises-above : (low high n : ℕ) (es : List (ℕ × Entry)) → n < low → Rises low high es → AllRows (λ y. key_lt (n, 0) (first y) ≡ true) es
rises-above low high n [] lt h = tt
rises-above low high n (e ∷ es) lt h = (lt_from (n, 0) (first e) (inl (omega (arith, lt, h.0))), rises-above (e.0 + 1) high n es (omega (arith, lt, h.0)) h.1)

pub rises-ascends : (low high : ℕ) (es : List (ℕ × Entry)) → Rises low high es → Ascends first es
rises-ascends low high [] h = tt
rises-ascends low high (e ∷ es) h = (rises-above (e.0 + 1) high e.0 es (omega arith) h.1, rises-ascends (e.0 + 1) high es h.1)

pub rises_lower : (low lower high : ℕ) (es : List (ℕ × Entry)) → lower ≤ low → Rises low high es → Rises lower high es
rises_lower low lower high [] le h = omega (arith, le, h)
rises_lower low lower high (e ∷ es) le h = (omega (arith, le, h.0), h.1)

pub rises_push : (low high : ℕ) (es : List (ℕ × Entry)) (e : Entry) → Rises low high es → Rises low (high + 1) (es ++ (high, e) ∷ [])
rises_push low high [] e h = (h, omega arith)
rises_push low high (x ∷ xs) e h = (h.0, rises_push (x.0 + 1) high xs e h.1)

pub rises-parts : (low high : ℕ) (xs ys : List (ℕ × Entry)) (y : ℕ × Entry) → Rises low high (xs ++ y ∷ ys) → Rises low y.0 xs × Rises y.0 high (y ∷ ys)
rises-parts low high [] ys y h = (h.0, (omega arith, h.1))
rises-parts low high (x ∷ xs) ys y h = let rest = rises-parts (x.0 + 1) high xs ys y h.1 in ((h.0, rest.0), rest.1)
