-- The lines of the cases up to some number.
use Rattle.std.proofs.Common.{◌≡◌, ℕ, zero, suc, ◌+◌, ◌-◌, ◌≤◌, List, [], ◌∷◌, ◌++◌, refl, ap, sym, ◌∙◌, append_assoc, append-nil, arith}
use Rattle.std.specs.List.{flat_map, range_with_len}
use Rattle.adept_load.specs.Load.{each_case}

-- one more number behind the others
flat_map-range_more : (lines : ℕ → List ℕ) (a n : ℕ) → flat_map lines (range_with_len a (suc n)) ≡ flat_map lines (range_with_len a n) ++ lines (a + n)
flat_map-range_more lines a zero =
    let here : a ≡ a + 0 = omega arith in
    append-nil (lines a) ∙ ap lines here
flat_map-range_more lines a (suc n) =
    let here : a + 1 + n ≡ a + suc n = omega arith in
    ap (λ t. lines a ++ t) (flat_map-range_more lines (a + 1) n ∙ ap (λ i. flat_map lines (range_with_len (a + 1) n) ++ lines i) here)
    ∙ sym (append_assoc (lines a) (flat_map lines (range_with_len (a + 1) n)) (lines (a + suc n)))

-- no cases have no lines
pub each_case-none : (lines : ℕ → List ℕ) (text : List ℕ) → text ≡ text ++ each_case lines 0
unfolding each_case
each_case-none lines text = sym (append-nil text)

-- the lines of a case stand behind those of the cases before it
each_case-last : (lines : ℕ → List ℕ) (i : ℕ) → 1 ≤ i → each_case lines i ≡ each_case lines (i - 1) ++ lines i
unfolding each_case
each_case-last lines zero h = absurd (omega arith)
each_case-last lines (suc i) h =
    let back : suc i - 1 ≡ i = omega arith in
    let here : 1 + i ≡ suc i = omega arith in
    rw back (flat_map-range_more lines 1 i ∙ ap (λ k. flat_map lines (range_with_len 1 i) ++ lines k) here)

pub each_case-more : (lines : ℕ → List ℕ) (text old new : List ℕ) (i : ℕ) → 1 ≤ i → old ≡ text ++ each_case lines (i - 1) → new ≡ old ++ lines i → new ≡ text ++ each_case lines i
each_case-more lines text old new i h before here =
    here ∙ ap (λ t. t ++ lines i) before ∙ append_assoc text (each_case lines (i - 1)) (lines i) ∙ ap (λ t. text ++ t) (sym (each_case-last lines i h))

-- the same where the next case is counted already
pub each_case-next : (lines : ℕ → List ℕ) (text old new : List ℕ) (i : ℕ) → 1 ≤ i → old ≡ text ++ each_case lines (i - 1) → new ≡ old ++ lines i → new ≡ text ++ each_case lines (i + 1 - 1)
each_case-next lines text old new i h before here =
    let back : i + 1 - 1 ≡ i = omega arith in
    rw back (each_case-more lines text old new i h before here)
