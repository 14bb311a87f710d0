-- Texts in quotes, written in runs.
use Rattle.std.proofs.Common.{◌≡◌, Bool, true, false, ℕ, zero, suc, ◌+◌, ◌<◌, ◌≤◌, List, [], ◌∷◌, ◌++◌, length, get_or, take, drop, take-append-drop, Some, None, not, refl, ap, sym, ◌∙◌, arith, take_all}
use Rattle.std.proofs.{lemmas.List.Quantifiers.position-Some, lemmas.List.Sums.prefix_len_passes, lemmas.Bool.Decides.nat_tests, lemmas.Grind.flat_map-append, lemmas.List.take_more}
use Rattle.std.specs.List.{flat_map, position, position_or_len}
use Rattle.report_words.specs.Words.{EndsRun, escaped, is_escaped}

-- bytes of which none is escaped stand as they are
pub flat_map-escaped-plain : (t : List ℕ) (i : ℕ) → ((k : ℕ) → k < i → is_escaped (get_or t k 0) ≡ false) → flat_map escaped (take i t) ≡ take i t
flat_map-escaped-plain [] zero none = refl
flat_map-escaped-plain [] (suc i) none = refl
flat_map-escaped-plain (b ∷ bs) zero none = refl
flat_map-escaped-plain (b ∷ bs) (suc i) none =
    rw (none 0 (omega arith)) (ap (λ r. b ∷ r) (flat_map-escaped-plain bs i (λ k h. none (suc k) (omega (arith, h)))))

-- the first byte that is escaped ends a run
pub EndsRun-from_position : (t : List ℕ) (i : ℕ) → position is_escaped t ≡ Some i → EndsRun t i
EndsRun-from_position t i is =
    let found = position-Some is_escaped t i 0 is in
    record { within = found.0; plain = flat_map-escaped-plain t i found.2; marked = found.1 }

-- a run, and the byte behind it
pub flat_map-escaped-run : (t : List ℕ) (i : ℕ) → EndsRun t i → flat_map escaped (take (i + 1) t) ≡ take i t ++ 92 ∷ get_or t i 0 ∷ []
flat_map-escaped-run t i run =
    ap (flat_map escaped) (take_more t i 0 run.within)
    ∙ flat_map-append escaped (take i t) (get_or t i 0 ∷ [])
    ∙ rw (run.plain, run.marked) refl

-- where no byte is escaped
false-from_not : (b : Bool) → not b ≡ true → b ≡ false
false-from_not true is = cc
false-from_not false is = refl

pub flat_map-escaped-none : (t : List ℕ) → position is_escaped t ≡ None → flat_map escaped t ≡ t
flat_map-escaped-none t none =
    let past : length t ≤ position_or_len is_escaped t = grind (arith, nat_tests) in
    let plain = flat_map-escaped-plain t (length t) (λ k h. false-from_not (is_escaped (get_or t k 0)) (prefix_len_passes (λ b. not (is_escaped b)) t k 0 (omega (arith, h, past)))) in
    rw (take_all (length t) t (omega arith)) at plain

-- a text in two parts
pub flat_map-escaped-split : (t : List ℕ) (n : ℕ) → flat_map escaped t ≡ flat_map escaped (take n t) ++ flat_map escaped (drop n t)
flat_map-escaped-split t n = ap (flat_map escaped) (sym (take-append-drop n t)) ∙ flat_map-append escaped (take n t) (drop n t)
