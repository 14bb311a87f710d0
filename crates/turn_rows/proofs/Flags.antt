-- Flags, and the first of them that is raised.
use Rattle.turn_rows.proofs.Common.{[], ℕ, ◌+◌, ◌<◌, ◌∷◌, ◌≡◌, ◌≤◌, arith, Bool, drop, false, length, List, ltb, None, not, position, position_or_len, refl, slice_get, Some, suc, true, unwrap_or, zero}
use Rattle.std.proofs.{Math.Bool.cond, lemmas.Bool.ltb-false, lemmas.List.Sums.prefix_len-le-length}

-- before it all are lowered
pub lowered_before : (flags : List Bool) (from p : ℕ) → from ≤ length flags → from ≤ p → p < from + position_or_len (λ b. b) (drop from flags) → slice_get flags p ≡ Some false
lowered_before [] zero p le ge lt = absurd (omega (arith, lt))
lowered_before [] (suc from) p le ge lt = absurd (omega (arith, le))
lowered_before (true ∷ flags) zero p le ge lt = absurd (omega (arith, lt))
lowered_before (false ∷ flags) zero zero le ge lt = refl
lowered_before (false ∷ flags) zero (suc p) le ge lt = lowered_before flags zero p (omega arith) (omega arith) (omega (arith, lt))
lowered_before (b ∷ flags) (suc from) zero le ge lt = absurd (omega (arith, ge))
lowered_before (b ∷ flags) (suc from) (suc p) le ge lt = lowered_before flags from p (omega (arith, le)) (omega (arith, ge)) (omega (arith, lt))

-- its place, or the end where there is none
pub first_or_end : (flags : List Bool) → unwrap_or (position (λ b. b) flags) (length flags) ≡ position_or_len (λ b. b) flags
first_or_end flags = either (ltb first (length flags)) refl
  where
    first : ℕ
    first = position_or_len (λ b. b) flags

    either : (b : Bool) → ltb first (length flags) ≡ b → unwrap_or (cond b (Some first) None) (length flags) ≡ first
    either true is = refl
    either false is = omega (arith, ltb-false first (length flags) is, prefix_len-le-length (λ b. not b) flags)
