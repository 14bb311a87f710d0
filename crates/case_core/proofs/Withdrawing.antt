-- A trail from which the Start of a node is taken.
use Rattle.case_core.proofs.Common.{[], ℕ, ◌||◌, ◌∙◌, ◌∷◌, ◌≡◌, ◌≤◌, again_once, agains_once, all-rows-map, AllRows, ap, arith, both_ways, cases_Bool, early, Entry, eqb-true, facts_of, false, has_again, inl, InOrder, inr, is_again_of}
use Rattle.case_core.proofs.Common.{is_start_of, length, List, ltb-true, None, not, Option, Orderly, position_of, refl, RisesAfter, same_Some, Some, starts_of, sym, true, without_start}
use Rattle.wsm_schema.specs.declared.entries.Entry.TheVariants as entry

module _ (n : ℕ) where
  -- ---- no loop is repeated twice
  no_again : (k : ℕ) (x : Entry) → is_start_of n x ≡ true → is_again_of k x ≡ false
  no_again k (entry.Start node user reads) h = refl
  no_again k (entry.End node writes choice) h = absurd (both_ways _ refl h)
  no_again k (entry.Again node writes) h = absurd (both_ways _ refl h)
  no_again k (entry.Wrote writes) h = absurd (both_ways _ refl h)

  has-left : (k : ℕ) (es : List (ℕ × Entry)) → has_again k (without_start n es) ≡ has_again k es
  has-left k [] = refl
  has-left k (e ∷ es) =
      elim (cases_Bool (is_start_of n e.1)) [
        | inl it ↦ rw (it, no_again k e.1 it) (has-left k es)
        | inr other ↦ rw other (ap (λ b. is_again_of k e.1 || b) (has-left k es))
      ]

  once-left : (x : Entry) (es : List (ℕ × Entry)) → again_once x (without_start n es) ≡ again_once x es
  once-left (entry.Start node user reads) es = refl
  once-left (entry.End node writes choice) es = refl
  once-left (entry.Again node writes) es = ap not (has-left node es)
  once-left (entry.Wrote writes) es = refl

  once-start : (x : Entry) (es : List (ℕ × Entry)) → is_start_of n x ≡ true → again_once x es ≡ true
  once-start (entry.Start node user reads) es h = refl
  once-start (entry.End node writes choice) es h = refl
  once-start (entry.Again node writes) es h = absurd (both_ways _ refl h)
  once-start (entry.Wrote writes) es h = refl

  pub agains-left : (es : List (ℕ × Entry)) → agains_once (without_start n es) ≡ agains_once es
  agains-left [] = refl
  agains-left (e ∷ es) =
      elim (cases_Bool (is_start_of n e.1)) [
        | inl it ↦ rw (it, once-start e.1 es it) (agains-left es)
        | inr other ↦ rw (other, once-left e.1 es, agains-left es) refl
      ]

  -- ---- a node that was started has one Start
  abbrev StandsOnly : ℕ → ℕ × Entry → Type 0
  StandsOnly q e = is_start_of n e.1 ≡ true → e.0 ≡ q

  none-behind : (q last : ℕ) → q ≤ last → (es : List (ℕ × Entry)) → RisesAfter last es → AllRows (StandsOnly q) es → starts_of n es ≡ []
  none-behind q last le [] rises only = refl
  none-behind q last le (e ∷ es) rises only =
      let later = ltb-true last e.0 rises.0 in
      elim (cases_Bool (is_start_of n e.1)) [
        | inl it ↦ let at = only.0 it in absurd (omega (arith, le, later, at))
        | inr other ↦ rw other (none-behind q e.0 (omega (arith, le, later)) es rises.1 only.1)
      ]

  at-most : (q last : ℕ) (es : List (ℕ × Entry)) → RisesAfter last es → AllRows (StandsOnly q) es → length (starts_of n es) ≤ 1
  at-most q last [] rises only = omega arith
  at-most q last (e ∷ es) rises only =
      elim (cases_Bool (is_start_of n e.1)) [
        | inl it ↦ let none = none-behind q e.0 (let at = only.0 it in omega (arith, at)) es rises.1 only.1 in rw (it, none) (omega arith)
        | inr other ↦ rw other (at-most q e.0 es rises.1 only.1)
      ]

  at-least : (q : ℕ) (es : List (ℕ × Entry)) → position_of (is_start_of n) es ≡ Some q → 1 ≤ length (starts_of n es)
  at-least q [] h = absurd (cc)
  at-least q (e ∷ es) h =
      elim (cases_Bool (is_start_of n e.1)) [
        | inl it ↦ rw it (omega arith)
        | inr other ↦ rw other (at-least q es (rw other at h))
      ]

  in-order : (es : List (ℕ × Entry)) (q : ℕ) → (facts_of es).started n ≡ Some q → (e : ℕ × Entry) → InOrder (facts_of es) e.0 e.1 → StandsOnly q e
  in-order es q at (p, entry.Start node user reads) h it =
      let same : node ≡ n = eqb-true node n it in
      same_Some p q (sym h ∙ ap (facts_of es).started same ∙ at)
  in-order es q at (p, entry.End node writes choice) h it = absurd (both_ways _ refl it)
  in-order es q at (p, entry.Again node writes) h it = absurd (both_ways _ refl it)
  in-order es q at (p, entry.Wrote writes) h it = absurd (both_ways _ refl it)

  pub one-start : (es : List (ℕ × Entry)) (p : ℕ) → Orderly es → early p ((facts_of es).started n) ≡ true → length (starts_of n es) ≡ 1
  one-start es p orderly begun = go ((facts_of es).started n) refl begun
    where
      go : (o : Option ℕ) → (facts_of es).started n ≡ o → early p o ≡ true → length (starts_of n es) ≡ 1
      go None at h = absurd (both_ways _ refl h)
      go (Some q) at h =
          let most = at-most q 0 es orderly.rises (all-rows-map (λ e. InOrder (facts_of es) e.0 e.1) (StandsOnly q) (in-order es q at) es orderly.order) in
          let least = at-least q es at in
          omega (arith, most, least)
