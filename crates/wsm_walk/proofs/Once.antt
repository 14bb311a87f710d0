-- In an orderly trail each node has at most one Start and one End.
use Rattle.wsm_walk.proofs.Common.{[], ℕ, ◌<◌, ◌∙◌, ◌∷◌, ◌≡◌, AllRows, ap, arith, AtMostOne, Bool, both_ways, cases_Bool, Entries, Entry, eqb-true, Facts, facts_of, find, inl, InOrder, inr, is_end_of, is_start_of, List, ltb-true, None}
use Rattle.wsm_walk.proofs.Common.{Option, Orderly, refl, RisesAfter, Some, subst, sym, true}
use Rattle.wsm_schema.specs.declared.entries.Entry.TheVariants as entry

-- each entry that passes stands at one position
abbrev AllAt : (Entry → Bool) → Option ℕ → Entries → Type 0
AllAt test at es = AllRows (λ e. test e.1 ≡ true → at ≡ Some e.0) es

abbrev or_zero : Option ℕ → ℕ
or_zero None = 0
or_zero (Some n) = n

-- behind that position none passes
none-later : (test : Entry → Bool) (p last : ℕ) (es : Entries) → p < last → RisesAfter last es → AllAt test (Some p) es → find (λ e. test e.1) es ≡ None
none-later test p last [] less rises all = refl
none-later test p last (e ∷ es) less rises all =
    let later : last < e.0 = ltb-true last e.0 rises.0 in
    elim (cases_Bool (test e.1)) [
      | inr other ↦ rw other (none-later test p e.0 es (omega (arith, less, later)) rises.1 all.1)
      | inl it ↦ let q : Some p ≡ Some e.0 = all.0 it in let same : p ≡ e.0 = ap or_zero q in absurd (omega (arith, same, less, later))
    ]

none-equal : (test : Entry → Bool) (p : ℕ) (es : Entries) → RisesAfter p es → AllAt test (Some p) es → find (λ e. test e.1) es ≡ None
none-equal test p [] rises all = refl
none-equal test p (e ∷ es) rises all =
    let later : p < e.0 = ltb-true p e.0 rises.0 in
    elim (cases_Bool (test e.1)) [
      | inr other ↦ rw other (none-later test p e.0 es later rises.1 all.1)
      | inl it ↦ let q : Some p ≡ Some e.0 = all.0 it in let same : p ≡ e.0 = ap or_zero q in absurd (omega (arith, same, later))
    ]

once : (test : Entry → Bool) (at : Option ℕ) (last : ℕ) (es : Entries) → RisesAfter last es → AllAt test at es → AtMostOne (λ e. test e.1) es
once test at last [] rises all = tt
once test at last (e ∷ es) rises all = (
  (λ it. none-equal test e.0 es rises.1 (subst (λ o. AllAt test o es) (all.0 it) all.1)),
  once test at e.0 es rises.1 all.1,
)

starts-at : (f : Facts) (n p : ℕ) (x : Entry) → InOrder f p x → is_start_of n x ≡ true → f.started n ≡ Some p
starts-at f n p (entry.Start node user reads) order it = ap f.started (sym (eqb-true node n it)) ∙ order
starts-at f n p (entry.End node writes choice) order it = absurd (both_ways _ refl it)
starts-at f n p (entry.Again node writes) order it = absurd (both_ways _ refl it)
starts-at f n p (entry.Wrote writes) order it = absurd (both_ways _ refl it)

ends-at : (f : Facts) (n p : ℕ) (x : Entry) → InOrder f p x → is_end_of n x ≡ true → f.ended n ≡ Some p
ends-at f n p (entry.End node writes choice) order it = ap f.ended (sym (eqb-true node n it)) ∙ order.0
ends-at f n p (entry.Start node user reads) order it = absurd (both_ways _ refl it)
ends-at f n p (entry.Again node writes) order it = absurd (both_ways _ refl it)
ends-at f n p (entry.Wrote writes) order it = absurd (both_ways _ refl it)

rows-to : {X : Type 0} (P Q : X → Type 0) → ((x : X) → P x → Q x) → (xs : List X) → AllRows P xs → AllRows Q xs
rows-to P Q h [] rows = tt
rows-to P Q h (x ∷ xs) rows = (h x rows.0, rows-to P Q h xs rows.1)

pub starts-once : (es : Entries) → Orderly es → (n : ℕ) → AtMostOne (λ e. is_start_of n e.1) es
starts-once es orderly n = once (is_start_of n) ((facts_of es).started n) 0 es orderly.rises (rows-to _ _ (λ e order it. starts-at (facts_of es) n e.0 e.1 order it) es orderly.order)

pub ends-once : (es : Entries) → Orderly es → (n : ℕ) → AtMostOne (λ e. is_end_of n e.1) es
ends-once es orderly n = once (is_end_of n) ((facts_of es).ended n) 0 es orderly.rises (rows-to _ _ (λ e order it. ends-at (facts_of es) n e.0 e.1 order it) es orderly.order)
