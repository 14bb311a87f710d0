-- The phases of what is owed, one by one.
use Rattle.case_audit.proofs.Common.{[], ℕ, ◌+◌, ◌<◌, ◌∙◌, ◌∷◌, ◌≡◌, ◌≤◌, AllRows, ap, arith, asked_of, calls_in, drop, drop_more, get_or, how_many, length, length-map, List, Owed, owed_of, PhaseCalls, subst, suc, sym, zero}
use Rattle.case_audit.proofs.Changes.{map-at}

pub row-at : {X : Type 0} (P : X → Type 0) (xs : List X) (n : ℕ) (x : X) → AllRows P xs → n < length xs → x ≡ get_or xs n x → P x
row-at P [] n x all low is = absurd (omega (arith, low))
row-at P (y ∷ ys) zero x (one, all) low is = subst P (sym is) one
row-at P (y ∷ ys) (suc n) x (one, all) low is = row-at P ys n x all (omega (arith, low)) is

-- a phase of what is owed, where it stands
pub record PhaseAt (o : Owed) (n : ℕ) (p : PhaseCalls) : Type 0 where
  pub low : n < length (owed_of o)
  pub is : calls_in p ≡ get_or (owed_of o) n (calls_in p)
  pub many : how_many (drop n (owed_of o)) ≡ length p.calls.items + how_many (drop (n + 1) (owed_of o))

pub phase-at : (o : Owed) (items : List PhaseCalls) (n : ℕ) (p : PhaseCalls) → items ≡ o.phases.items → n < length items → p ≡ get_or items n p → PhaseAt o n p
phase-at o items n p same within here = record {
  low = low;
  is = is;
  many =
      ap how_many (drop_more (owed_of o) n (calls_in p) low ∙ ap (λ ls. ls ∷ drop (n + 1) (owed_of o)) (sym is))
      ∙ ap (λ k. k + how_many (drop (n + 1) (owed_of o))) (length-map p.calls.items asked_of);
}
  where
    low : n < length (owed_of o)
    low = omega (arith, within, ap length same, length-map o.phases.items calls_in)

    is : calls_in p ≡ get_or (owed_of o) n (calls_in p)
    is = map-at calls_in o.phases.items n p (omega (arith, within, ap length same)) (subst (λ ps. p ≡ get_or ps n p) same here)

-- behind the last one
pub phase-end : (o : Owed) (n : ℕ) (items : List PhaseCalls) → items ≡ o.phases.items → length items ≤ n → n ≤ length items → n ≡ length (owed_of o)
phase-end o n items same past in_all = omega (arith, past, in_all, ap length same, length-map o.phases.items calls_in)
