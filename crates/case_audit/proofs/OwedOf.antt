-- What is owed to each cell is the lines that call it, without the phases in which none does.
use Rattle.case_audit.proofs.Common.{[], ℕ, ◌<◌, ◌∙◌, ◌∷◌, ◌≡◌, AllRows, ap, arith, Asked, Bool, calls_in, filled, filter, get_or, given, length, length-range_with_len, List, map, numbered-filled, numbered_from, numbered_of, numbers, Owed}
use Rattle.case_audit.proofs.Common.{owed_of, PhaseCalls, range_with_len, refl, slice_get, slice_get-get_or, Some, subst, suc, sym, zero}
use Rattle.std.proofs.lemmas.List.FromFn.{get_or-range_with_len}

abbrev lines_in : ℕ × List Asked → List Asked
lines_in q = q.1

without-numbers : (ps : List PhaseCalls) → map calls_in ps ≡ map lines_in (map (λ (p : PhaseCalls). (p.phase, calls_in p)) ps)
without-numbers [] = refl
without-numbers (p ∷ ps) = ap (λ xs. calls_in p ∷ xs) (without-numbers ps)

pub range-at : (n i : ℕ) → i < n → slice_get (range_with_len 0 n) i ≡ Some i
range-at n i low = slice_get-get_or (range_with_len 0 n) i 0 (omega (arith, low, length-range_with_len 0 n)) ∙ ap Some (get_or-range_with_len 0 n i 0 low ∙ omega arith)

module _ {C : Type 0} (calls : C → Asked → Bool) (script : List (List Asked)) where
  abbrev owed_by : C → List (List Asked)
  owed_by c = map (λ lines. filter (λ l. calls c l) lines) script

  one-filled : (o : Owed) (c : C) → numbered_of o ≡ numbered_from 0 (owed_by c) → owed_of o ≡ filled (owed_by c)
  one-filled o c is = without-numbers o.phases.items ∙ (ap (map lines_in) is ∙ numbered-filled 0 (owed_by c))

  pub owed-filled : (cs : List C) (owed : List Owed) (i : ℕ) (c : C) (o : Owed) → numbers owed ≡ given calls cs script → slice_get cs i ≡ Some c → i < length owed → o ≡ get_or owed i o → owed_of o ≡ filled (owed_by c)
  owed-filled [] (x ∷ xs) i c o same at low is = absurd (cc (at))
  owed-filled cs [] i c o same at low is = absurd (omega (arith, low))
  owed-filled (d ∷ ds) (x ∷ xs) zero c o same at low is =
      let cell : d ≡ c = cc (at) in
      let head : numbered_of x ≡ numbered_from 0 (owed_by d) = cc (same) in
      one-filled o c (ap numbered_of is ∙ (head ∙ ap (λ e. numbered_from 0 (owed_by e)) cell))
  owed-filled (d ∷ ds) (x ∷ xs) (suc i) c o same at low is = owed-filled ds xs i c o (cc (same)) at (omega (arith, low)) is

  pub each-owed : (P : List (List Asked) → Type 0) → ((c : C) → P (filled (owed_by c))) → (cs : List C) (owed : List Owed) → numbers owed ≡ given calls cs script → AllRows (λ (o : Owed). P (owed_of o)) owed
  each-owed P each cs [] same = tt
  each-owed P each [] (x ∷ xs) same = absurd (cc (same))
  each-owed P each (d ∷ ds) (x ∷ xs) same = (subst P (sym (one-filled x d (cc (same)))) (each d), each-owed P each ds xs (cc (same)))

  pub owed-many : (cs : List C) (owed : List Owed) → numbers owed ≡ given calls cs script → length owed ≡ length cs
  owed-many [] [] same = refl
  owed-many [] (x ∷ xs) same = absurd (cc (same))
  owed-many (d ∷ ds) [] same = absurd (cc (same))
  owed-many (d ∷ ds) (x ∷ xs) same = ap suc (owed-many ds xs (cc (same)))
