-- Counting the cases of each type.
use Rattle.crew_run.proofs.Common.{ℕ, ◌+◌, ◌<◌, ◌==◌, ◌∙◌, ◌≡◌, ◌≢◌, ◌≤◌, ap, arith, CaseDecl, cases_of_type, count_by_more_no, count_by_more_yes, eq-eqb, false, get-set_same, get_or, get_or-le-sum_by, get_or_from_slice_get}
use Rattle.crew_run.proofs.Common.{length, length-replicate, length-set, List, ne_eqb, refl, replicate, set, slice_get, Some, subst, sum, sum_by-set, sym, take, take_all, true}
use Rattle.crew_run.proofs.Common.{set-other, slice_get-get_or}
use Rattle.std.proofs.lemmas.List.{get_or-replicate}
use Rattle.std.proofs.lemmas.List.Folds.{sum_by-replicate}
use mathlib.Core.Logic.{dite}
use native.Mathlib.Decide.{ℕ_discrete}

replicate_at : (n t x : ℕ) → t < n → slice_get (replicate n x) t ≡ Some x
replicate_at n t x lt = slice_get-get_or (replicate n x) t x (omega (arith, lt, length-replicate n x)) ∙ ap (λ (m : ℕ). Some m) (get_or-replicate n t x x lt)

-- what stands at another place than that which is put
pub other_at : {A : Type 0} (xs : List A) (i j : ℕ) (x y : A) → j ≢ i → slice_get xs j ≡ Some x → slice_get (set xs i y) j ≡ Some x
other_at xs i j x y apart is = set-other xs i j y (λ same. apart (sym same)) ∙ is

-- a declaration more is one case more of its own type, and of no other
pub counted-own : (ds : List CaseDecl) (k : ℕ) (d : CaseDecl) → k < length ds → d ≡ get_or ds k d → cases_of_type d.id.type_no (take (k + 1) ds) ≡ cases_of_type d.id.type_no (take k ds) + 1
counted-own ds k d lt at = count_by_more_yes (λ e. e.id.type_no == d.id.type_no) ds k d lt (subst (λ (e : CaseDecl). (e.id.type_no == d.id.type_no) ≡ true) at (eq-eqb d.id.type_no d.id.type_no refl))

pub counted-other : (ds : List CaseDecl) (k t : ℕ) (d : CaseDecl) → k < length ds → d ≡ get_or ds k d → t ≢ d.id.type_no → cases_of_type t (take (k + 1) ds) ≡ cases_of_type t (take k ds)
counted-other ds k t d lt at apart = count_by_more_no (λ e. e.id.type_no == t) ds k d lt (subst (λ (e : CaseDecl). (e.id.type_no == t) ≡ false) at (ne_eqb d.id.type_no t (λ e. apart (sym e))))

-- the first k declarations are counted, for each of n types
pub record CountedUpTo (k n : ℕ) (ds : List CaseDecl) (counts : List ℕ) : Type 0 where
  pub even : length counts ≡ n
  pub each : (t : ℕ) → t < n → slice_get counts t ≡ Some (cases_of_type t (take k ds))
  pub total : sum counts ≡ k

pub none_counted : (n : ℕ) (ds : List CaseDecl) → CountedUpTo 0 n ds (replicate n 0)
none_counted n ds = record { even = length-replicate n 0; each = λ t lt. replicate_at n t 0 lt; total = (let none = sum_by-replicate (λ x. x) n 0 in omega (arith, none)) }

pub count_at : (k n t : ℕ) (ds : List CaseDecl) (counts : List ℕ) → CountedUpTo k n ds counts → t < n → get_or counts t 0 ≡ cases_of_type t (take k ds)
count_at k n t ds counts c lt = get_or_from_slice_get counts t (cases_of_type t (take k ds)) 0 (c.each t lt)

-- no count is more than the declarations that are counted
pub count_within : (k n t : ℕ) (ds : List CaseDecl) (counts : List ℕ) → CountedUpTo k n ds counts → t < n → get_or counts t 0 ≤ k
count_within k n t ds counts c lt = omega (arith, c.even, c.total, get_or-le-sum_by (λ x. x) counts t 0 (omega (arith, c.even)))

pub one_more_counted : (k n : ℕ) (ds : List CaseDecl) (counts : List ℕ) (d : CaseDecl) → CountedUpTo k n ds counts → k < length ds → d ≡ get_or ds k d → d.id.type_no < n
    → CountedUpTo (k + 1) n ds (set counts d.id.type_no (get_or counts d.id.type_no 0 + 1))
one_more_counted k n ds counts d c lt at typed =
    let own = d.id.type_no in
    let new = get_or counts own 0 + 1 in
    let is = count_at k n own ds counts c typed in
    let at_own : slice_get (set counts own new) own ≡ Some (cases_of_type own (take (k + 1) ds)) =
    get-set_same counts own new (omega (arith, c.even)) ∙ ap (λ (m : ℕ). Some m) (omega (arith, is, counted-own ds k d lt at)) in
    let at_other : (t : ℕ) → t < n → t ≢ own → slice_get (set counts own new) t ≡ Some (cases_of_type t (take (k + 1) ds)) =
    λ t below apart. other_at counts own t (cases_of_type t (take k ds)) new apart (c.each t below) ∙ ap (λ (m : ℕ). Some m) (sym (counted-other ds k t d lt at apart)) in
    record {
      even = length-set counts own new ∙ c.even;
      each = λ t below.
          dite (ℕ_discrete t own)
          (λ (same : t ≡ own). subst (λ (m : ℕ). slice_get (set counts own new) m ≡ Some (cases_of_type m (take (k + 1) ds))) (sym same) at_own)
          (λ apart. at_other t below apart);
      total = omega (arith, c.total, sum_by-set (λ x. x) counts own new 0 (omega (arith, c.even)));
    }

pub all_counted : (k n : ℕ) (ds : List CaseDecl) (counts : List ℕ) → CountedUpTo k n ds counts → length ds ≤ k → (t : ℕ) → t < n → slice_get counts t ≡ Some (cases_of_type t ds)
all_counted k n ds counts c le t lt = c.each t lt ∙ ap (λ (xs : List CaseDecl). Some (cases_of_type t xs)) (take_all k ds le)
