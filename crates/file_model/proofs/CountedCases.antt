-- The counts of cases by their types.
use Rattle.file_model.proofs.Common.{[], ℕ, ◌++◌, ◌+◌, ◌-◌, ◌<◌, ◌==◌, ◌∙◌, ◌∷◌, ◌≡◌, ◌≤◌, ap, AreCounted, arith, Bool, cases_of_type, cond, count_by-le-length, eq-eqb, eqb-false, eqb-true, false, get_or, get_or-set_other, get_or-set_same}
use Rattle.file_model.proofs.Common.{length, List, refl, set, slice_index, subst, suc, sum_by_push, sym, take, take_more, true, zero}
use Rattle.file_model.specs.declared.files.CaseDecl.{CaseDecl}

-- a count of 0 behind the others changes none
pub zero_behind : (counts : List ℕ) (t : ℕ) → slice_index (counts ++ 0 ∷ []) t ≡ slice_index counts t
zero_behind [] zero = refl
zero_behind [] (suc t) = refl
zero_behind (c ∷ counts) zero = refl
zero_behind (c ∷ counts) (suc t) = zero_behind counts t

-- a type has no more cases than there are
pub few_of_type : (t : ℕ) (cases : List CaseDecl) → cases_of_type t cases ≤ length cases
few_of_type t cases = count_by-le-length (λ (d : CaseDecl). d.id.type_no == t) cases

-- a type's count with one case more
pushed : (cases : List CaseDecl) (d : CaseDecl) (t : ℕ) → cases_of_type t (cases ++ d ∷ []) ≡ cases_of_type t cases + cond (d.id.type_no == t) 1 0
pushed cases d t = sum_by_push (λ (e : CaseDecl). cond (e.id.type_no == t) 1 0) cases d

own : (counts : List ℕ) (cases : List CaseDecl) (d : CaseDecl) (n : ℕ) → d.id.type_no < length counts → n ≡ cases_of_type d.id.type_no cases + 1 →
    cases_of_type d.id.type_no (cases ++ d ∷ []) ≡ get_or (set counts d.id.type_no n) d.id.type_no 0
own counts cases d n within is =
    pushed cases d d.id.type_no ∙ ap (λ (test : Bool). cases_of_type d.id.type_no cases + cond test 1 0) (eq-eqb d.id.type_no d.id.type_no refl)
    ∙ sym is ∙ sym (get_or-set_same counts d.id.type_no n 0 within)

other : (counts : List ℕ) (cases : List CaseDecl) (d : CaseDecl) (n t : ℕ) → AreCounted counts cases → (d.id.type_no == t) ≡ false →
    cases_of_type t (cases ++ d ∷ []) ≡ get_or (set counts d.id.type_no n) t 0
other counts cases d n t h apart =
    let same : cases_of_type t cases + 0 ≡ cases_of_type t cases = omega arith in
    pushed cases d t ∙ ap (λ (test : Bool). cases_of_type t cases + cond test 1 0) apart ∙ same ∙ h t
    ∙ sym (get_or-set_other counts d.id.type_no t n 0 (λ e. eqb-false d.id.type_no t apart (sym e)))

pub one_counted : (counts : List ℕ) (cases : List CaseDecl) (d : CaseDecl) (n : ℕ) → AreCounted counts cases → d.id.type_no < length counts →
    n ≡ cases_of_type d.id.type_no cases + 1 → AreCounted (set counts d.id.type_no n) (cases ++ d ∷ [])
one_counted counts cases d n h within is t = go (d.id.type_no == t) refl
  where
    go : (test : Bool) → (d.id.type_no == t) ≡ test → cases_of_type t (cases ++ d ∷ []) ≡ get_or (set counts d.id.type_no n) t 0
    go true e = subst (λ (u : ℕ). cases_of_type u (cases ++ d ∷ []) ≡ get_or (set counts d.id.type_no n) u 0) (eqb-true d.id.type_no t e) (own counts cases d n within is)
    go false e = other counts cases d n t h e

-- ---- the last case is taken back
pub last_counted : (counts : List ℕ) (cases : List CaseDecl) (d : CaseDecl) → AreCounted counts (cases ++ d ∷ []) → cases_of_type d.id.type_no cases + 1 ≡ slice_index counts d.id.type_no
last_counted counts cases d h =
    sym (pushed cases d d.id.type_no ∙ ap (λ (test : Bool). cases_of_type d.id.type_no cases + cond test 1 0) (eq-eqb d.id.type_no d.id.type_no refl))
    ∙ h d.id.type_no

pub has_count : (counts : List ℕ) (t : ℕ) → 0 < slice_index counts t → t < length counts
has_count [] zero some = absurd (omega (arith, some))
has_count [] (suc t) some = absurd (omega (arith, some))
has_count (c ∷ counts) zero some = omega arith
has_count (c ∷ counts) (suc t) some = omega (arith, has_count counts t some)

-- the last of the first so many cases has a count
pub last_of_front : (counts : List ℕ) (cases : List CaseDecl) (left : ℕ) (d : CaseDecl) → 0 < left → left ≤ length cases → AreCounted counts (take left cases)
    → AreCounted counts (take (left - 1) cases ++ get_or cases (left - 1) d ∷ [])
last_of_front counts cases left d some within h =
    let on : left ≡ left - 1 + 1 = omega arith in
    subst (λ (l : List CaseDecl). AreCounted counts l) (ap (λ n. take n cases) on ∙ take_more cases (left - 1) d (omega arith)) h

pub front_counted : (counts : List ℕ) (cases : List CaseDecl) (left : ℕ) (d : CaseDecl) → 0 < left → left ≤ length cases → AreCounted counts (take left cases)
    → cases_of_type (get_or cases (left - 1) d).id.type_no (take (left - 1) cases) + 1 ≡ slice_index counts (get_or cases (left - 1) d).id.type_no
front_counted counts cases left d some within h = last_counted counts (take (left - 1) cases) (get_or cases (left - 1) d) (last_of_front counts cases left d some within h)

pub front_within : (counts : List ℕ) (cases : List CaseDecl) (left : ℕ) (d : CaseDecl) → 0 < left → left ≤ length cases → AreCounted counts (take left cases)
    → (get_or cases (left - 1) d).id.type_no < length counts
front_within counts cases left d some within h =
    has_count counts (get_or cases (left - 1) d).id.type_no (omega (arith, front_counted counts cases left d some within h))
