-- What follows for the ids of cases: a declared id is one of its type's, and no two cases have one id.
use Rattle.file_facts.proofs.Common.{[], ℕ, ◌+◌, ◌<◌, ◌∷◌, ◌≡◌, ◌≤◌, AllRows, and_parts, ap, ArePlaced, arith, Bool, CaseDecl, CaseId, cases_of_type, cases_order, count_by_more_yes, eq-eqb, eqb-true, get_or, get_or_from_slice_get, has_id}
use Rattle.file_facts.proofs.Common.{HasType, inl, inr, IsDeclared, List, list_any, or_cases, refl, same_Some, slice_get, slice_get_within, Some, suc, sum_by-take-le, sym, take, true, zero}
use Rattle.std.specs.Prelude.{◌==◌}

-- ---- at an index
pub row-at : {X : Type 0} (P : X → Type 0) (xs : List X) (k : ℕ) (x : X) → AllRows P xs → slice_get xs k ≡ Some x → P x
row-at P [] k x h at = absurd (cc)
row-at P (y ∷ xs) zero x h at = rw (← same_Some y x at) h.0
row-at P (y ∷ xs) (suc k) x h at = row-at P xs k x h.1 at

found-at : {X : Type 0} (test : X → Bool) (xs : List X) → list_any test xs ≡ true → (k : ℕ) × (x : X) × (slice_get xs k ≡ Some x) × (test x ≡ true)
found-at test [] h = absurd (cc)
found-at test (x ∷ xs) h =
    elim (or_cases (test x) (list_any test xs) h) [
      | inl here ↦ (zero, x, refl, here)
      | inr later ↦ let r = found-at test xs later in (suc r.0, r.1, r.2, r.3)
    ]

take-earlier : {X : Type 0} (xs : List X) (j k : ℕ) → j ≤ k → take j (take k xs) ≡ take j xs
take-earlier [] zero zero le = refl
take-earlier [] zero (suc k) le = refl
take-earlier [] (suc j) zero le = refl
take-earlier [] (suc j) (suc k) le = refl
take-earlier (x ∷ xs) zero k le = refl
take-earlier (x ∷ xs) (suc j) zero le = absurd (omega (arith, le))
take-earlier (x ∷ xs) (suc j) (suc k) le = ap (λ r. x ∷ r) (take-earlier xs j k (omega (arith, le)))

-- ---- declared ids
same_id : (c : CaseId) (d : CaseDecl) → has_id c d ≡ true → (d.id.type_no ≡ c.type_no) × (d.id.place ≡ c.place)
same_id c d h = let both = and_parts _ _ h in (eqb-true d.id.type_no c.type_no both.0, eqb-true d.id.place c.place both.1)

pub declared-typed : (types : ℕ) (cases : List CaseDecl) (c : CaseId) → AllRows (HasType types) cases → IsDeclared c cases → c.type_no < types
declared-typed types cases c typed declared =
    let at = found-at (has_id c) cases declared in
    let same = same_id c at.1 at.3 in
    let below : at.1.id.type_no < types = row-at (HasType types) cases at.0 at.1 typed at.2 in
    omega (arith, below, same.0)

-- one case more of its type stands behind those before it
counted-next : (cases : List CaseDecl) (k : ℕ) (d : CaseDecl) → slice_get cases k ≡ Some d → cases_of_type d.id.type_no (take (k + 1) cases) ≡ cases_of_type d.id.type_no (take k cases) + 1
counted-next cases k d at =
    let is : get_or cases k d ≡ d = get_or_from_slice_get cases k d d at in
    count_by_more_yes (λ e. e.id.type_no == d.id.type_no) cases k d (slice_get_within cases k d at) (rw is (eq-eqb d.id.type_no d.id.type_no refl))

counted-upto : (t : ℕ) (cases : List CaseDecl) (j k : ℕ) → j ≤ k → cases_of_type t (take j cases) ≤ cases_of_type t (take k cases)
counted-upto t cases j k le =
    rw (← take-earlier cases j k le) (sum_by-take-le _ (take k cases) j)

own-place : (cases : List CaseDecl) (k : ℕ) (d : CaseDecl) → ArePlaced cases → slice_get cases k ≡ Some d → d.id.place < cases_of_type d.id.type_no cases
own-place cases k d placed at =
    let own = placed k d at in
    let next = counted-next cases k d at in
    let all : cases_of_type d.id.type_no (take (k + 1) cases) ≤ cases_of_type d.id.type_no cases = sum_by-take-le _ cases (k + 1) in
    omega (arith, own, next, all)

has-place : (cases : List CaseDecl) (k : ℕ) (d : CaseDecl) (c : CaseId) → ArePlaced cases → slice_get cases k ≡ Some d → has_id c d ≡ true → c.place < cases_of_type c.type_no cases
has-place cases k d c placed at is =
    let same = same_id c d is in
    rw (← same.0, ← same.1) (own-place cases k d placed at)

pub declared-placed : (cases : List CaseDecl) (c : CaseId) → ArePlaced cases → IsDeclared c cases → c.place < cases_of_type c.type_no cases
declared-placed cases c placed declared =
    let at = found-at (has_id c) cases declared in
    has-place cases at.0 at.1 c placed at.2 at.3

-- ---- no two cases have one id
not-before : (cases : List CaseDecl) (j k : ℕ) (d e : CaseDecl) → ArePlaced cases → slice_get cases j ≡ Some d → slice_get cases k ≡ Some e → d.id ≡ e.id → j < k → ⊥
not-before cases j k d e placed at_j at_k same before =
    let first : d.id.place ≡ cases_of_type d.id.type_no (take j cases) = placed j d at_j in
    let later : d.id.place ≡ cases_of_type d.id.type_no (take k cases) = rw same (placed k e at_k) in
    let next = counted-next cases j d at_j in
    let upto = counted-upto d.id.type_no cases (j + 1) k (omega (arith, before)) in
    omega (arith, first, later, next, upto)

pub ids-distinct : (cases : List CaseDecl) (j k : ℕ) (d e : CaseDecl) → ArePlaced cases → slice_get cases j ≡ Some d → slice_get cases k ≡ Some e → d.id ≡ e.id → j ≡ k
ids-distinct cases j k d e placed at_j at_k same =
    elim (cases_order j k) [
      | inl equal ↦ equal
      | inr apart ↦ elim apart [
        | inl before ↦ absurd (not-before cases j k d e placed at_j at_k same before)
        | inr behind ↦ absurd (not-before cases k j e d placed at_k at_j (sym same) behind)
      ]
    ]
