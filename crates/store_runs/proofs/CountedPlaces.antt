-- Where the cases of a file stand by type and place: no two at one place.
use Rattle.store_runs.proofs.Common.{[], ℕ, ◌+◌, ◌<◌, ◌∙◌, ◌∷◌, ◌≡◌, ◌≤◌, ap, arith, case_counts, CaseDecl, CaseId, cases_of_type, cases_order, ClosedCase, counts_from, declared-placed, declared-typed, File, fresh_cases, get-behind}
use Rattle.store_runs.proofs.Common.{get-replica, inl, inr, IsDeclared, IsWorkable, length, List, lt-ltb, Option, place_between, place_of, refl, same_Some, slice_get, slice_get_within, Some, starts_from, starts_of, suc, sym, TypeDecl, zero}
use Rattle.case_core.specs.CaseModel.{not_created}

-- the counts of the types before one
abbrev pub sum-upto : ℕ → List ℕ → ℕ
sum-upto zero ns = 0
sum-upto (suc t) [] = 0
sum-upto (suc t) (n ∷ ns) = n + sum-upto t ns

sum-next : (t n : ℕ) (ns : List ℕ) → slice_get ns t ≡ Some n → sum-upto (suc t) ns ≡ sum-upto t ns + n
sum-next t n [] at = absurd cc
sum-next zero n (m ∷ ns) at = omega (arith, same_Some m n at)
sum-next (suc t) n (m ∷ ns) at = omega (arith, sum-next t n ns at)

sum-rises : (t u : ℕ) (ns : List ℕ) → t ≤ u → sum-upto t ns ≤ sum-upto u ns
sum-rises zero u ns le = omega arith
sum-rises (suc t) zero ns le = absurd (omega (arith, le))
sum-rises (suc t) (suc u) [] le = omega arith
sum-rises (suc t) (suc u) (n ∷ ns) le = omega (arith, sum-rises t u ns (omega (arith, le)))

starts-get : (s t : ℕ) (ns : List ℕ) → t ≤ length ns → slice_get (starts_from s ns) t ≡ Some (s + sum-upto t ns)
starts-get s zero [] le = ap Some (omega arith)
starts-get s (suc t) [] le = absurd (omega (arith, le))
starts-get s zero (n ∷ ns) le = ap Some (omega arith)
starts-get s (suc t) (n ∷ ns) le = starts-get (s + n) t ns (omega (arith, le)) ∙ ap Some (omega arith)

between : (p a n : ℕ) → p < n → place_between p (Some a) (Some (a + n)) ≡ Some (a + p)
between p a n lt = rw (lt-ltb (a + p) (a + n) (omega (arith, lt))) refl

pub placed-at : (ns : List ℕ) (c : CaseId) (n : ℕ) → slice_get ns c.type_no ≡ Some n → c.place < n → place_of (starts_of ns) c ≡ Some (sum-upto c.type_no ns + c.place)
placed-at ns c n at lt =
    let within = slice_get_within ns c.type_no n at in
    let one : slice_get (starts_of ns) c.type_no ≡ Some (sum-upto c.type_no ns) = starts-get 0 c.type_no ns (omega (arith, within)) ∙ ap Some (omega arith) in
    let next : c.type_no + 1 ≡ suc c.type_no = omega arith in
    let two : slice_get (starts_of ns) (c.type_no + 1) ≡ Some (sum-upto c.type_no ns + n) =
    ap (slice_get (starts_of ns)) next ∙ starts-get 0 (suc c.type_no) ns (omega (arith, within)) ∙ ap Some (omega (arith, sum-next c.type_no n ns at)) in
    ap (λ o. place_between c.place o (slice_get (starts_of ns) (c.type_no + 1))) one ∙ ap (place_between c.place (Some (sum-upto c.type_no ns))) two ∙ between c.place (sum-upto c.type_no ns) n lt

-- two places of one number are of one type and place
not-behind : (ns : List ℕ) (t u p q n : ℕ) → slice_get ns t ≡ Some n → p < n → t < u → sum-upto t ns + p ≡ sum-upto u ns + q → ⊥
not-behind ns t u p q n at lt before is = omega (arith, lt, is, sum-next t n ns at, sum-rises (suc t) u ns (omega (arith, before)))

one-place : (ns : List ℕ) (t u p q n m : ℕ) → slice_get ns t ≡ Some n → slice_get ns u ≡ Some m → p < n → q < m → sum-upto t ns + p ≡ sum-upto u ns + q → t ≡ u
one-place ns t u p q n m at_t at_u lt_p lt_q is =
    elim (cases_order t u) [
      | inl equal ↦ equal
      | inr apart ↦ elim apart [
        | inl before ↦ absurd (not-behind ns t u p q n at_t lt_p before is)
        | inr behind ↦ absurd (not-behind ns u t q p m at_u lt_q behind (sym is))
      ]
    ]

counts-get : (s t : ℕ) (xs : List TypeDecl) (ds : List CaseDecl) → t < length xs → slice_get (counts_from s xs ds) t ≡ Some (cases_of_type (s + t) ds)
counts-get s t [] ds lt = absurd (omega (arith, lt))
counts-get s zero (x ∷ xs) ds lt = ap (λ t. Some (cases_of_type t ds)) (omega arith)
counts-get s (suc t) (x ∷ xs) ds lt = counts-get (s + 1) t xs ds (omega (arith, lt)) ∙ ap (λ t. Some (cases_of_type t ds)) (omega arith)

pub counts-size : (s : ℕ) (xs : List TypeDecl) (ds : List CaseDecl) → length (counts_from s xs ds) ≡ length xs
counts-size s [] ds = refl
counts-size s (x ∷ xs) ds = ap suc (counts-size (s + 1) xs ds)

pub same-id : (c d : CaseId) → d.type_no ≡ c.type_no → d.place ≡ c.place → d ≡ c
same-id c d types places = ap (λ t. record { type_no = t; place = d.place }) types ∙ ap (λ p. record { type_no = c.type_no; place = p }) places

abbrev pub place-number : File → CaseId → ℕ
place-number f c = sum-upto c.type_no (case_counts f) + c.place

module _ (f : File) (workable : IsWorkable f) where
  abbrev starts : List ℕ
  starts = starts_of (case_counts f)

  count-of : (c : CaseId) → IsDeclared c f.cases → slice_get (case_counts f) c.type_no ≡ Some (cases_of_type c.type_no f.cases)
  count-of c declared =
      counts-get 0 c.type_no f.types f.cases (declared-typed (length f.types) f.cases c workable.typed declared) ∙ ap (λ t. Some (cases_of_type t f.cases)) (omega arith)

  pub declared-place : (c : CaseId) → IsDeclared c f.cases → place_of starts c ≡ Some (place-number f c)
  declared-place c declared = placed-at (case_counts f) c (cases_of_type c.type_no f.cases) (count-of c declared) (declared-placed f.cases c workable.placed declared)

  pub same-place : (c d : CaseId) → IsDeclared c f.cases → IsDeclared d f.cases → place-number f c ≡ place-number f d → c ≡ d
  same-place c d one two is =
      let types : c.type_no ≡ d.type_no = one-place (case_counts f) c.type_no d.type_no c.place d.place _ _ (count-of c one) (count-of d two) (declared-placed f.cases c workable.placed one) (declared-placed f.cases d workable.placed two) is in
      let places : c.place ≡ d.place = omega (arith, is, ap (λ t. sum-upto t (case_counts f)) types) in
      same-id d c types places

-- a fresh case
abbrev fresh-of : ℕ → Option ClosedCase
fresh-of t = Some (record { machine = not_created t; journal = [] })

fresh-get : (s t p n : ℕ) (ns : List ℕ) → slice_get ns t ≡ Some n → p < n → slice_get (fresh_cases s ns) (sum-upto t ns + p) ≡ Some (record { machine = not_created (s + t); journal = [] })
fresh-get s t p n [] at lt = absurd cc
fresh-get s zero p n (m ∷ ns) at lt =
    let here : 0 + p ≡ p = omega arith in
    ap (slice_get (fresh_cases s (m ∷ ns))) here
    ∙ get-replica m p (record { machine = not_created s; journal = [] }) (fresh_cases (s + 1) ns) (omega (arith, lt, same_Some m n at)) ∙ ap fresh-of (omega arith)
fresh-get s (suc t) p n (m ∷ ns) at lt =
    let behind : m + sum-upto t ns + p ≡ m + (sum-upto t ns + p) = omega arith in
    ap (slice_get (fresh_cases s (m ∷ ns))) behind
    ∙ get-behind m (sum-upto t ns + p) (record { machine = not_created s; journal = [] }) (fresh_cases (s + 1) ns)
    ∙ fresh-get (s + 1) t p n ns at lt ∙ ap fresh-of (omega arith)

pub fresh-at : (f : File) → IsWorkable f → (c : CaseId) → IsDeclared c f.cases → slice_get (fresh_cases 0 (case_counts f)) (place-number f c) ≡ Some (record { machine = not_created c.type_no; journal = [] })
fresh-at f workable c declared = fresh-get 0 c.type_no c.place (cases_of_type c.type_no f.cases) (case_counts f) (count-of f workable c declared) (declared-placed f.cases c workable.placed declared) ∙ ap fresh-of (omega arith)
