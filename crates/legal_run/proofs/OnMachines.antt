-- What one machine is told among calls one after another.
use Rattle.legal_run.proofs.Common.{[], ℕ, ◌++◌, ◌==◌, ◌∙◌, ◌∷◌, ◌≡◌, all-rows-map, AllRows, ap, append_assoc, Bool, Call, calls_of, calls_of-append, calls_of_case, calls_of_kind, CaseId, cond_both, Entry, eqb, false, filter, if◌then◌else◌}
use Rattle.legal_run.proofs.Common.{is_case, List, of_case, of_kind, refl, rows-append, subst, sym, true}

-- ---- by callers
abbrev pub caller_of : Call → ℕ
caller_of (of_kind t e) = e.caller
caller_of (of_case c e) = e.caller

-- the calls of one caller
abbrev pub calls_by : ℕ → List Call → List Call
calls_by a calls = filter (λ c. caller_of c == a) calls

-- of what is all of one caller, all is that caller's, and nothing another's
pub all-by_one : {X : Type 0} (caller : X → ℕ) (n a : ℕ) (xs : List X) → AllRows (λ x. caller x ≡ n) xs → filter (λ x. caller x == a) xs ≡ (if n == a then xs else [])
all-by_one caller n a [] own = cond_both (n == a) [] [] (λ ys. [] ≡ ys) (λ _. refl) (λ _. refl)
all-by_one caller n a (x ∷ xs) (is, own) = rw (is, all-by_one caller n a xs own) (by (n == a))
  where
    by : (b : Bool) → (if b then x ∷ (if b then xs else []) else (if b then xs else [])) ≡ (if b then x ∷ xs else [])
    by true = refl
    by false = refl

-- ---- on a machine
module _ {M E R W S : Type 0} where
  calls_of-filter : (a : ℕ) (es : List (Entry M E R W S)) → calls_of a es ≡ filter (λ e. e.caller == a) es
  calls_of-filter a [] = refl
  calls_of-filter a (e ∷ es) = ap (λ (xs : List (Entry M E R W S)). if e.caller == a then e ∷ xs else xs) (calls_of-filter a es)

  -- Entries are those of one machine where they are told call by call, each with the caller of its call.
  pub record IsOn (on : List Call → List (Entry M E R W S)) : Type 0 where
    pub none : on [] ≡ []
    pub each : (c : Call) → ((calls : List Call) → on (c ∷ calls) ≡ on (c ∷ []) ++ on calls) × AllRows (λ e. e.caller ≡ caller_of c) (on (c ∷ []))

  module _ (on : List Call → List (Entry M E R W S)) (is : IsOn on) where
    pub on-append : (xs ys : List Call) → on (xs ++ ys) ≡ on xs ++ on ys
    on-append [] ys = ap (λ es. es ++ on ys) (sym is.none)
    on-append (x ∷ xs) ys = rw ((is.each x).0 (xs ++ ys), (is.each x).0 xs, on-append xs ys) (sym (append_assoc (on (x ∷ [])) (on xs) (on ys)))

    -- a caller's entries on it are the caller's calls of it
    pub on-by : (a : ℕ) (calls : List Call) → calls_of a (on calls) ≡ on (calls_by a calls)
    on-by a [] = rw (is.none) refl
    on-by a (c ∷ calls) =
        let first : calls_of a (on (c ∷ [])) ≡ (if caller_of c == a then on (c ∷ []) else []) =
        calls_of-filter a (on (c ∷ [])) ∙ all-by_one (λ (e : Entry M E R W S). e.caller) (caller_of c) a (on (c ∷ [])) (is.each c).1 in
        rw ((is.each c).0 calls, calls_of-append a (on (c ∷ [])) (on calls), first, on-by a calls) (by (caller_of c == a))
      where
        by : (b : Bool) → (if b then on (c ∷ []) else []) ++ on (calls_by a calls) ≡ on (if b then c ∷ calls_by a calls else calls_by a calls)
        by true = sym ((is.each c).0 (calls_by a calls))
        by false = refl

    -- what holds of the callers of calls holds of those of entries
    pub on-callers : (P : ℕ → Type 0) (calls : List Call) → AllRows (λ c. P (caller_of c)) calls → AllRows (λ e. P e.caller) (on calls)
    on-callers P [] all = rw (is.none) tt
    on-callers P (c ∷ calls) (one, all) =
        rw ((is.each c).0 calls)
        (rows-append (λ e. P e.caller) (on (c ∷ [])) (on calls) (all-rows-map (λ e. e.caller ≡ caller_of c) (λ e. P e.caller) (λ e same. subst P (sym same) one) (on (c ∷ [])) (is.each c).1) (on-callers P calls all))

  if_one : (b : Bool) (e : Entry M E R W S) → ((es : List (Entry M E R W S)) → (if b then e ∷ es else es) ≡ (if b then e ∷ [] else []) ++ es) × AllRows (λ x. x.caller ≡ e.caller) (if b then e ∷ [] else [])
  if_one true e = (λ es. refl, (refl, tt))
  if_one false e = (λ es. refl, tt)

pub on-kind : (t : ℕ) → IsOn (calls_of_kind t)
on-kind t = record { none = refl; each = each }
  where
    each : (c : Call) → ((calls : List Call) → calls_of_kind t (c ∷ calls) ≡ calls_of_kind t (c ∷ []) ++ calls_of_kind t calls) × AllRows (λ e. e.caller ≡ caller_of c) (calls_of_kind t (c ∷ []))
    each (of_kind u e) = (λ calls. (if_one (eqb u t) e).0 (calls_of_kind t calls), (if_one (eqb u t) e).1)
    each (of_case c e) = (λ calls. refl, tt)

pub on-case : (c : CaseId) → IsOn (calls_of_case c)
on-case c = record { none = refl; each = each }
  where
    each : (k : Call) → ((calls : List Call) → calls_of_case c (k ∷ calls) ≡ calls_of_case c (k ∷ []) ++ calls_of_case c calls) × AllRows (λ e. e.caller ≡ caller_of k) (calls_of_case c (k ∷ []))
    each (of_kind u e) = (λ calls. refl, tt)
    each (of_case d e) = (λ calls. (if_one (is_case c d) e).0 (calls_of_case c calls), (if_one (is_case c d) e).1)

pub calls_of_kind-append : (t : ℕ) (xs ys : List Call) → calls_of_kind t (xs ++ ys) ≡ calls_of_kind t xs ++ calls_of_kind t ys
calls_of_kind-append t = on-append (calls_of_kind t) (on-kind t)

pub calls_of_case-append : (c : CaseId) (xs ys : List Call) → calls_of_case c (xs ++ ys) ≡ calls_of_case c xs ++ calls_of_case c ys
calls_of_case-append c = on-append (calls_of_case c) (on-case c)
