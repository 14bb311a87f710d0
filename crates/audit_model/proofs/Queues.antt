-- The calls of an actor's lines, taken from what types and cases have of the actor: each line takes the first of those that it calls.
use Rattle.std.proofs.{Common.{◌≡◌, ℕ, zero, suc, ◌+◌, ◌==◌, eqb, Bool, true, false, ◌&&◌, not, List, [], ◌∷◌, ◌++◌, append-nil, map, take, refl, ap, ◌∙◌, arith, append_assoc, if◌then◌else◌, nat_lt}, lemmas.Bool.eqb-true, lemmas.Bool.Decides.nat_tests}
use Rattle.audit_model.proofs.Common.{by-test, if-either, Act, and_parts, Call, calls_case, calls_kind, calls_of_case, calls_of_case-append, calls_of_kind, calls_of_kind-append, CaseEntry, CaseId, Cells, cells_of, done_by, has_case, has_kind, is_case, KindEntry, Line, of_case, of_kind, rest_of, Trace}
use Rattle.legal_run.specs.LineCalls.{lines_of}
use Rattle.line_calls.specs.declared.calls.Cells.TheVariants as cells

abbrev pub KindQueues : Type 0
KindQueues = ℕ → List KindEntry

abbrev pub CaseQueues : Type 0
CaseQueues = CaseId → List CaseEntry

-- the first, where there is one
abbrev pub ahead : {X : Type 0} → List X → List X
ahead [] = []
ahead (x ∷ xs) = x ∷ []

ahead-rest : {X : Type 0} (xs : List X) → ahead xs ++ rest_of xs ≡ xs
ahead-rest [] = refl
ahead-rest (x ∷ xs) = refl

abbrev pub of_type : ℕ → List KindEntry → List Call
of_type t es = map (of_kind t) (ahead es)

abbrev pub of_one : CaseId → List CaseEntry → List Call
of_one c es = map (of_case c) (ahead es)

abbrev pub id_at : ℕ → ℕ → CaseId
id_at t place = record { type_no = t; place = place }

-- of so many cases of a type, from a place on
abbrev pub of_each : CaseQueues → ℕ → ℕ → ℕ → List Call
of_each C t place zero = []
of_each C t place (suc n) = of_one (id_at t place) (C (id_at t place)) ++ of_each C t (place + 1) n

abbrev pub kinds_then : KindQueues → Act → KindQueues
kinds_then K x t = if calls_kind t x then rest_of (K t) else K t

abbrev pub cases_then : CaseQueues → Act → CaseQueues
cases_then C x c = if calls_case c x then rest_of (C c) else C c

-- ---- calls of types
type-if : (t u : ℕ) (es : List KindEntry) → calls_of_kind t (of_type u es) ≡ (if eqb u t then ahead es else [])
type-if t u [] = if-either (λ ys. [] ≡ ys) (eqb u t) [] [] (λ is. refl) (λ not. refl)
type-if t u (e ∷ es) = refl

type-at : (K : KindQueues) (t u : ℕ) → calls_of_kind t (of_type u (K u)) ≡ (if eqb u t then ahead (K t) else [])
type-at K t u = type-if t u (K u) ∙ by-test (λ b. (if b then ahead (K u) else []) ≡ (if b then ahead (K t) else [])) (eqb u t) (λ is. ap (λ n. ahead (K n)) (eqb-true u t is)) (λ not. refl)

one-no_kind : (t : ℕ) (c : CaseId) (es : List CaseEntry) → calls_of_kind t (of_one c es) ≡ []
one-no_kind t c [] = refl
one-no_kind t c (e ∷ es) = refl

each-no_kind : (C : CaseQueues) (t u place n : ℕ) → calls_of_kind u (of_each C t place n) ≡ []
each-no_kind C t u place zero = refl
each-no_kind C t u place (suc n) =
    calls_of_kind-append u (of_one (id_at t place) (C (id_at t place))) (of_each C t (place + 1) n)
    ∙ (ap (λ xs. xs ++ calls_of_kind u (of_each C t (place + 1) n)) (one-no_kind u (id_at t place) (C (id_at t place))) ∙ each-no_kind C t u (place + 1) n)

-- ---- calls of cases
type-no_case : (c : CaseId) (t : ℕ) (es : List KindEntry) → calls_of_case c (of_type t es) ≡ []
type-no_case c t [] = refl
type-no_case c t (e ∷ es) = refl

pub same-id : (c d : CaseId) → is_case c d ≡ true → d ≡ c
same-id c d is =
    let (types, places) = and_parts (d.type_no == c.type_no) (d.place == c.place) is in
    ap (λ t. id_at t d.place) (eqb-true d.type_no c.type_no types) ∙ ap (λ p. id_at c.type_no p) (eqb-true d.place c.place places)

case-if : (c d : CaseId) (es : List CaseEntry) → calls_of_case c (of_one d es) ≡ (if is_case c d then ahead es else [])
case-if c d [] = if-either (λ ys. [] ≡ ys) (is_case c d) [] [] (λ is. refl) (λ not. refl)
case-if c d (e ∷ es) = refl

case-at : (C : CaseQueues) (c d : CaseId) → calls_of_case c (of_one d (C d)) ≡ (if is_case c d then ahead (C c) else [])
case-at C c d =
    case-if c d (C d) ∙ by-test (λ b. (if b then ahead (C d) else []) ≡ (if b then ahead (C c) else [])) (is_case c d) (λ is. ap (λ x. ahead (C x)) (same-id c d is)) (λ not. refl)

-- of those from a place on, so many
spread : {X : Type 0} (own : Bool) (p place n : ℕ) (xs : List X) →
    (if own && place == p then xs else []) ++ (if own && (nat_lt p (place + 1 + n) && not (nat_lt p (place + 1))) then xs else []) ≡ (if own && (nat_lt p (place + suc n) && not (nat_lt p place)) then xs else [])
spread false p place n xs = refl
spread true p place n xs = grind (arith, nat_tests, append-nil)

each-from : (C : CaseQueues) (c : CaseId) (t place n : ℕ) → calls_of_case c (of_each C t place n) ≡ (if t == c.type_no && (nat_lt c.place (place + n) && not (nat_lt c.place place)) then ahead (C c) else [])
each-from C c t place zero = none (t == c.type_no) c.place place (ahead (C c))
  where
    none : {X : Type 0} (own : Bool) (p place : ℕ) (xs : List X) → [] ≡ (if own && (nat_lt p (place + 0) && not (nat_lt p place)) then xs else [])
    none false p place xs = refl
    none true p place xs = grind (arith, nat_tests)
each-from C c t place (suc n) =
    calls_of_case-append c (of_one (id_at t place) (C (id_at t place))) (of_each C t (place + 1) n)
    ∙ (ap (λ xs. xs ++ calls_of_case c (of_each C t (place + 1) n)) (case-at C c (id_at t place)) ∙ (ap (λ xs. (if is_case c (id_at t place) then ahead (C c) else []) ++ xs) (each-from C c t (place + 1) n) ∙ spread (t == c.type_no) c.place place n (ahead (C c))))

-- the case is called where it is one of the first so many
each-taken : (C : CaseQueues) (c : CaseId) (t many : ℕ) → calls_of_case c (of_each C t 0 many) ≡ (if t == c.type_no && nat_lt c.place many then ahead (C c) else [])
each-taken C c t many = each-from C c t 0 many ∙ first (t == c.type_no) c.place many (ahead (C c))
  where
    first : {X : Type 0} (own : Bool) (p many : ℕ) (xs : List X) → (if own && (nat_lt p (0 + many) && not (nat_lt p 0)) then xs else []) ≡ (if own && nat_lt p many then xs else [])
    first false p many xs = refl
    first true p many xs = grind (arith, nat_tests)

-- the calls of cells, and of a line
abbrev pub calls_in : KindQueues → CaseQueues → Cells → List Call
calls_in K C (cells.Kind t) = of_type t (K t)
calls_in K C (cells.Case c) = of_one c (C c)
calls_in K C (cells.KindAndCase t c) = of_type t (K t) ++ of_one c (C c)
calls_in K C (cells.KindAndEach t many) = of_type t (K t) ++ of_each C t 0 many

abbrev pub calls_at : KindQueues → CaseQueues → Act → List Call
calls_at K C x = calls_in K C (cells_of x)

kind-behind : (t u : ℕ) (K : KindQueues) (calls : List Call) → calls_of_kind t calls ≡ [] → calls_of_kind t (of_type u (K u) ++ calls) ≡ (if eqb u t then ahead (K t) else [])
kind-behind t u K calls none =
    calls_of_kind-append t (of_type u (K u)) calls ∙ (ap (λ xs. calls_of_kind t (of_type u (K u)) ++ xs) none ∙ (append-nil (calls_of_kind t (of_type u (K u))) ∙ type-at K t u))

kind-taken : (K : KindQueues) (C : CaseQueues) (t : ℕ) (x : Cells) → calls_of_kind t (calls_in K C x) ≡ (if has_kind t x then ahead (K t) else [])
kind-taken K C t (cells.Kind u) = type-at K t u
kind-taken K C t (cells.Case c) = one-no_kind t c (C c)
kind-taken K C t (cells.KindAndCase u c) = kind-behind t u K (of_one c (C c)) (one-no_kind t c (C c))
kind-taken K C t (cells.KindAndEach u many) = kind-behind t u K (of_each C u 0 many) (each-no_kind C u t 0 many)

case-behind : (c : CaseId) (u : ℕ) (es : List KindEntry) (calls : List Call) → calls_of_case c (of_type u es ++ calls) ≡ calls_of_case c calls
case-behind c u es calls = calls_of_case-append c (of_type u es) calls ∙ ap (λ xs. xs ++ calls_of_case c calls) (type-no_case c u es)

case-taken : (K : KindQueues) (C : CaseQueues) (c : CaseId) (x : Cells) → calls_of_case c (calls_in K C x) ≡ (if has_case c x then ahead (C c) else [])
case-taken K C c (cells.Kind u) = type-no_case c u (K u)
case-taken K C c (cells.Case d) = case-at C c d
case-taken K C c (cells.KindAndCase u d) = case-behind c u (K u) (of_one d (C d)) ∙ case-at C c d
case-taken K C c (cells.KindAndEach u many) = case-behind c u (K u) (of_each C u 0 many) ∙ each-taken C c u many

-- ---- lines one after another
abbrev pub calls_along : KindQueues → CaseQueues → List Line → List Call
calls_along K C [] = []
calls_along K C (l ∷ ls) = calls_at K C l.act ++ calls_along (kinds_then K l.act) (cases_then C l.act) ls

abbrev pub kinds_left : KindQueues → List Line → KindQueues
kinds_left K [] = K
kinds_left K (l ∷ ls) = kinds_left (kinds_then K l.act) ls

abbrev pub cases_left : CaseQueues → List Line → CaseQueues
cases_left C [] = C
cases_left C (l ∷ ls) = cases_left (cases_then C l.act) ls

pub if-split : {X : Type 0} (test : Bool) (xs : List X) → (if test then ahead xs else []) ++ (if test then rest_of xs else xs) ≡ xs
if-split true xs = ahead-rest xs
if-split false xs = refl

-- ---- phases one after another, for all actors
abbrev pub traces_of : List (List Line) → (ℕ → KindQueues) → (ℕ → CaseQueues) → List Trace
traces_of [] K C = []
traces_of (lines ∷ phases) K C =
    (λ a. calls_along (K a) (C a) (lines_of a lines)) ∷ traces_of phases (λ a. kinds_left (K a) (lines_of a lines)) (λ a. cases_left (C a) (lines_of a lines))

pub take-traces_of : (k : ℕ) (phases : List (List Line)) (K : ℕ → KindQueues) (C : ℕ → CaseQueues) → take k (traces_of phases K C) ≡ traces_of (take k phases) K C
take-traces_of zero phases K C = refl
take-traces_of (suc k) [] K C = refl
take-traces_of (suc k) (lines ∷ phases) K C =
    ap (λ ts. (λ (a : ℕ). calls_along (K a) (C a) (lines_of a lines)) ∷ ts) (take-traces_of k phases (λ a. kinds_left (K a) (lines_of a lines)) (λ a. cases_left (C a) (lines_of a lines)))

-- what the calls of one type or one case are, and what is left of them
module _ {X : Type 0} (calls_of : List Call → List X) (append : (xs ys : List Call) → calls_of (xs ++ ys) ≡ calls_of xs ++ calls_of ys) (none : calls_of [] ≡ []) (queue : KindQueues → CaseQueues → List X)
    (step : (K : KindQueues) (C : CaseQueues) (x : Act) → calls_of (calls_at K C x) ++ queue (kinds_then K x) (cases_then C x) ≡ queue K C) where
  join : (first rest : List Call) (left mid whole : List X) → calls_of rest ++ left ≡ mid → calls_of first ++ mid ≡ whole → calls_of (first ++ rest) ++ left ≡ whole
  join first rest left mid whole later here = ap (λ xs. xs ++ left) (append first rest) ∙ (append_assoc (calls_of first) (calls_of rest) left ∙ (ap (λ xs. calls_of first ++ xs) later ∙ here))

  split : (ls : List Line) (K : KindQueues) (C : CaseQueues) → calls_of (calls_along K C ls) ++ queue (kinds_left K ls) (cases_left C ls) ≡ queue K C
  split [] K C = ap (λ xs. xs ++ queue K C) none
  split (l ∷ ls) K C =
      let K_then = kinds_then K l.act in
      let C_then = cases_then C l.act in
      join (calls_at K C l.act) (calls_along K_then C_then ls) (queue (kinds_left K_then ls) (cases_left C_then ls)) (queue K_then C_then) (queue K C) (split ls K_then C_then) (step K C l.act)

  -- what an actor did is a beginning of what there is of it
  begin : (phases : List (List Line)) (K : ℕ → KindQueues) (C : ℕ → CaseQueues) (a : ℕ) → (left : List X) × (calls_of (done_by a (traces_of phases K C)) ++ left ≡ queue (K a) (C a))
  begin [] K C a = (queue (K a) (C a), ap (λ xs. xs ++ queue (K a) (C a)) none)
  begin (lines ∷ phases) K C a =
      let own = lines_of a lines in
      let K_left = λ (b : ℕ). kinds_left (K b) (lines_of b lines) in
      let C_left = λ (b : ℕ). cases_left (C b) (lines_of b lines) in
      let (left, more) = begin phases K_left C_left a in
      (left, join (calls_along (K a) (C a) own) (done_by a (traces_of phases K_left C_left)) left (queue (K_left a) (C_left a)) (queue (K a) (C a)) more (split own (K a) (C a)))

pub kinds-begin : (phases : List (List Line)) (K : ℕ → KindQueues) (C : ℕ → CaseQueues) (a t : ℕ) → (left : List KindEntry) × (calls_of_kind t (done_by a (traces_of phases K C)) ++ left ≡ K a t)
kinds-begin phases K C a t = begin (calls_of_kind t) (calls_of_kind-append t) refl (λ Q R. Q t) (λ Q R x. ap (λ es. es ++ kinds_then Q x t) (kind-taken Q R t (cells_of x)) ∙ if-split (calls_kind t x) (Q t)) phases K C a

pub cases-begin : (phases : List (List Line)) (K : ℕ → KindQueues) (C : ℕ → CaseQueues) (a : ℕ) (c : CaseId) → (left : List CaseEntry) × (calls_of_case c (done_by a (traces_of phases K C)) ++ left ≡ C a c)
cases-begin phases K C a c = begin (calls_of_case c) (calls_of_case-append c) refl (λ Q R. R c) (λ Q R x. ap (λ es. es ++ cases_then R x c) (case-taken Q R c (cells_of x)) ∙ if-split (calls_case c x) (R c)) phases K C a
