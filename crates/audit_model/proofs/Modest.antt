-- Lines that ask little: what their events weigh, and how old a case is behind them.
use Rattle.std.proofs.Common.{◌≡◌, ℕ, zero, suc, ◌+◌, ◌<◌, ◌≤◌, ◌==◌, Bool, not, List, [], ◌∷◌, ◌++◌, length, length-append, map, Some, refl, sym, ap, ◌∙◌, subst, arith, if◌then◌else◌, filter, slice_set}
use Rattle.audit_model.proofs.Common.{by-test, actor_of, AllRows, AreTurns, Asked, asked_lines, asked_phases, asks, behind_front, both-phases, call_of, calls_kind, case_after, case_event_of, CaseEntry, ClosedCase, Event, File, filled, filled-many, filter-phases, how_many, IsAuditable, IsKnown, IsModest, IsModestLine, IsSteady, IsWorkable, KeptCase, kind_event_of, KindEvent, known-light, left_to_tell, Line, line_of, rows-filter, lines_in, not_created, one_taken, owed_kind, queue_of, roles_of, sum_by-cons, Telling, told_at, version_for, WritesOneLine, WritesValues}
use Rattle.audit_model.proofs.Common.{case-light as call-case-light, kind-light as call-kind-light, weight as kind_weight}
use Rattle.audit_model.proofs.KeptValues.{case-kept}
use Rattle.audit_model.proofs.Runs.{phases-asked}
use Rattle.case_core.proofs.AgesOfSteps.{age-next_case}
use Rattle.case_core.specs.Ages.{weight}
use Rattle.std.proofs.lemmas.List.Filters.{length-filter_both}

-- ---- the queues of actors
module _ {L : Type 0} (P : L → Type 0) where
  behind-rows : (ls : List L) → AllRows P ls → AllRows P (behind_front ls)
  behind-rows [] all = tt
  behind-rows (l ∷ ls) (one, all) = all

  queue-rows : (queues : List (List L)) (a : ℕ) → AllRows (AllRows P) queues → AllRows P (queue_of queues a)
  queue-rows [] a all = tt
  queue-rows (q ∷ qs) zero (one, all) = one
  queue-rows (q ∷ qs) (suc a) (one, all) = queue-rows qs a all

  set-rows : (queues : List (List L)) (a : ℕ) (q : List L) → AllRows (AllRows P) queues → AllRows P q → AllRows (AllRows P) (slice_set queues a q)
  set-rows [] a q all new = tt
  set-rows (x ∷ xs) zero q (one, all) new = (new, all)
  set-rows (x ∷ xs) (suc a) q (one, all) new = (one, set-rows xs a q all new)

  pub taken-rows : (queues : List (List L)) (a : ℕ) → AllRows (AllRows P) queues → AllRows (AllRows P) (one_taken a queues)
  taken-rows queues a all = set-rows queues a (behind_front (queue_of queues a)) all (behind-rows (queue_of queues a) (queue-rows queues a all))

  pub front-row : (queues : List (List L)) (a : ℕ) (l : L) (ls : List L) → AllRows (AllRows P) queues → queue_of queues a ≡ l ∷ ls → P l
  front-row queues a l ls all is = (subst (AllRows P) is (queue-rows queues a all)).0

  from-queues : (queues : List (List L)) → ((a : ℕ) → a < length queues → AllRows P (queue_of queues a)) → AllRows (AllRows P) queues
  from-queues [] each = tt
  from-queues (q ∷ qs) each = (each 0 (omega arith), from-queues qs (λ a low. each (suc a) (omega (arith, low))))

  pub turns-rows : (actor_of : L → ℕ) (actors : ℕ) (queues : List (List L)) (phase : List L) → AreTurns actor_of actors queues phase → AllRows P phase → AllRows (AllRows P) queues
  turns-rows actor_of actors queues phase (many, same) all =
      from-queues queues (λ a low. subst (AllRows P) (sym (same a (omega (arith, many, low)))) (rows-filter P (λ l. actor_of l == a) phase all))

  filled-rows : (phases : List (List L)) → AllRows (AllRows P) phases → AllRows (AllRows P) (filled phases)
  filled-rows [] all = tt
  filled-rows ([] ∷ phases) (one, all) = filled-rows phases all
  filled-rows ((l ∷ ls) ∷ phases) (one, all) = (one, filled-rows phases all)

  pub called-rows : (p : L → Bool) (phases : List (List L)) → AllRows (AllRows P) phases → AllRows (AllRows P) (filled (map (λ lines. filter p lines) phases))
  called-rows p phases all = filled-rows (map (λ lines. filter p lines) phases) (filter-phases P P p (λ l one kept. one) phases all)

-- ---- what events weigh
pub kind-light : (l : Line) (e : KindEvent) → IsModestLine l → kind_event_of l ≡ Some e → kind_weight e ≤ 768
kind-light l e modest is = let weighs = call-kind-light (call_of 0 [] l.act) e is in omega (arith, modest.1 0 [], weighs)

pub case-light : (f : File) (l : Asked) (e : Event) → IsModest l → case_event_of f l ≡ Some e → weight e ≤ 768
case-light f l e modest is =
    let a = l.0.actor in
    let weighs = call-case-light l.1 (call_of a (roles_of f a) l.0.act) e is in
    omega (arith, modest.1 a (roles_of f a), weighs)

-- ---- a case between two lines
pub steady-begun : (t : ℕ) → IsSteady (record { machine = not_created t; journal = [] })
steady-begun t = (tt, omega arith)

pub steady-on : (from to : ClosedCase) (e : Event) (made : CaseEntry) → IsSteady from → WritesValues e → weight e ≤ 768 → to.machine ≡ case_after from.machine e → to.journal ≡ from.journal ++ made ∷ [] → IsSteady to
steady-on from to e made (kept, young) writes light machine journal =
    let long : length to.journal ≡ length from.journal + 1 = ap (λ (es : List CaseEntry). length es) journal ∙ length-append from.journal (made ∷ []) in
    let older = age-next_case from.machine e in (
      subst KeptCase (sym machine) (case-kept from.machine e kept writes),
      rw (machine, long) (omega (arith, older, young, light)),
    )

-- ---- the lines of a file
pub file-modest : (f : File) (q : Telling) → IsWorkable f → IsAuditable f → AllRows (AllRows IsModest) (asked_phases q f.phases)
file-modest f q workable auditable =
    phases-asked IsModestLine q f.phases
    (both-phases (IsKnown (length f.types) (length f.actors) f.cases) WritesOneLine IsModestLine (λ l known writes. (writes, λ a roles. known-light a roles (length f.types) f.cases l.act known.act)) f.phases workable.known auditable.writes)

-- ---- how many lines are owed
few-called : {L : Type 0} (p : L → Bool) (phases : List (List L)) → how_many (map (λ lines. filter p lines) phases) ≤ how_many phases
few-called p [] = omega arith
few-called p (lines ∷ phases) = let one = length-filter_both p (λ l. not (p l)) (λ l. refl) lines in let more = few-called p phases in omega (arith, one, more)

many-lines : (q : Telling) (lines : List Line) → length (asked_lines q lines) ≡ length lines
many-lines q [] = refl
many-lines q (l ∷ ls) = ap suc (many-lines (told_at q l.actor (asks l.act)) ls)

many-asked : (q : Telling) (phases : List (List Line)) → how_many (asked_phases q phases) ≡ lines_in phases
many-asked q [] = refl
many-asked q (lines ∷ phases) =
    let one = many-lines q lines in
    let more = many-asked (left_to_tell q lines) phases in
    let all = sum_by-cons (λ (ls : List Line). length ls) lines phases in
    omega (arith, one, more, all)

pub few-filled : {L : Type 0} (p : L → Bool) (phases : List (List L)) → how_many phases ≤ 60000 → how_many (filled (map (λ lines. filter p lines) phases)) ≤ 60000
few-filled p phases few =
    let called = few-called p phases in
    let same = filled-many (map (λ lines. filter p lines) phases) in
    omega (arith, few, called, same)

pub few-asked : (f : File) (q : Telling) → IsWorkable f → how_many (asked_phases q f.phases) ≤ 60000
few-asked f q workable = let lines = many-asked q f.phases in omega (arith, lines, workable.lines)

-- ---- what is owed to a type, without versions
lines-again : (q : Telling) (t : ℕ) (lines : List Line) → map line_of (filter (λ (l : Asked). calls_kind t l.0.act) (asked_lines q lines)) ≡ filter (λ (l : Line). calls_kind t l.act) lines
lines-again q t [] = refl
lines-again q t (l ∷ ls) =
    let q_then = told_at q l.actor (asks l.act) in
    let x : Asked = (l, version_for q l.actor (asks l.act)) in
    let xs = filter (λ (y : Asked). calls_kind t y.0.act) (asked_lines q_then ls) in
    let ys = filter (λ (y : Line). calls_kind t y.act) ls in
    by-test (λ b. map line_of (if b then x ∷ xs else xs) ≡ (if b then l ∷ ys else ys)) (calls_kind t l.act) (λ is. ap (λ zs. l ∷ zs) (lines-again q_then t ls)) (λ not. lines-again q_then t ls)

phases-again : (q : Telling) (t : ℕ) (phases : List (List Line))
    → map (map line_of) (map (λ lines. filter (λ (l : Asked). calls_kind t l.0.act) lines) (asked_phases q phases)) ≡ map (λ lines. filter (λ (l : Line). calls_kind t l.act) lines) phases
phases-again q t [] = refl
phases-again q t (lines ∷ phases) =
    ap (λ xs. xs ∷ map (map line_of) (map (λ ls. filter (λ (l : Asked). calls_kind t l.0.act) ls) (asked_phases (left_to_tell q lines) phases))) (lines-again q t lines)
    ∙ ap (λ xs. filter (λ (l : Line). calls_kind t l.act) lines ∷ xs) (phases-again (left_to_tell q lines) t phases)

filled-again : (phases : List (List Asked)) → map (map line_of) (filled phases) ≡ filled (map (map line_of) phases)
filled-again [] = refl
filled-again ([] ∷ phases) = filled-again phases
filled-again ((l ∷ ls) ∷ phases) = ap (λ xs. (line_of l ∷ map line_of ls) ∷ xs) (filled-again phases)

pub kind-owed : (f : File) (q : Telling) (t : ℕ) → map (map line_of) (filled (map (λ lines. filter (λ (l : Asked). calls_kind t l.0.act) lines) (asked_phases q f.phases))) ≡ filled (owed_kind f t)
kind-owed f q t = filled-again (map (λ lines. filter (λ (l : Asked). calls_kind t l.0.act) lines) (asked_phases q f.phases)) ∙ ap filled (phases-again q t f.phases)
