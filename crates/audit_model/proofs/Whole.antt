-- What is taken of the report is the report of a legal run.
use Rattle.std.proofs.Common.{◌≡◌, ℕ, zero, suc, ◌==◌, eq-eqb, true, List, [], ◌∷◌, ◌++◌, filter, length, take, Some, slice_get, refl, sym, ap, ◌∙◌, subst, arith, if◌then◌else◌}
use Rattle.audit_model.proofs.Common.{actor_of, All-from_recursion, all_owed, all_rows, AllRows, and_from, answers-whole, AreTraces, Asked, asked_phases, by-append, Bytes, calls_of, calls_of_case, calls_of_kind, case_after, case_event_of, case_reply, CaseDecl, CaseEntry, CaseId, ClosedCase, ClosedKind, defined, done_by, ending, entry, File, first_wrong}
use Rattle.audit_model.proofs.Common.{has_id, ids-distinct, if-either, IsActor, IsAuditable, IsFirstWrong, IsKnown, IsLegal, IsLegalCase, IsLegalKind, IsReport, IsSound, IsWhole, IsWorkable, journal_of, kind_after, kind_reply, KindEntry, Legal, Line, not_created, not_defined, owed_case, program, report_reader, row-at, Run, sound-defined, state_after, Takes, telling, there-as, Trace, TypeDecl}
use Rattle.audit_model.proofs.{Calls.FitCase, LineQueues.{AsksReady, CasesReady, lines-done}, Live.report-live, OwnLines.{line_actor, OwnTelling, asked_own, own-phases, own-such, own_left, own_lines, to_case}, Queues.{CaseQueues, KindQueues, cases-begin, cases_left, kinds-begin, kinds_left, same-id, take-traces_of, traces_of}}
use Rattle.audit_model.proofs.{Readers.{report-whole, report-taken}, Ready.{calls-rows, kind_queues, kinds-ready, whole-kind}, Runs.{case-actors, case-served, in-front, kind-served, known-own, not-own, served-phases, served_case, served_kind}, TakenParts.{CaseTaken, CasesTaken, KindTaken, KindsTaken, kind-at, run-of}}
use Rattle.legal_run.specs.{Legal.IsByPhases, LineCalls.lines_of}
use Rattle.line_readers.proofs.FirstWrong.{first-wrong}
use Rattle.std.proofs.lemmas.{List.Folds.Any-from_list_any, Option.slice_get-get_or}
use Rattle.type_core.specs.declared.events.KindEvent.TheVariants as kind_event
use Rattle.type_core.specs.declared.replies.KindReply.TheVariants as kind_answer

-- ---- the journal of a case by its id
abbrev journal_for : CaseId → List CaseDecl → List ClosedCase → List CaseEntry
journal_for c [] ks = []
journal_for c (d ∷ ds) [] = []
journal_for c (d ∷ ds) (k ∷ ks) = if has_id c d then k.journal else journal_for c ds ks

-- at an index, where no case before has the id
journal-at : (ds : List CaseDecl) (ks : List ClosedCase) (i : ℕ) (d : CaseDecl) (k : ClosedCase) → slice_get ds i ≡ Some d → slice_get ks i ≡ Some k → ((j : ℕ) (e : CaseDecl) → slice_get ds j ≡ Some e → e.id ≡ d.id → j ≡ i) → journal_for d.id ds ks ≡ k.journal
journal-at [] ks i d k at_d at_k apart = absurd (cc (at_d))
journal-at (e ∷ ds) [] i d k at_d at_k apart = absurd (cc (at_k))
journal-at (e ∷ ds) (j ∷ ks) zero d k at_d at_k apart =
    let same_d : e ≡ d = cc (at_d) in
    let same_k : j ≡ k = cc (at_k) in
    let own : has_id d.id e ≡ true = subst (λ x. has_id d.id x ≡ true) (sym same_d) (and_from (d.id.type_no == d.id.type_no) (d.id.place == d.id.place) (eq-eqb d.id.type_no d.id.type_no refl) (eq-eqb d.id.place d.id.place refl)) in
    ap (λ test. if test then j.journal else journal_for d.id ds ks) own ∙ ap (λ (x : ClosedCase). x.journal) same_k
journal-at (e ∷ ds) (j ∷ ks) (suc i) d k at_d at_k apart =
    if-either (λ es. es ≡ k.journal) (has_id d.id e) j.journal (journal_for d.id ds ks) (λ is. let same = apart 0 e refl (same-id d.id e.id is) in absurd (omega (arith, same)))
    (λ not. journal-at ds ks i d k at_d at_k (λ n x at_x same. let next = apart (suc n) x at_x same in omega (arith, next)))

module _ (f : File) (workable : IsWorkable f) where
  -- ---- traces of lines
  traces-are : (phases : List (List Line)) (K : ℕ → KindQueues) (C : ℕ → CaseQueues) (R : ℕ → OwnTelling) → AllRows (AllRows (IsKnown (length f.types) (length f.actors) f.cases)) phases
      → ((a : ℕ) → IsActor f a → AsksReady f workable a (K a) (R a) (own_lines a phases)) → ((a : ℕ) → IsActor f a → CasesReady f workable a (C a) (R a) (own_lines a phases)) → AreTraces f phases (traces_of phases K C)
  traces-are [] K C R known asking telling = tt
  traces-are (lines ∷ phases) K C R (k, known) asking telling =
      let own = λ (a : ℕ). by-append line_actor a lines (all_owed phases) in
      let done = λ (a : ℕ) (actor : IsActor f a). lines-done f workable a (lines_of a lines) (own_lines a phases) (K a) (C a) (R a) (known-own f a lines k)
      (subst (AsksReady f workable a (K a) (R a)) (own a) (asking a actor)) (subst (CasesReady f workable a (C a) (R a)) (own a) (telling a actor)) in (
        λ a actor. (done a actor).calls,
        traces-are phases (λ a. kinds_left (K a) (lines_of a lines)) (λ a. cases_left (C a) (lines_of a lines)) (λ a. own_left (R a) (lines_of a lines)) known
            (λ a actor. (done a actor).asking) (λ a actor. (done a actor).telling),
      )

  module _ (r : Run) (kind_part case_part : List Bytes) (kinds : KindsTaken f 0 f.types kind_part r.kinds) (cases : CasesTaken f (asked_phases (telling r.kinds) f.phases) case_part r.cases) where
    each-kind : (t : ℕ) (d : TypeDecl) (k : ClosedKind) → slice_get f.types t ≡ Some d → slice_get r.kinds t ≡ Some k → (part : List Bytes) × KindTaken f t d part k
    each-kind = kind-at f kind_part r.kinds kinds

    abbrev asked : List (List Asked)
    asked = asked_phases (telling r.kinds) f.phases

    abbrev of_kinds : ℕ → KindQueues
    of_kinds = kind_queues f workable r.kinds kinds.many each-kind

    abbrev of_cases : ℕ → CaseQueues
    of_cases a c = calls_of a (journal_for c f.cases r.cases)

    whole-case : (d : CaseDecl) (part : List Bytes) (c : ClosedCase) → CaseTaken f asked d part c → IsWhole case_after case_reply actor_of (case_event_of f) (IsActor f) (not_created d.id.type_no) (owed_case d.id asked) c.journal c.machine
    whole-case d part c h = answers-whole case_after case_reply actor_of (case_event_of f) (IsActor f) c.journal (not_created d.id.type_no) (owed_case d.id asked) c.machine (case-actors f workable (telling r.kinds) d.id) h.answers

    own-journal : (i : ℕ) (d : CaseDecl) (c : ClosedCase) → slice_get f.cases i ≡ Some d → slice_get r.cases i ≡ Some c → journal_for d.id f.cases r.cases ≡ c.journal
    own-journal i d c at_d at_c = journal-at f.cases r.cases i d c at_d at_c (λ j e at_e same. ids-distinct f.cases j i e d workable.placed at_e at_d same)

    cases-ready : (a : ℕ) → IsActor f a → CasesReady f workable a (of_cases a) (telling r.kinds a) (own_lines a f.phases)
    cases-ready a actor = record {
      cases = λ c declared.
          let (i, d, low, is, here) = Any-from_list_any (has_id c) f.cases declared in
          let at_d : slice_get f.cases i ≡ Some d = slice_get-get_or f.cases i d low ∙ ap Some is in
          let (k, at_k) = there-as f.cases r.cases i d cases.many at_d in
          let (part, h) = cases.each i d k at_d at_k in
          subst (λ id. FitCase f (of_cases a id) (filter (to_case id) (asked_own (telling r.kinds a) (own_lines a f.phases)))) (same-id c d.id here)
          (subst (λ es. FitCase f (calls_of a es) (filter (to_case d.id) (asked_own (telling r.kinds a) (own_lines a f.phases)))) (sym (own-journal i d k at_d at_k))
          (subst (FitCase f (calls_of a k.journal)) (own-such a actor_of (to_case d.id) asked ∙ ap (filter (to_case d.id)) (own-phases a f.phases (telling r.kinds))) ((whole-case d part k h).whole a actor)));
      own = λ c declared. calls-rows (λ (e : CaseEntry). Unit {0}) a (journal_for c f.cases r.cases) (all_rows (λ (e : CaseEntry). Unit {0}) (λ e. tt) (journal_for c f.cases r.cases));
    }

    abbrev traces : List Trace
    traces = traces_of f.phases of_kinds of_cases

    are-traces : AreTraces f f.phases traces
    are-traces = traces-are f.phases of_kinds of_cases (λ a. telling r.kinds a) workable.known (λ a actor. kinds-ready f workable r.kinds kinds.many each-kind a actor) cases-ready

    front-traces : (n : ℕ) → take n traces ≡ traces_of (take n f.phases) of_kinds of_cases
    front-traces n = take-traces_of n f.phases of_kinds of_cases

    legal-kind : (t : ℕ) (d : TypeDecl) (k : ClosedKind) → slice_get f.types t ≡ Some d → slice_get r.kinds t ≡ Some k → IsLegalKind f traces t d k
    legal-kind t d k at_d at_k =
        let (part, taken) = each-kind t d k at_d at_k in
        let whole = whole-kind f workable t d part k taken in
        let definition : KindEntry = entry program (kind_event.Define d.schema) (kind_reply (not_defined t) (kind_event.Define d.schema)) in
        let queue = λ (a : ℕ) (actor : IsActor f a). ap (λ o. calls_of a (journal_of o)) at_k ∙ (ap (calls_of a) taken.journal ∙ not-own f definition refl taken.others a actor) in
        let begun : (n a : ℕ) → IsActor f a → (left : List KindEntry) × (calls_of_kind t (done_by a (take n traces)) ++ left ≡ calls_of a taken.others) =
        λ n a actor. let (left, made) = kinds-begin (take n f.phases) of_kinds of_cases a t in (left, ap (λ ts. calls_of_kind t (done_by a ts) ++ left) (front-traces n) ∙ (made ∙ queue a actor)) in
        let calls = served-phases f traces (served_kind f t) (kind-served f workable traces are-traces t) (defined t d).machine taken.others k.machine whole begun in
        let answer : kind_reply (not_defined t) (kind_event.Define d.schema) ≡ kind_answer.Defined = ap (λ step. step.1) (sound-defined t d.schema (row-at IsSound f.types t d workable.sound at_d)) in
        record {
          legal = subst (IsLegal kind_after kind_reply (not_defined t)) (sym taken.journal) (refl, whole.legal);
          machine = whole.state ∙ sym (ap (state_after kind_after (not_defined t)) taken.journal);
          others = taken.others;
          defined = taken.journal ∙ ap (λ x. entry program (kind_event.Define d.schema) x ∷ taken.others) answer;
          callers = All-from_recursion (λ (e : KindEntry). IsActor f e.caller) taken.others whole.callers;
          calls = subst (IsByPhases f (calls_of_kind t) traces) (sym taken.journal) (in-front f definition refl (calls_of_kind t) traces taken.others calls);
        }

    legal-case : (i : ℕ) (d : CaseDecl) (c : ClosedCase) → slice_get f.cases i ≡ Some d → slice_get r.cases i ≡ Some c → IsLegalCase f traces d c
    legal-case i d c at_d at_c =
        let (part, taken) = cases.each i d c at_d at_c in
        let whole = whole-case d part c taken in
        let begun : (n a : ℕ) → IsActor f a → (left : List CaseEntry) × (calls_of_case d.id (done_by a (take n traces)) ++ left ≡ calls_of a c.journal) =
        λ n a actor. let (left, made) = cases-begin (take n f.phases) of_kinds of_cases a d.id in (left, ap (λ ts. calls_of_case d.id (done_by a ts) ++ left) (front-traces n) ∙ (made ∙ ap (calls_of a) (own-journal i d c at_d at_c))) in
        record {
          legal = whole.legal;
          machine = whole.state;
          callers = All-from_recursion (λ (e : CaseEntry). IsActor f e.caller) c.journal whole.callers;
          calls = served-phases f traces (served_case f d.id asked) (case-served f workable traces are-traces r.kinds kinds.many legal-kind d.id) (not_created d.id.type_no) c.journal c.machine whole begun;
        }

    pub legal-run : Legal f r
    legal-run = record {
      traces = traces;
      of_lines = are-traces;
      as_many_kinds = kinds.many;
      as_many_cases = cases.many;
      kinds = legal-kind;
      cases = legal-case;
    }

  -- lines that the reader takes are a report of the file
  pub taken-report : (ls : List Bytes) (r : Run) → Takes (report_reader f) ls r → IsReport f (ending ls)
  taken-report ls r is =
      let h = run-of f ls r is in
      (r, legal-run r h.kind_part h.case_part h.kinds h.cases, report-whole f r h.kind_part h.case_part h.kinds.text h.cases.text ∙ ap ending (sym h.lines))

-- the reader of reports finds the first line that no legal run's report has
pub first-wrong-line : (f : File) → IsWorkable f → IsAuditable f → (report : Bytes) → IsFirstWrong (IsReport f) report (first_wrong (report_reader f) report)
first-wrong-line f workable auditable report =
    first-wrong (IsReport f) (report_reader f) (report-live f workable auditable) (report-taken f workable auditable) (taken-report f workable) report
