-- The report of a legal run is taken by the reader, whole: its types, its cases, and all of it.
use Rattle.std.proofs.Common.{◌≡◌, ℕ, ◌+◌, List, ◌++◌, length, Some, slice_get, sym, ap, ◌∙◌, subst, arith, append_assoc}
use Rattle.audit_model.proofs.Common.{and_then, AreTraces, Asked, asked_phases, Bytes, caller_in, case_after, case_event_of, case_head, case_journal, case_line, case_made, case_reader, case_reply, case_shown, case_text, CaseDecl, CaseEntry, cases_behind, cases_reader, cases_text, ClosedCase, ClosedKind, defined, defined_line, end_text, ended, ending, entry, expected-takes, File, first_line, given, how_many, IsActor, IsAuditable, IsLegalCase, recursion_from_All, IsLegalKind, IsReport, IsWorkable, journal, journal-takes, kind_after, kind_behind, kind_event_of, kind_journal, kind_line, kind_reader, kind_reply, kind_shown, kind_text, KindEntry, kinds_reader, kinds_text, Legal, lines_from, mapped-takes, not_created, not_defined, numbered, owed_case, owed_kind, program, report_reader, Run, summary, Takes, telling, text, then-takes, Trace, type_head, TypeDecl}
use Rattle.audit_model.proofs.{Common.actor_of, OwnLines.line_actor}
use Rattle.audit_model.proofs.Runs.{kind-answers, kind-journal, case-answers, case-callers}
use Rattle.audit_model.proofs.Callers.{tells-case, tells-kind}
use Rattle.audit_model.proofs.Rows.{IsTaken, row-takes}
use Rattle.audit_model.proofs.Texts.{ending-append, kind-line, numbered-lines, EndsLine, ends-behind, case-line, ending-lines, end-ends, head-ends, header-ends, summary-ends}
use Rattle.type_core.specs.declared.events.KindEvent.TheVariants as event

abbrev pub kind_lines : File → ℕ → List KindEntry → List Bytes
kind_lines f k es = lines_from kind_after kind_reply line_actor kind_event_of (caller_in f) (kind_shown f) k es

-- a type's head and its definition, as lines
abbrev pub kind_front : File → ℕ → TypeDecl → List Bytes
kind_front f t d = ended (type_head d ++ defined_line f (defined t d))

-- the text of a type is its lines
pub kind-whole : (f : File) (t : ℕ) (d : TypeDecl) (k : ClosedKind) (others : List KindEntry) → k.journal ≡ (defined t d).journal ++ others → kind_text f d k ≡ ending (kind_front f t d ++ kind_lines f 2 others)
kind-whole f t d k others journal_is =
    let first = type_head d ++ defined_line f (defined t d) in
    let entries = kind_lines f 2 others in
    let definition : KindEntry = entry program (event.Define d.schema) (kind_reply (not_defined t) (event.Define d.schema)) in
    let ends : EndsLine first = ends-behind (type_head d) (defined_line f (defined t d)) (record { before = kind_shown f 1 definition; is = kind-line f 1 definition }) in
    ap (λ es. type_head d ++ numbered (kind_line f) 1 es) journal_is ∙ (sym (append_assoc (type_head d) (defined_line f (defined t d)) (numbered (kind_line f) 2 others))
    ∙ (ap (λ bs. first ++ bs) (numbered-lines kind_after kind_reply line_actor kind_event_of (caller_in f) (kind_line f) (kind_shown f) (kind-line f) 2 others)
    ∙ (ap (λ bs. bs ++ ending entries) (sym (ending-lines first ends)) ∙ sym (ending-append (kind_front f t d) entries))))

module _ (f : File) (workable : IsWorkable f) (auditable : IsAuditable f) (traces : List Trace) (of_lines : AreTraces f f.phases traces) where
  pub kind-taken : (t : ℕ) (d : TypeDecl) (k : ClosedKind) → IsLegalKind f traces t d k → IsTaken (Takes (kind_reader f t d)) (kind_text f d k) k
  kind-taken t d k legal =
      let front = kind_front f t d in
      let entries = kind_lines f 2 legal.others in
      let callers = recursion_from_All (λ (e : KindEntry). IsActor f e.caller) legal.others legal.callers in
      let taken = journal-takes kind_after kind_reply line_actor kind_event_of (caller_in f) (kind_shown f) (IsActor f) (tells-kind f auditable) (how_many (owed_kind f t)) 2 (defined t d).machine (owed_kind f t) legal.others k.machine (omega arith) callers
      (kind-answers f workable traces of_lines t d k legal) in
      let made = mapped-takes (kind_behind (defined t d)) (journal kind_after kind_reply line_actor kind_event_of (caller_in f) (kind_shown f) (how_many (owed_kind f t)) 2 (defined t d).machine (owed_kind f t)) entries (legal.others, k.machine) taken in
      let is : kind_behind (defined t d) (legal.others, k.machine) ≡ k = ap (λ js. record { machine = k.machine; journal = js }) (sym (kind-journal f workable traces of_lines t d k legal)) in
      record {
        lines = front ++ entries;
        taken = then-takes (kind_journal f t) (given (type_head d ++ defined_line f (defined t d)) (defined t d)) front entries (defined t d) k (expected-takes front (defined t d)) (subst (Takes (kind_journal f t (defined t d)) entries) is made);
        whole = kind-whole f t d k legal.others (kind-journal f workable traces of_lines t d k legal);
      }

-- ---- the report of a legal run is taken by the reader, whole
abbrev pub case_lines : File → ℕ → List CaseEntry → List Bytes
case_lines f k es = lines_from case_after case_reply actor_of (case_event_of f) (caller_in f) (case_shown f) k es

-- the text of a case is its lines
abbrev pub whole_case : File → CaseDecl → ClosedCase → List Bytes
whole_case f d c = (ended (case_head f d) ++ case_lines f 1 c.journal) ++ ended (end_text f c.machine.live)

pub case-whole : (f : File) (d : CaseDecl) (c : ClosedCase) → case_text f d c ≡ ending (whole_case f d c)
case-whole f d c =
    let head = ended (case_head f d) in
    let entries = case_lines f 1 c.journal in
    let end = ended (end_text f c.machine.live) in
    let journal_is = numbered-lines case_after case_reply actor_of (case_event_of f) (caller_in f) (case_line f) (case_shown f) (case-line f) 1 c.journal in
    rw (ending-append (head ++ entries) end, ending-append head entries, ending-lines (case_head f d) (head-ends f d), ending-lines (end_text f c.machine.live) (end-ends f c.machine.live), ← journal_is)
    (sym (append_assoc (case_head f d) (numbered (case_line f) 1 c.journal) (end_text f c.machine.live)))

module _ (f : File) (workable : IsWorkable f) (auditable : IsAuditable f) (traces : List Trace) (of_lines : AreTraces f f.phases traces) (kinds : List ClosedKind) (many : length kinds ≡ length f.types)
    (legal_kinds : (t : ℕ) (d : TypeDecl) (k : ClosedKind) → slice_get f.types t ≡ Some d → slice_get kinds t ≡ Some k → IsLegalKind f traces t d k) where
  abbrev phases : List (List Asked)
  phases = asked_phases (telling kinds) f.phases

  pub case-taken : (d : CaseDecl) (c : ClosedCase) → IsLegalCase f traces d c → IsTaken (Takes (case_reader f phases d)) (case_text f d c) c
  case-taken d c legal =
      let head = ended (case_head f d) in
      let entries = case_lines f 1 c.journal in
      let end = ended (end_text f c.machine.live) in
      let taken = journal-takes case_after case_reply actor_of (case_event_of f) (caller_in f) (case_shown f) (IsActor f) (tells-case f auditable) (how_many (owed_case d.id phases)) 1 (not_created d.id.type_no) (owed_case d.id phases) c.journal c.machine (omega arith)
      (case-callers f workable traces of_lines kinds many legal_kinds d c legal) (case-answers f workable traces of_lines kinds many legal_kinds d c legal) in
      let made = mapped-takes case_made (journal case_after case_reply actor_of (case_event_of f) (caller_in f) (case_shown f) (how_many (owed_case d.id phases)) 1 (not_created d.id.type_no) (owed_case d.id phases)) entries (c.journal, c.machine) taken in
      record {
        lines = (head ++ entries) ++ end;
        taken = then-takes (λ (x : ClosedCase). given (end_text f x.machine.live) x) (and_then (given (case_head f d) d) (case_journal f phases)) (head ++ entries) end c c
            (then-takes (case_journal f phases) (given (case_head f d) d) head entries d c (expected-takes head d) made) (expected-takes end c);
        whole = case-whole f d c;
      }

-- ---- the whole report
-- the text of a report is the lines of its parts
pub report-whole : (f : File) (r : Run) (ks cs : List Bytes) → kinds_text f f.types r.kinds ≡ ending ks → cases_text f f.cases r.cases ≡ ending cs → text f r ≡ ending (((ended (first_line f) ++ ks) ++ cs) ++ ended (summary f r))
report-whole f r ks cs b c =
    let header = ended (first_line f) in
    let last = ended (summary f r) in
    rw (ending-append ((header ++ ks) ++ cs) last, ending-append (header ++ ks) cs, ending-append header ks, ending-lines (first_line f) (header-ends f), ending-lines (summary f r) (summary-ends f r), ← b, ← c)
    (sym (append_assoc (first_line f) (kinds_text f f.types r.kinds) (cases_text f f.cases r.cases ++ summary f r)) ∙ sym (append_assoc (first_line f ++ kinds_text f f.types r.kinds) (cases_text f f.cases r.cases) (summary f r)))

run-taken : (f : File) → IsWorkable f → IsAuditable f → (r : Run) → Legal f r → IsTaken (Takes (report_reader f)) (text f r) r
run-taken f workable auditable r legal =
    let header : List Bytes = ended (first_line f) in
    let last : List Bytes = ended (summary f r) in
    let ks = row-takes (kind_reader f) (kind_text f) 0 f.types r.kinds legal.as_many_kinds
    (λ t d k at_d at_k. kind-taken f workable auditable legal.traces legal.of_lines (0 + t) d k (let same : t ≡ 0 + t = omega arith in subst (λ m. IsLegalKind f legal.traces m d k) same (legal.kinds t d k at_d at_k))) in
    let cs = row-takes (λ n d. case_reader f (asked_phases (telling r.kinds) f.phases) d) (case_text f) 0 f.cases r.cases legal.as_many_cases
    (λ i d c at_d at_c. case-taken f workable auditable legal.traces legal.of_lines r.kinds legal.as_many_kinds legal.kinds d c (legal.cases i d c at_d at_c)) in
    let cases_taken = mapped-takes (λ (cases : List ClosedCase). record { kinds = r.kinds; cases = cases }) (cases_reader f (asked_phases (telling r.kinds) f.phases) f.cases) cs.lines r.cases cs.taken in
    let first_two = then-takes (λ (n : ℕ). kinds_reader f 0 f.types) (given (first_line f) 0) header ks.lines 0 r.kinds (expected-takes header 0) ks.taken in
    let first_three = then-takes (cases_behind f) (and_then (given (first_line f) 0) (λ (n : ℕ). kinds_reader f 0 f.types)) (header ++ ks.lines) cs.lines r.kinds r first_two cases_taken in
    record {
      lines = ((header ++ ks.lines) ++ cs.lines) ++ last;
      taken = then-takes (λ (x : Run). given (summary f x) x) (and_then (and_then (given (first_line f) 0) (λ (n : ℕ). kinds_reader f 0 f.types)) (cases_behind f)) ((header ++ ks.lines) ++ cs.lines) last r r first_three (expected-takes last r);
      whole = report-whole f r ks.lines cs.lines ks.whole cs.whole;
    }

-- each report of the file is taken
pub report-taken : (f : File) → IsWorkable f → IsAuditable f → (t : Bytes) → IsReport f t → (ls : List Bytes) × (r : Run) × Takes (report_reader f) ls r × (t ≡ ending ls)
report-taken f workable auditable t (r, legal, is) = let h = run-taken f workable auditable r legal in (h.lines, r, h.taken, sym is ∙ h.whole)
