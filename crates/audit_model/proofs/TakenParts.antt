-- What the reader of a report takes of types and of cases.
use Rattle.std.proofs.Common.{◌≡◌, ℕ, ◌+◌, List, ◌++◌, Some, slice_get, sym, ap, ◌∙◌, subst, arith}
use Rattle.audit_model.proofs.Common.{and_then, Answers, Asked, asked_phases, Bytes, caller_in, case_after, case_event_of, case_head, case_journal, case_made, case_reader, case_reply, case_shown, case_text, CaseDecl, cases_behind, cases_reader, ClosedCase, ClosedKind, defined, defined_line, end_text, ended, ending, File, first_line, given, how_many, journal, kind_after, kind_behind, kind_event_of, kind_journal, kind_reader, kind_reply, kind_shown, kind_text, KindEntry, kinds_reader, not_created, owed_case, owed_kind, report_reader, Run, summary, Takes, takes-expected, takes-journal, takes-mapped, takes-then, telling, type_head, TypeDecl}
use Rattle.audit_model.proofs.{Common.actor_of, OwnLines.line_actor}
use Rattle.audit_model.proofs.Readers.{case_lines, case-whole, whole_case, kind_front, kind_lines, kind-whole}
use Rattle.audit_model.proofs.Rows.{RowTaken, row-of}

-- ---- a type
pub record KindTaken (f : File) (t : ℕ) (d : TypeDecl) (ls : List Bytes) (k : ClosedKind) : Type 0 where
  pub others : List KindEntry
  pub journal : k.journal ≡ (defined t d).journal ++ others
  pub answers : Answers kind_after kind_reply line_actor kind_event_of (defined t d).machine (owed_kind f t) others k.machine
  pub lines : ls ≡ kind_front f t d ++ kind_lines f 2 others

pub kind-of : (f : File) (t : ℕ) (d : TypeDecl) (ls : List Bytes) (k : ClosedKind) → Takes (kind_reader f t d) ls k → KindTaken f t d ls k
kind-of f t d ls k is =
    let front : Bytes = type_head d ++ defined_line f (defined t d) in
    let both = takes-then (kind_journal f t) (given front (defined t d)) ls k is in
    let (front_is, value) = takes-expected (ended front) (defined t d) both.front both.value both.first in
    let second : Takes (kind_journal f t (defined t d)) both.rest k = subst (λ v. Takes (kind_journal f t v) both.rest k) value both.second in
    let (made, went, same) = takes-mapped (kind_behind (defined t d)) (journal kind_after kind_reply line_actor kind_event_of (caller_in f) (kind_shown f) (how_many (owed_kind f t)) 2 (defined t d).machine (owed_kind f t)) both.rest k second in
    let j = takes-journal kind_after kind_reply line_actor kind_event_of (caller_in f) (kind_shown f) (how_many (owed_kind f t)) 2 (defined t d).machine (owed_kind f t) both.rest made (omega arith) went in
    let machine : k.machine ≡ made.1 = ap (λ (x : ClosedKind). x.machine) same in
    record {
      others = made.0;
      journal = ap (λ (x : ClosedKind). x.journal) same;
      answers = subst (Answers kind_after kind_reply line_actor kind_event_of (defined t d).machine (owed_kind f t) made.0) (sym machine) j.answers;
      lines = both.lines ∙ (ap (λ xs. xs ++ both.rest) front_is ∙ ap (λ xs. kind_front f t d ++ xs) j.lines);
    }

-- all types from one on
abbrev pub KindsTaken : File → ℕ → List TypeDecl → List Bytes → List ClosedKind → Type 0
KindsTaken f n ds ls ks = RowTaken (KindTaken f) (kind_text f) n ds ls ks

kinds-of : (f : File) (ls : List Bytes) (ks : List ClosedKind) → Takes (kinds_reader f 0 f.types) ls ks → KindsTaken f 0 f.types ls ks
kinds-of f ls ks is = row-of (kind_reader f) (KindTaken f) (kind_text f) (kind-of f) (λ n d part k h. kind-whole f n d k h.others h.journal ∙ ap ending (sym h.lines)) 0 f.types ls ks is

-- each type, from the first on
pub kind-at : (f : File) (ls : List Bytes) (ks : List ClosedKind) → KindsTaken f 0 f.types ls ks → (t : ℕ) (d : TypeDecl) (k : ClosedKind) → slice_get f.types t ≡ Some d → slice_get ks t ≡ Some k → (part : List Bytes) × KindTaken f t d part k
kind-at f ls ks h t d k at_d at_k =
    let (part, is) = h.each t d k at_d at_k in
    let same : 0 + t ≡ t = omega arith in
    (part, subst (λ m. KindTaken f m d part k) same is)

-- ---- a case
module _ (f : File) (phases : List (List Asked)) where
  pub record CaseTaken (d : CaseDecl) (ls : List Bytes) (c : ClosedCase) : Type 0 where
    pub answers : Answers case_after case_reply actor_of (case_event_of f) (not_created d.id.type_no) (owed_case d.id phases) c.journal c.machine
    pub lines : ls ≡ whole_case f d c

  abbrev head : CaseDecl → List Bytes
  head d = ended (case_head f d)

  -- the line of a case, and its journal
  journal-of : (d : CaseDecl) (ls : List Bytes) (c : ClosedCase) → Takes (and_then (given (case_head f d) d) (case_journal f phases)) ls c
      → Answers case_after case_reply actor_of (case_event_of f) (not_created d.id.type_no) (owed_case d.id phases) c.journal c.machine × (ls ≡ head d ++ case_lines f 1 c.journal)
  journal-of d ls c is =
      let both = takes-then (case_journal f phases) (given (case_head f d) d) ls c is in
      let (head_is, value) = takes-expected (head d) d both.front both.value both.first in
      let second : Takes (case_journal f phases d) both.rest c = subst (λ v. Takes (case_journal f phases v) both.rest c) value both.second in
      let (made, went, same) = takes-mapped case_made (journal case_after case_reply actor_of (case_event_of f) (caller_in f) (case_shown f) (how_many (owed_case d.id phases)) 1 (not_created d.id.type_no) (owed_case d.id phases)) both.rest c second in
      let j = takes-journal case_after case_reply actor_of (case_event_of f) (caller_in f) (case_shown f) (how_many (owed_case d.id phases)) 1 (not_created d.id.type_no) (owed_case d.id phases) both.rest made (omega arith) went in
      subst (λ (x : ClosedCase). Answers case_after case_reply actor_of (case_event_of f) (not_created d.id.type_no) (owed_case d.id phases) x.journal x.machine × (ls ≡ head d ++ case_lines f 1 x.journal)) (sym same)
      (j.answers, both.lines ∙ (ap (λ xs. xs ++ both.rest) head_is ∙ ap (λ xs. head d ++ xs) j.lines))

  pub case-of : (d : CaseDecl) (ls : List Bytes) (c : ClosedCase) → Takes (case_reader f phases d) ls c → CaseTaken d ls c
  case-of d ls c is =
      let both = takes-then (λ (x : ClosedCase). given (end_text f x.machine.live) x) (and_then (given (case_head f d) d) (case_journal f phases)) ls c is in
      let (answers, lines) = journal-of d both.front both.value both.first in
      let (end_is, value) = takes-expected (ended (end_text f both.value.machine.live)) both.value both.rest c both.second in
      subst (CaseTaken d ls) (sym value) (record { answers = answers; lines = both.lines ∙ (ap (λ xs. xs ++ both.rest) lines ∙ ap (λ xs. (head d ++ case_lines f 1 both.value.journal) ++ xs) end_is) })

  abbrev pub CasesTaken : List Bytes → List ClosedCase → Type 0
  CasesTaken ls cs = RowTaken (λ n d part c. CaseTaken d part c) (case_text f) 0 f.cases ls cs

  pub cases-of : (ls : List Bytes) (cs : List ClosedCase) → Takes (cases_reader f phases f.cases) ls cs → CasesTaken ls cs
  cases-of ls cs is = row-of (λ n d. case_reader f phases d) (λ n d part c. CaseTaken d part c) (case_text f) (λ n d part c h. case-of d part c h) (λ n d part c h. case-whole f d c ∙ ap ending (sym h.lines)) 0 f.cases ls cs is

-- ---- the whole report
abbrev pub header : File → List Bytes
header f = ended (first_line f)

pub record RunTaken (f : File) (ls : List Bytes) (r : Run) : Type 0 where
  pub kind_part : List Bytes
  pub case_part : List Bytes
  pub kinds : KindsTaken f 0 f.types kind_part r.kinds
  pub cases : CasesTaken f (asked_phases (telling r.kinds) f.phases) case_part r.cases
  pub lines : ls ≡ ((header f ++ kind_part) ++ case_part) ++ ended (summary f r)

-- the types behind the header
pub record TypesTaken (f : File) (ls : List Bytes) (ks : List ClosedKind) : Type 0 where
  pub part : List Bytes
  pub kinds : KindsTaken f 0 f.types part ks
  pub lines : ls ≡ header f ++ part

pub types-of : (f : File) (ls : List Bytes) (ks : List ClosedKind) → Takes (and_then (given (first_line f) 0) (λ (n : ℕ). kinds_reader f 0 f.types)) ls ks → TypesTaken f ls ks
types-of f ls ks is =
    let both = takes-then (λ (n : ℕ). kinds_reader f 0 f.types) (given (first_line f) 0) ls ks is in
    let (front_is, value) = takes-expected (header f) 0 both.front both.value both.first in
    record { part = both.rest; kinds = kinds-of f both.rest ks both.second; lines = both.lines ∙ ap (λ xs. xs ++ both.rest) front_is }

pub run-of : (f : File) (ls : List Bytes) (r : Run) → Takes (report_reader f) ls r → RunTaken f ls r
run-of f ls r is =
    let front = and_then (and_then (given (first_line f) 0) (λ (n : ℕ). kinds_reader f 0 f.types)) (cases_behind f) in
    let all = takes-then (λ (x : Run). given (summary f x) x) front ls r is in
    let (last_is, value) = takes-expected (ended (summary f all.value)) all.value all.rest r all.second in
    let inner = takes-then (cases_behind f) (and_then (given (first_line f) 0) (λ (n : ℕ). kinds_reader f 0 f.types)) all.front all.value all.first in
    let types = types-of f inner.front inner.value inner.first in
    let (cs, went, same) = takes-mapped (λ (cases : List ClosedCase). record { kinds = inner.value; cases = cases }) (cases_reader f (asked_phases (telling inner.value) f.phases) f.cases) inner.rest all.value inner.second in
    let cases = cases-of f (asked_phases (telling inner.value) f.phases) inner.rest cs went in
    let lines : ls ≡ ((header f ++ types.part) ++ inner.rest) ++ ended (summary f all.value) =
    all.lines ∙ (ap (λ xs. xs ++ all.rest) inner.lines ∙ (ap (λ xs. (xs ++ inner.rest) ++ all.rest) types.lines ∙ ap (λ xs. ((header f ++ types.part) ++ inner.rest) ++ xs) last_is)) in
    let lines_r : ls ≡ ((header f ++ types.part) ++ inner.rest) ++ ended (summary f r) = subst (λ (x : Run). ls ≡ ((header f ++ types.part) ++ inner.rest) ++ ended (summary f x)) (sym value) lines in
    subst (λ (x : Run). ls ≡ ((header f ++ types.part) ++ inner.rest) ++ ended (summary f x) → RunTaken f ls x) (sym (value ∙ same))
    (λ lines. record { kind_part = types.part; case_part = inner.rest; kinds = types.kinds; cases = cases; lines = lines }) lines_r
