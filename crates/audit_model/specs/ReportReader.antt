-- The report of a file as a reader.
use Rattle.std.specs.Prelude.{ℕ, ◌+◌, List, [], ◌∷◌, ◌++◌, Option, Some, None, slice_get}
use Rattle.audit_model.specs.Common.{and_then, Bytes, case_after, case_head, case_reply, CaseDecl, CaseEntry, CaseModel, ClosedCase, ClosedKind, defined, done, end_text, ended, expected, File, first_line, how_many, journal, kind_after, kind_line, kind_reply, KindEntry, KindModel, Line, mapped, not_created, Reader, Run, summary, type_head, TypeDecl}
use Rattle.audit_model.specs.Asked.{Asked, asked_phases, case_event_of, kind_event_of, owed_case, owed_kind, Telling, told_to}
use Rattle.audit_model.specs.Printed.{caller_in, case_shown, kind_shown}

-- the lines of a text
abbrev pub given : {A : Type 0} → Bytes → A → Reader A
given text a = expected (ended text) a

-- readers of the items of a list, each by its number, one behind another
abbrev pub in_row : {D A : Type 0} → (ℕ → D → Reader A) → ℕ → List D → Reader (List A)
in_row one n [] = done []
in_row one n (d ∷ ds) = and_then (one n d) (λ a. mapped (λ xs. a ∷ xs) (in_row one (n + 1) ds))

-- ---- a type: its line, its definition, and its journal
abbrev pub kind_behind : ClosedKind → List KindEntry × KindModel → ClosedKind
kind_behind k made = record { machine = made.1; journal = k.journal ++ made.0 }

abbrev pub kind_journal : File → ℕ → ClosedKind → Reader ClosedKind
kind_journal f t k = mapped (kind_behind k) (journal kind_after kind_reply (λ (l : Line). l.actor) kind_event_of (caller_in f) (kind_shown f) (how_many (owed_kind f t)) 2 k.machine (owed_kind f t))

abbrev pub defined_line : File → ClosedKind → Bytes
defined_line f k = first_text k.journal
  where
    first_text : List KindEntry → Bytes
    first_text [] = []
    first_text (e ∷ es) = kind_line f 1 e

abbrev pub kind_reader : File → ℕ → TypeDecl → Reader ClosedKind
kind_reader f t d = and_then (given (type_head d ++ defined_line f (defined t d)) (defined t d)) (kind_journal f t)

abbrev pub kinds_reader : File → ℕ → List TypeDecl → Reader (List ClosedKind)
kinds_reader f t ds = in_row (kind_reader f) t ds

-- the versions that each actor was told
abbrev pub journal_of : Option ClosedKind → List KindEntry
journal_of None = []
journal_of (Some k) = k.journal

abbrev pub telling : List ClosedKind → Telling
telling kinds a t = told_to a (journal_of (slice_get kinds t))

-- ---- a case: its line, its journal, and its end
abbrev pub case_made : List CaseEntry × CaseModel → ClosedCase
case_made made = record { machine = made.1; journal = made.0 }

abbrev pub case_journal : File → List (List Asked) → CaseDecl → Reader ClosedCase
case_journal f phases d = mapped case_made (journal case_after case_reply (λ (l : Asked). l.0.actor) (case_event_of f) (caller_in f) (case_shown f) (how_many (owed_case d.id phases)) 1 (not_created d.id.type_no) (owed_case d.id phases))

abbrev pub case_reader : File → List (List Asked) → CaseDecl → Reader ClosedCase
case_reader f phases d = and_then (and_then (given (case_head f d) d) (case_journal f phases)) (λ c. given (end_text f c.machine.live) c)

abbrev pub cases_reader : File → List (List Asked) → List CaseDecl → Reader (List ClosedCase)
cases_reader f phases ds = in_row (λ n d. case_reader f phases d) 0 ds

-- ---- the report
abbrev pub cases_behind : File → List ClosedKind → Reader Run
cases_behind f kinds = mapped (λ cases. record { kinds = kinds; cases = cases }) (cases_reader f (asked_phases (telling kinds) f.phases) f.cases)

abbrev pub report_reader : File → Reader Run
report_reader f = and_then (and_then (and_then (given (first_line f) 0) (λ (n : ℕ). kinds_reader f 0 f.types)) (cases_behind f)) (λ r. given (summary f r) r)
