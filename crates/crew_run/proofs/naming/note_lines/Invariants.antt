use Rattle.crew_run.proofs.Common.{ℕ, ◌≡◌, CaseId, IsCalmCase, IsCalmKind, IsUnnamedCase, IsUnnamedKind, rows_of, take}
use Rattle.crew_run.proofs.naming.note_lines.Given as goal

abbrev pub invariant-loop-line : goal.invariant-loop-line
invariant-loop-line l = record {
  rows : rows_of l.called ≡ rows_of l.fn.called;
  kinds : (t : ℕ) → IsCalmKind l.called t → IsUnnamedKind (take l.line-index l.lines) t;
  cases : (c : CaseId) → IsCalmCase l.called c → IsUnnamedCase (take l.line-index l.lines) c;
}
