-- What a verdict says of a report.
use Rattle.std.specs.{Prelude.{◌≡◌, ℕ, ◌==◌, ◌&&◌, ◌++◌, Bool, length, Option, Some, None, Ok, codes, decimal}, Option.is_some}
use Rattle.audit_model.specs.{Common.{IsAuditable, IsWorkable, Bytes, File, file, Followed, Follows, IsFirstWrong, left_of, Run}, ReportReader.report_reader, Reports.IsReport}
use Rattle.case_audit.specs.declared.reports.Verdict.{Verdict}
use Rattle.case_audit.specs.declared.reports.Verdict.TheVariants as verdict

-- the report was gone along from one place to another: to its last line, or to the line that is wrong; whether all stands there, and nothing behind it
abbrev pub IsJudged : File → Followed → Followed → Bool → Type 0
IsJudged f old new stands = (value : Option Run) × (stands ≡ (is_some value && (length (left_of new) == 0))) × Follows (report_reader f) old new value

-- a file whose report can be judged
pub record CanAudit (f : File) : Type 0 where
  pub workable : IsWorkable f
  pub auditable : IsAuditable f

-- a file that some bytes are
abbrev pub IsRead : File → Type 0
IsRead f = (bytes : Bytes) × (file bytes ≡ Ok f)

-- the line that a verdict names
abbrev pub wrong_line : Verdict → Option ℕ
wrong_line verdict.Legal = None
wrong_line (verdict.Wrong line) = Some line

-- A legal run has the report; or the line is the first with which no legal run's report goes on.
abbrev pub IsVerdict : File → Bytes → Verdict → Type 0
IsVerdict f report v = IsFirstWrong (IsReport f) report (wrong_line v)

-- what is written of it
abbrev pub verdict_text : Verdict → Bytes
verdict_text verdict.Legal = codes "legal\n"
verdict_text (verdict.Wrong line) = codes "wrong line " ++ (decimal line ++ codes "\n")
