-- The reports of a file: those of its legal runs.
use Rattle.std.specs.Prelude.{◌≡◌}
use Rattle.audit_model.specs.Common.{Bytes, File, Legal, Run, text}

-- a legal run has this report
abbrev pub IsReport : File → Bytes → Type 0
IsReport f report = (r : Run) × Legal f r × (text f r ≡ report)
