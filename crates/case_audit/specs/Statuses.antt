-- The statuses with which an audit ends.
use Rattle.std.specs.Prelude.{ℕ, Result, Ok, Err}
use Rattle.audit_model.specs.Common.{FileRefusal}
use Rattle.case_audit.specs.{declared.reports.Verdict.Verdict, declared.unaudited.Unaudited.Unaudited}
use Rattle.case_audit.specs.declared.reports.Verdict.TheVariants as verdict
use Rattle.case_audit.specs.declared.unaudited.Unaudited.TheVariants as why
use Rattle.file_model.specs.declared.refusals.FileRefusal.TheVariants as refusal

abbrev pub end_status : Result Verdict Unaudited → ℕ
end_status (Ok verdict.Legal) = 0
end_status (Err why.Refused) = 1
end_status (Err why.Unread) = 3
end_status (Err why.Unwritten) = 4
end_status (Err why.NoMemory) = 5
end_status (Err why.TooLong) = 6
end_status (Ok (verdict.Wrong line)) = 7

-- of a process file that is refused
abbrev pub of_file : FileRefusal → Unaudited
of_file (refusal.Refused place) = why.Refused
of_file refusal.NoMemory = why.NoMemory
