-- How an audit ends: what it tells, and what is left of its source and its sink.
use Rattle.std.specs.{Prelude.{◌≡◌, ℕ, false, true, List, Option, Result, Ok, Err, IfSome, IsErr}, Io.KnownBytes.{Appends, IsAtEnd}}
use Rattle.audit_model.specs.Common.{File, file}
use Rattle.adept_io.specs.{Counts.Rose, Read.ConsumesUpTo, Written.AppendsPrefix}
use Rattle.case_audit.specs.{Parts.{file_part, is_too_long, most_bytes, report_part}, Verdicts.{IsVerdict, verdict_text}, declared.reports.Verdict.Verdict, declared.unaudited.Unaudited.Unaudited}
use Rattle.case_audit.specs.declared.unaudited.Unaudited.TheVariants as why

-- The bytes are not too many, and are a process file and a report of which this is the verdict; or their file is refused.
abbrev pub IsVerdictOn : List ℕ → Verdict → Type 0
IsVerdictOn b v = (is_too_long b ≡ false) × ((f : File) × (file (file_part b) ≡ Ok f) × IsVerdict f (report_part b) v)

abbrev pub IsRefused : List ℕ → Type 0
IsRefused b = (is_too_long b ≡ false) × IsErr (file (file_part b))

-- What is said of a verdict that is right was written, or a beginning of it where a write failed. No other end touches the sink; each
-- but want of memory has its cause.
abbrev pub Tells : {K : Type 0} → (Verdict → Type 0) → Type 0 → Type 0 → (K → Option (List ℕ)) → (K → ℕ) → K → K → Result Verdict Unaudited → Type 0
Tells IsRight Refused TooLong written faults old new (Ok v) = IsRight v × Appends (written old) (written new) (verdict_text v)
Tells IsRight Refused TooLong written faults old new (Err why.Unwritten) = ((v : Verdict) × IsRight v × AppendsPrefix (written old) (written new) (verdict_text v)) × Rose (faults old) (faults new)
Tells IsRight Refused TooLong written faults old new (Err why.Refused) = Refused × (new ≡ old)
Tells IsRight Refused TooLong written faults old new (Err why.TooLong) = TooLong × (new ≡ old)
Tells IsRight Refused TooLong written faults old new (Err why.NoMemory) = new ≡ old
Tells IsRight Refused TooLong written faults old new (Err why.Unread) = ⊥

-- of a verdict, of a report of a file, and of bytes that were read
abbrev pub TellsOne : {K : Type 0} → (K → Option (List ℕ)) → (K → ℕ) → Verdict → K → K → Result Verdict Unaudited → Type 0
TellsOne written faults v old new r = Tells (λ u. u ≡ v) ⊥ ⊥ written faults old new r

abbrev pub TellsReport : {K : Type 0} → (K → Option (List ℕ)) → (K → ℕ) → File → List ℕ → K → K → Result Verdict Unaudited → Type 0
TellsReport written faults f report old new r = Tells (IsVerdict f report) ⊥ ⊥ written faults old new r

abbrev pub TellsBytes : {K : Type 0} → (K → Option (List ℕ)) → (K → ℕ) → List ℕ → K → K → Result Verdict Unaudited → Type 0
TellsBytes written faults b old new r = Tells (IsVerdictOn b) (IsRefused b) (is_too_long b ≡ true) written faults old new r

-- The source was read to its end, and no read failed. Where memory wanted or the input is too long it may not have been; no more bytes
-- are taken than there may be, but where the input is too long.
abbrev pub Takes : {S : Type 0} → (S → Option (List ℕ)) → (S → ℕ) → S → S → Result Verdict Unaudited → Type 0
Takes left faults from to (Err why.TooLong) = faults to ≡ faults from
Takes left faults from to (Err why.NoMemory) = (faults to ≡ faults from) × ConsumesUpTo (left from) (left to) most_bytes
Takes left faults from to _ = (faults to ≡ faults from) × ConsumesUpTo (left from) (left to) most_bytes × IsAtEnd (left to)

-- An audit ends, from these source and sink to those: of the source's bytes, where they are known, a verdict is told or not, or a read failed.
abbrev pub EndsAudit : {S K : Type 0} → (S → Option (List ℕ)) → (S → ℕ) → (K → Option (List ℕ)) → (K → ℕ) → S → S → K → K → Result Verdict Unaudited → Type 0
EndsAudit left read_faults written write_faults from to old new (Err why.Unread) = Rose (read_faults from) (read_faults to) × ConsumesUpTo (left from) (left to) most_bytes × (new ≡ old)
EndsAudit left read_faults written write_faults from to old new r =
    Tells (λ v. IfSome (left from) (λ b. IsVerdictOn b v)) (IfSome (left from) IsRefused) (IfSome (left from) (λ b. is_too_long b ≡ true)) written write_faults old new r
    × Takes left read_faults from to r
