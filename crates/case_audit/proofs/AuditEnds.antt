-- How an audit ends follows from how its bytes were got, and how they were judged.
use Rattle.case_audit.proofs.Common.{ℕ, ◌++◌, ◌+◌, ◌||◌, ◌∙◌, ◌≡◌, ◌≤◌, ap, append-nil, arith, Err, false, IfSome, le-ltb, length, length-append, List, lt-ltb, nat_lt, None, Ok, Option, refl, Result, Some, subst, sym, true}
use Rattle.std.specs.Io.KnownBytes.{Appends, Consumes, IsAtEnd}
use Rattle.case_audit.proofs.Common.{EndsAudit, file, file_part, FileRefusal, is_too_long, IsRefused, IsVerdictOn, most_bytes, most_in_file, most_in_report, report_part, Tells as TellsFile, TellsBytes, TellsOne, verdict_text}
use Rattle.adept_io.specs.{Counts.Rose, Read.{ConsumesMany, ConsumesUpTo}, Written.AppendsPrefix}
use Rattle.case_audit.specs.{Endings.Tells, Statuses.of_file, declared.reports.Verdict.Verdict, declared.unaudited.Unaudited.Unaudited}
use Rattle.case_audit.specs.declared.unaudited.Unaudited.TheVariants as why
use Rattle.file_model.specs.declared.refusals.FileRefusal.TheVariants as refusal

-- what holds of bytes that were read to the end holds of what the source had left
on-known : (a b : Option (List ℕ)) (bytes : List ℕ) (P : List ℕ → Type 0) → Consumes a b bytes → IsAtEnd b → P bytes → IfSome a P
on-known None b bytes P taken end holds = tt
on-known (Some xs) None bytes P taken end holds = absurd taken
on-known (Some xs) (Some ys) bytes P taken end holds = subst P (sym (taken ∙ (ap (λ zs. bytes ++ zs) end ∙ append-nil bytes))) holds

-- more bytes than there may be
too-many : (a b : Option (List ℕ)) → ConsumesMany a b (most_bytes + 1) → IfSome a (λ xs. is_too_long xs ≡ true)
too-many None b taken = tt
too-many (Some xs) None (bytes, taken, many) = absurd taken
too-many (Some xs) (Some ys) (bytes, taken, many) =
    let long : length xs ≡ length bytes + length ys = ap length taken ∙ length-append bytes ys in
    let past : nat_lt most_bytes (length xs) ≡ true = lt-ltb most_bytes (length xs) (omega (arith, long, many)) in
    ap (λ test. (test || nat_lt most_in_file (length (file_part xs))) || nat_lt most_in_report (length (report_part xs))) past

-- no part is too long
pub not-too-long : (bytes : List ℕ) → length bytes ≤ most_bytes → length (file_part bytes) ≤ most_in_file → length (report_part bytes) ≤ most_in_report → is_too_long bytes ≡ false
not-too-long bytes whole file report =
    ap (λ test. (test || nat_lt most_in_file (length (file_part bytes))) || nat_lt most_in_report (length (report_part bytes))) (le-ltb most_bytes (length bytes) whole)
    ∙ (ap (λ test. test || nat_lt most_in_report (length (report_part bytes))) (le-ltb most_in_file (length (file_part bytes)) file) ∙ le-ltb most_in_report (length (report_part bytes)) report)

module _ {K : Type 0} (written : K → Option (List ℕ)) (faults : K → ℕ) (old new : K) where
  -- what is right of less is right of more
  pub tells-on : (P Q : Verdict → Type 0) (A B C D : Type 0) → ((v : Verdict) → P v → Q v) → (A → B) → (C → D) → (r : Result Verdict Unaudited) → Tells P A C written faults old new r → Tells Q B D written faults old new r
  tells-on P Q A B C D right refused long (Ok v) (is, wrote) = (right v is, wrote)
  tells-on P Q A B C D right refused long (Err why.Unwritten) ((v, is, wrote), rose) = ((v, right v is, wrote), rose)
  tells-on P Q A B C D right refused long (Err why.Refused) (bad, still) = (refused bad, still)
  tells-on P Q A B C D right refused long (Err why.TooLong) (many, still) = (long many, still)
  tells-on P Q A B C D right refused long (Err why.NoMemory) still = still
  tells-on P Q A B C D right refused long (Err why.Unread) none = absurd none

-- a verdict that was written, or not
pub told : {K : Type 0} (written : K → Option (List ℕ)) (faults : K → ℕ) (v : Verdict) (old new : K) → Appends (written old) (written new) (verdict_text v) → TellsOne written faults v old new (Ok v)
told written faults v old new wrote = (refl, wrote)

pub untold : {K : Type 0} (written : K → Option (List ℕ)) (faults : K → ℕ) (v : Verdict) (old new : K) → AppendsPrefix (written old) (written new) (verdict_text v) → Rose (faults old) (faults new) → TellsOne written faults v old new (Err why.Unwritten)
untold written faults v old new wrote rose = ((v, refl, wrote), rose)

-- a file that is refused ends so, or by want of memory
pub refused-how : {K : Type 0} (written : K → Option (List ℕ)) (faults : K → ℕ) (bytes : List ℕ) (how : FileRefusal) (sink : K) → is_too_long bytes ≡ false → TellsFile (file (file_part bytes)) how
    → TellsBytes written faults bytes sink sink (Err (of_file how))
refused-how written faults bytes (refusal.Refused place) sink short tells = ((short, rw tells refl), refl)
refused-how written faults bytes refusal.NoMemory sink short tells = refl

module _ {S K : Type 0} (left : S → Option (List ℕ)) (read_faults : S → ℕ) (written : K → Option (List ℕ)) (write_faults : K → ℕ) (from to : S) (old new : K) where
  abbrev Ends : Result Verdict Unaudited → Type 0
  Ends r = EndsAudit left read_faults written write_faults from to old new r

  -- all bytes came
  pub read-ends : (bytes : List ℕ) → Consumes (left from) (left to) bytes → IsAtEnd (left to) → length bytes ≤ most_bytes → read_faults to ≡ read_faults from → (r : Result Verdict Unaudited)
      → TellsBytes written write_faults bytes old new r → Ends r
  read-ends bytes taken end within calm r how = by r (tells-on written write_faults old new (IsVerdictOn bytes) _ (IsRefused bytes) _ (is_too_long bytes ≡ true) _ (λ v. known (λ b. IsVerdictOn b v)) (known IsRefused) (known (λ b. is_too_long b ≡ true)) r how)
    where
      known : (P : List ℕ → Type 0) → P bytes → IfSome (left from) P
      known P holds = on-known (left from) (left to) bytes P taken end holds

      few : ConsumesUpTo (left from) (left to) most_bytes
      few = (bytes, taken, within)

      by : (r : Result Verdict Unaudited) → Tells (λ v. IfSome (left from) (λ b. IsVerdictOn b v)) (IfSome (left from) IsRefused) (IfSome (left from) (λ b. is_too_long b ≡ true)) written write_faults old new r → Ends r
      by (Ok v) tells = (tells, (calm, few, end))
      by (Err why.Unwritten) tells = (tells, (calm, few, end))
      by (Err why.Refused) tells = (tells, (calm, few, end))
      by (Err why.TooLong) tells = (tells, calm)
      by (Err why.NoMemory) tells = (tells, (calm, few))
      by (Err why.Unread) none = absurd none

  -- more came than there may be
  pub overlong-ends : ConsumesMany (left from) (left to) (most_bytes + 1) → read_faults to ≡ read_faults from → new ≡ old → Ends (Err why.TooLong)
  overlong-ends taken calm still = ((too-many (left from) (left to) taken, still), calm)
