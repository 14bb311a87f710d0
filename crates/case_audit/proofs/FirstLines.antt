-- The verdict on a report that was gone along.
use Rattle.case_audit.proofs.Common.{[], ℕ, ◌&&◌, ◌+◌, ◌==◌, ◌∙◌, ◌∷◌, ◌≡◌, ◌≤◌, arith, Bool, Bytes, feeds, File, file-auditable, file-workable, Followed, Follows, if-either, if◌then◌else◌, is_some, IsFirstWrong, IsJudged, IsRead, IsReport}
use Rattle.case_audit.proofs.Common.{left_of, length, ne_eqb, None, Option, passed, report_reader, Run, Some, subst, suc, sym, take, zero}
use Rattle.audit_model.proofs.Whole.{first-wrong-line}
use Rattle.line_readers.proofs.Walks.{goes-first_wrong, wrong_behind}

pub feeds-taken : (n : ℕ) (bs : Bytes) → feeds (take n bs) ≤ length bs
feeds-taken zero bs = omega arith
feeds-taken (suc n) [] = omega arith
feeds-taken (suc n) (b ∷ bs) = let few = feeds-taken n bs in if-either (λ m. m ≤ suc (length bs)) (b == 10) (suc (feeds (take n bs))) (feeds (take n bs)) (λ is. omega (arith, few)) (λ not. omega (arith, few))

abbrev start : Bytes → Followed
start report = record { text = report; at = 0 }

module _ (f : File) (read : IsRead f) (report : Bytes) (end : Followed) where
  first-is : (value : Option Run) → Follows (report_reader f) (start report) end value → IsFirstWrong (IsReport f) report (wrong_behind (left_of end) (passed end) value)
  first-is value gone =
      subst (IsFirstWrong (IsReport f) report) (goes-first_wrong (report_reader f) report (left_of end) (passed end) value gone.1) (first-wrong-line f (file-workable read.0 f read.1) (file-auditable read.0 f read.1) report)

  pub first-wrong : (from : Followed) (stands test : Bool) → from ≡ start report → stands ≡ test → IsJudged f from end stands → IsFirstWrong (IsReport f) report (if test then None else Some (passed end + 1))
  first-wrong from stands test is same (value, told, gone) =
      by value (left_of end) (sym same ∙ told) (first-is value (subst (λ s. Follows (report_reader f) s end value) is gone))
    where
      by : (o : Option Run) (rest : Bytes) → test ≡ (is_some o && (length rest == 0)) → IsFirstWrong (IsReport f) report (wrong_behind rest (passed end) o) → IsFirstWrong (IsReport f) report (if test then None else Some (passed end + 1))
      by None rest told first = rw told first
      by (Some r) [] told first = rw told first
      by (Some r) (b ∷ bs) told first = rw (told ∙ ne_eqb (length (b ∷ bs)) 0 (λ same. omega (arith, same))) first
