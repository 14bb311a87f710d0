-- A case's part of a report: its line, its journal, then its end.
use Rattle.case_audit.proofs.Common.{and_then, Asked, Bool, case_head, case_journal, case_reader, CaseDecl, ClosedCase, end-ends, end_text, false, File, Followed, FollowedBy, Follows, follows-stopped, follows-then, given-then, given-wrong}
use Rattle.case_audit.proofs.{Common.{head-ends, List, None, Option, Reader, Some, true}, ReportParts.given-judged}
use Rattle.std.specs.Bool.{then_some}
use Rattle.audit_model.specs.ReportReader.{given}

module _ (f : File) (phases : List (List Asked)) (d : CaseDecl) where
  abbrev headed : Reader ClosedCase
  headed = and_then (given (case_head f d) d) (case_journal f phases)

  abbrev ended_with : ClosedCase → Reader ClosedCase
  ended_with c = given (end_text f c.machine.live) c

  pub head-wrong : (old new : Followed) → FollowedBy (case_head f d) old new false → Follows (case_reader f phases d) old new None
  head-wrong old new head = follows-stopped ended_with headed old new (given-wrong (case_head f d) d (case_journal f phases) old new (head-ends f d) head)

  behind-head : (old mid new : Followed) (made : Option ClosedCase) → FollowedBy (case_head f d) old mid true → Follows (case_journal f phases d) mid new made → Follows headed old new made
  behind-head old mid new made head journal = given-then (case_head f d) d (case_journal f phases) old mid new made (head-ends f d) head journal

  pub journal-wrong : (old mid new : Followed) → FollowedBy (case_head f d) old mid true → Follows (case_journal f phases d) mid new None → Follows (case_reader f phases d) old new None
  journal-wrong old mid new head journal = follows-stopped ended_with headed old new (behind-head old mid new None head journal)

  pub end-judged : (c : ClosedCase) (old mid near new : Followed) (stands : Bool) → FollowedBy (case_head f d) old mid true → Follows (case_journal f phases d) mid near (Some c) → FollowedBy (end_text f c.machine.live) near new stands
      → Follows (case_reader f phases d) old new (then_some stands c)
  end-judged c old mid near new stands head journal end =
      follows-then ended_with headed c old near new (then_some stands c) (behind-head old mid near (Some c) head journal) (given-judged (end_text f c.machine.live) c near new stands (end-ends f c.machine.live) end)
