use Rattle.case_audit.proofs.Common.{◌≡◌, ◌≤◌, length}
use Rattle.case_audit.proofs.sections.guessed_starts.Given as goal

abbrev pub invariant-loop-case : goal.invariant-loop-case
invariant-loop-case l = (l.start ≤ length l.text) × (length l.starts.items ≡ l.case-index)
