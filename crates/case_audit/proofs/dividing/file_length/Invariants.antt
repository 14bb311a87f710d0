use Rattle.case_audit.proofs.Common.{◌+◌, ◌≡◌, file_length, length}
use Rattle.case_audit.proofs.dividing.file_length.Given as goal

abbrev pub invariant-loop-line : goal.invariant-loop-line
invariant-loop-line l = (l.before + file_length l.rest ≡ file_length l.bytes) × (l.before + length l.rest ≡ length l.bytes)

abbrev pub decreases-loop-line : goal.decreases-loop-line
decreases-loop-line l = length l.rest
