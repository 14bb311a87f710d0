use Rattle.store_keep.proofs.{Common.length, Matching.Matched}
use Rattle.store_keep.proofs.finding.find.Given as goal

abbrev pub invariant-loop-len : goal.invariant-loop-len
invariant-loop-len l = Matched l.calls l.image l.rest l.count l.gate

abbrev pub decreases-loop-len : goal.decreases-loop-len
decreases-loop-len l = length l.rest
