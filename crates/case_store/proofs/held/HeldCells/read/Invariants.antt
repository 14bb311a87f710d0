use Rattle.case_store.proofs.{Common.length, Folds.Reached}
use Rattle.case_store.proofs.held.HeldCells.read.Given as goal

abbrev pub invariant-loop-held : goal.invariant-loop-held
invariant-loop-held l = Reached l.counts l.image l.held l.rest l.place

abbrev pub decreases-loop-held : goal.decreases-loop-held
decreases-loop-held l = length l.rest
