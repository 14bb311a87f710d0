use Rattle.crew_run.proofs.Common.{length}
use Rattle.crew_run.proofs.in_order.+forget_faults.Given as goal

abbrev pub decreases-forget_faults : goal.decreases-forget_faults
decreases-forget_faults l = length l.crew.now
