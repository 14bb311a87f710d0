use Rattle.crew_run.proofs.Common.{length}
use Rattle.crew_run.proofs.meeting.+meet_each.Given as goal

abbrev pub decreases-meet_each : goal.decreases-meet_each
decreases-meet_each l = length l.crew.now
