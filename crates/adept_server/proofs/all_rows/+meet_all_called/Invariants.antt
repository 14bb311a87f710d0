use Rattle.adept_server.proofs.Common.{length}
use Rattle.adept_server.proofs.all_rows.+meet_all_called.Given as goal

abbrev pub decreases-meet_all_called : goal.decreases-meet_all_called
decreases-meet_all_called g l = length l.cells.now
