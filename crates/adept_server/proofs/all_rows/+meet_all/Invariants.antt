use Rattle.adept_server.proofs.Common.{length}
use Rattle.adept_server.proofs.all_rows.+meet_all.Given as goal

abbrev pub decreases-meet_all : goal.decreases-meet_all
decreases-meet_all g l = length l.cells.now
