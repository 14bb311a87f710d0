use Rattle.adept_server.proofs.Common.{length}
use Rattle.adept_server.proofs.offering.+look_rows.Given as goal

abbrev pub decreases-look_rows : goal.decreases-look_rows
decreases-look_rows g l = length l.cells.now
