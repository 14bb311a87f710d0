use Rattle.adept_server.proofs.Common.{length}
use Rattle.adept_server.proofs.offering.+look_row.Given as goal

abbrev pub decreases-look_row : goal.decreases-look_row
decreases-look_row g l = length l.cells.now
