use Rattle.adept_server.proofs.Common.{length}
use Rattle.adept_server.proofs.all_rows.+join_all.Given as goal

abbrev pub decreases-join_all : goal.decreases-join_all
decreases-join_all g l = length l.cells.now
