use Rattle.adept_server.proofs.Common.{length}
use Rattle.adept_server.proofs.all_rows.+split_all.Given as goal

abbrev pub decreases-split_all : goal.decreases-split_all
decreases-split_all g l = length l.cells.now
