use Rattle.adept_server.proofs.Common.{length}
use Rattle.adept_server.proofs.all_rows.+close_all.Given as goal

abbrev pub decreases-close_all : goal.decreases-close_all
decreases-close_all g l = length l.into.now
