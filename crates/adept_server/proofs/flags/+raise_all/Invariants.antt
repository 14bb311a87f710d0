use Rattle.adept_server.proofs.Common.{length}
use Rattle.adept_server.proofs.flags.+raise_all.Given as goal

abbrev pub decreases-raise_all : goal.decreases-raise_all
decreases-raise_all l = length l.flags.now
