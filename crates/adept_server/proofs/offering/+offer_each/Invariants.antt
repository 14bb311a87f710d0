use Rattle.adept_server.proofs.Common.{length}
use Rattle.adept_server.proofs.offering.+offer_each.Given as goal

abbrev pub decreases-offer_each : goal.decreases-offer_each
decreases-offer_each l = length l.items.now
