use Rattle.case_core.proofs.Common.{◌≡◌, by_node, drop, put_row, shown_spots, spot_in}
use Rattle.std.specs.List.{fold}
use Rattle.case_core.proofs.live_of.LiveOf.marking.Given as goal

abbrev pub invariant-loop-card : goal.invariant-loop-card
invariant-loop-card g l = fold (λ m c. put_row by_node (spot_in c.node (shown_spots l.self)) m) l.spots (drop l.card-index l.card-items) ≡ shown_spots l.self
