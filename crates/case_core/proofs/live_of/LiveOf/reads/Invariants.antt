use Rattle.case_core.proofs.Common.{◌++◌, ◌≡◌, drop, map, reads_now, value_now}
use Rattle.case_core.proofs.live_of.LiveOf.reads.Given as goal

abbrev pub invariant-loop-edge : goal.invariant-loop-edge
invariant-loop-edge g l = l.reads.items ++ map (λ r. (r.0, value_now l.self r.0)) (drop l.edge-index l.edge-items) ≡ reads_now l.self l.card
