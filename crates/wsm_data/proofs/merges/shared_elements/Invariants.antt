use Rattle.wsm_data.proofs.{Common.{◌+◌, ◌-◌, drop, length}, Merging.Merged}
use Rattle.wsm_data.proofs.merges.shared_elements.Given as goal

abbrev pub invariant-both : goal.invariant-both
invariant-both l = Merged l.elements l.others l.shared.items (drop l.i l.elements) (drop l.j l.others)

abbrev pub decreases-both : goal.decreases-both
decreases-both l = (length l.elements - l.i) + (length l.others - l.j)
