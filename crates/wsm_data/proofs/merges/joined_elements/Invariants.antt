use Rattle.wsm_data.proofs.{Common.{◌+◌, ◌-◌, ◌≤◌, drop, length}, Joining.Joined}
use Rattle.wsm_data.proofs.merges.joined_elements.Given as goal

abbrev pub invariant-both : goal.invariant-both
invariant-both l = record {
  joined : Joined l.elements l.others l.all.items (drop l.i l.elements) (drop l.j l.others);
  first : l.i ≤ length l.elements;
  second : l.j ≤ length l.others;
}

abbrev pub decreases-both : goal.decreases-both
decreases-both l = (length l.elements - l.i) + (length l.others - l.j)
