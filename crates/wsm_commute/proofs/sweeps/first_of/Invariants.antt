use Rattle.wsm_commute.proofs.Common.{◌≡◌, drop, earlier, earliest, name_cmp}
use Rattle.std.specs.BTreeMap as tree
use Rattle.wsm_commute.proofs.sweeps.first_of.Given as goal

abbrev pub invariant-loop-name : goal.invariant-loop-name
invariant-loop-name l = earlier l.first (earliest (tree.get name_cmp l.noted) (drop l.name-index l.names)) ≡ earliest (tree.get name_cmp l.noted) l.names
