use Rattle.std.proofs.Common.{◌≡◌, ◌++◌, drop, flat_map}
use Rattle.wsm_foot.specs.Foot.{changes}
use Rattle.wsm_foot.proofs.footprints.all_changes.Given as goal

abbrev pub invariant-loop-op : goal.invariant-loop-op
invariant-loop-op l = l.all.items ++ flat_map changes (drop l.op-index l.op-items) ≡ flat_map changes l.op-items
