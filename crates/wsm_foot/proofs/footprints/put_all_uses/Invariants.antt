use Rattle.std.proofs.Common.{◌≡◌, ◌++◌, drop, flat_map}
use Rattle.wsm_foot.specs.Foot.{uses}
use Rattle.wsm_foot.proofs.footprints.put_all_uses.Given as goal

abbrev pub invariant-loop-op : goal.invariant-loop-op
invariant-loop-op l = l.all.items ++ flat_map uses (drop l.op-index l.op-items) ≡ l.initial.all.items ++ flat_map uses l.op-items
