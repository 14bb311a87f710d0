use Rattle.std.proofs.Common.{◌≡◌, drop, filter}
use Rattle.std.specs.BTreeSet.{contains}
use Rattle.wsm_foot.specs.{Order.name_cmp, Foot.{lesser, least}}
use Rattle.wsm_foot.proofs.overlaps.least_shared.Given as goal

abbrev pub invariant-loop-name : goal.invariant-loop-name
invariant-loop-name l = lesser l.least (least (filter (contains name_cmp l.set) (drop l.name-index l.names))) ≡ least (filter (contains name_cmp l.set) l.names)
