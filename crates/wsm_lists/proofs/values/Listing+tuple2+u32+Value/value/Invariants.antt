use Rattle.wsm_lists.proofs.Common.{◌≡◌, drop}
use Rattle.wsm_lists.specs.Values.{value_in}
use Rattle.wsm_lists.proofs.values.Listing+tuple2+u32+Value.value.Given as goal

abbrev pub invariant-loop-write : goal.invariant-loop-write
invariant-loop-write l = value_in l.element l.self ≡ value_in l.element (drop l.write-index l.write-items)
