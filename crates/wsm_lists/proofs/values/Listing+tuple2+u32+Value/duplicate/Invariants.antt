use Rattle.wsm_lists.proofs.Common.{◌≡◌, take}
use Rattle.wsm_lists.proofs.values.Listing+tuple2+u32+Value.duplicate.Given as goal

abbrev pub invariant-loop-write : goal.invariant-loop-write
invariant-loop-write l = l.writes.items ≡ take l.write-index l.write-items
