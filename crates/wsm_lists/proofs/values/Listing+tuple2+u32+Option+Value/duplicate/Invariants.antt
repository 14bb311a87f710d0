use Rattle.wsm_lists.proofs.Common.{◌≡◌, take}
use Rattle.wsm_lists.proofs.values.Listing+tuple2+u32+Option+Value.duplicate.Given as goal

abbrev pub invariant-loop-read : goal.invariant-loop-read
invariant-loop-read l = l.reads.items ≡ take l.read-index l.read-items
