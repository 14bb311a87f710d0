use Rattle.wsm_schema.proofs.Common.{◌≡◌, lane_of, map, part_of, take}
use Rattle.wsm_schema.proofs.blocks.+copy.Given as goal

abbrev pub invariant-copy_branches-loop-i : goal.invariant-copy_branches-loop-i
invariant-copy_branches-loop-i l = map lane_of l.all.items ≡ map lane_of (take l.i l.branches)

abbrev pub invariant-copy_items-loop-i : goal.invariant-copy_items-loop-i
invariant-copy_items-loop-i l = map part_of l.all.items ≡ map part_of (take l.i l.items)
