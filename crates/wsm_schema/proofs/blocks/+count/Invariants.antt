use Rattle.wsm_schema.proofs.Common.{◌+◌, ◌-◌, ◌^◌, ◌≡◌, ◌≤◌, drop, lanes, lanes_of, min, parts_of}
use Rattle.wsm_schema.specs.Sizes.{parts_size, lanes_size}
use Rattle.wsm_schema.proofs.blocks.+count.Given as goal

abbrev pub invariant-nodes_in-loop-i : goal.invariant-nodes_in-loop-i
invariant-nodes_in-loop-i l = (l.count ≤ 2 ^ 64 - 1) × (min (l.count + parts_size (parts_of (drop l.i l.items))) (2 ^ 64 - 1) ≡ min (parts_size (parts_of l.items)) (2 ^ 64 - 1))

abbrev pub invariant-nodes_in_branches-loop-i : goal.invariant-nodes_in_branches-loop-i
invariant-nodes_in_branches-loop-i l = (l.count ≤ 2 ^ 64 - 1) × (min (l.count + lanes_size (lanes (lanes_of (drop l.i l.branches)))) (2 ^ 64 - 1) ≡ min (lanes_size (lanes (lanes_of l.branches))) (2 ^ 64 - 1))
