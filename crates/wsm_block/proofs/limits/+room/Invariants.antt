use Rattle.wsm_block.proofs.Common.{◌≡◌, drop, lanes, lanes_of, lanes_size, parts_of, parts_size, room_behind}
use Rattle.wsm_block.proofs.limits.+room.Given as goal

abbrev pub invariant-room_behind-loop-i : goal.invariant-room_behind-loop-i
invariant-room_behind-loop-i l = room_behind (parts_size (parts_of (drop l.i l.items))) l.left ≡ room_behind (parts_size (parts_of l.items)) l.room

abbrev pub invariant-room_behind_branches-loop-i : goal.invariant-room_behind_branches-loop-i
invariant-room_behind_branches-loop-i l = room_behind (lanes_size (lanes (lanes_of (drop l.i l.branches)))) l.left ≡ room_behind (lanes_size (lanes (lanes_of l.branches))) l.room
