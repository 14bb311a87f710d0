use Rattle.std.proofs.Common.{◌≡◌, length}
use Rattle.store_room.specs.Groups.{end_behind}
use Rattle.store_room.proofs.groups.next_end.Given as goal

abbrev pub invariant-loop-rest : goal.invariant-loop-rest
invariant-loop-rest l = end_behind l.index l.last l.rest ≡ end_behind l.index l.last l.ends

abbrev pub decreases-loop-rest : goal.decreases-loop-rest
decreases-loop-rest l = length l.rest
