use Rattle.std.proofs.Common.{◌≡◌, ◌⊎◌, ◌+◌, ◌<◌, ◌≤◌, ◌^◌, drop, length, map, take}
use Rattle.std.specs.List.{AllByRecursion}
use Rattle.store_disk.specs.{Image.all_framed, declared.group.TheConstants.MAX_GROUP}
use Rattle.store_room.specs.Room.{HasPayload, IsPayable, Overflows, payload_of}
use Rattle.store_room.proofs.groups.first_group.Given as goal

abbrev pub invariant-loop-count : goal.invariant-loop-count
invariant-loop-count l = record {
  are : l.group ≡ map payload_of (take l.count l.calls);
  short : l.gate + length (all_framed l.group) < 2 ^ 30;
  fits : Overflows l.limit l.gate (take l.count l.calls) → ⊥;
  cut : (l.count ≤ 1) ⊎ (length (all_framed l.group) ≤ MAX_GROUP);
  payable : AllByRecursion IsPayable (drop l.count l.calls);
  payloads : AllByRecursion HasPayload (take l.count l.calls);
}
