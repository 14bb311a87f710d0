use Rattle.std.proofs.Common.{◌≡◌, ◌+◌, ◌<◌, ◌^◌, drop, length, map, take}
use Rattle.std.specs.List.{AllByRecursion}
use Rattle.store_disk.specs.Image.{all_framed}
use Rattle.store_room.specs.Room.{HasPayload, IsPayable, Overflows, payload_of}
use Rattle.store_room.proofs.payloads.group_within.Given as goal

abbrev pub invariant-loop-call : goal.invariant-loop-call
invariant-loop-call l = record {
  are : l.group ≡ map payload_of (take l.call-index l.calls);
  short : l.gate + length (all_framed l.group) < 2 ^ 30;
  fits : Overflows l.limit l.gate (take l.call-index l.calls) → ⊥;
  payable : AllByRecursion IsPayable (drop l.call-index l.calls);
  payloads : AllByRecursion HasPayload (take l.call-index l.calls);
}
