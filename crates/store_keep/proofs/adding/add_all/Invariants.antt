use Rattle.store_keep.proofs.{Common.{◌++◌, ◌-◌, ◌<◌, ◌^◌, ◌≡◌, ◌≤◌, drop, held, HoldsBeginning, LeavesOnly, length, map, Overflows, payload_of}, Additions.Progress}
use Rattle.store_keep.proofs.adding.add_all.Given as goal

abbrev pub ghost-append_group : goal.ghost-append_group
ghost-append_group g a = held (g.D.Disk.content a.disk.now)

abbrev pub invariant-loop-stored : goal.invariant-loop-stored
invariant-loop-stored g l =
    let k = g.D.Disk in
    let least = held (k.content l.initial.disk) in
    let left = drop l.fn.stored l.calls in
    let all = least ++ map payload_of left in
    record {
      progress : Progress k.content k.may_leave least all (drop l.stored l.calls) l.disk l.gate;
      short : l.gate < 2 ^ 30;
      within : length (k.content l.initial.disk) ≤ 2 ^ 30 → length (k.content l.disk) ≤ 2 ^ 30;
      moments : LeavesOnly k.moment k.left_since l.initial.disk l.disk (HoldsBeginning all least);
      over : Overflows l.limit l.gate (drop l.stored l.calls) → Overflows l.limit l.fn.gate left;
      fits : Overflows l.limit l.fn.gate left → Overflows l.limit l.gate (drop l.stored l.calls);
      steady : k.faults l.disk ≡ k.faults l.initial.disk;
    }

abbrev pub decreases-loop-stored : goal.decreases-loop-stored
decreases-loop-stored g l = length l.calls - l.stored
