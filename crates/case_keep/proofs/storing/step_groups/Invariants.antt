use Rattle.case_keep.proofs.Common.{[], ◌-◌, ◌^◌, ◌≡◌, ◌≤◌, false, HoldsBeginning, IsStore, LeavesOnly, length, map, Overflows, payload_of, take}
use Rattle.case_keep.proofs.storing.step_groups.Given as goal

abbrev pub ghost-step_group : goal.ghost-step_group
ghost-step_group g a = record { counts = g.counts; records = take a.stored a.calls.now }

abbrev pub invariant-loop-stored : goal.invariant-loop-stored
invariant-loop-stored g l =
    let k = g.D.Disk in
    record {
      store : IsStore k.content k.may_leave g.counts l.store (take l.stored l.calls);
      whole : l.store.is_broken ≡ false;
      short : length (k.content l.store.disk) ≤ 2 ^ 30;
      within : l.stored ≤ length l.calls;
      fits : Overflows l.limit 0 (take l.stored l.calls) → ⊥;
      moments : LeavesOnly k.moment k.left_since l.initial.store.disk l.store.disk (HoldsBeginning (map payload_of l.calls) []);
      steady : k.faults l.store.disk ≡ k.faults l.initial.store.disk;
    }

abbrev pub decreases-loop-stored : goal.decreases-loop-stored
decreases-loop-stored g l = length l.calls - l.stored
