use Rattle.case_keep.proofs.{Common.{arith, map, payload_of, refl}, Stepped.none-stepped}
use Rattle.case_keep.proofs.storing.step_groups.Goals as goal

pub loop-stored-init : goal.loop-stored-init
loop-stored-init g c =
    let k = g.D.Disk in
    let store = c.args.store.now in
    record {
      store = c.requires.1.1.1.0;
      whole = c.requires.1.1.1.1.0;
      short = c.requires.1.1.1.1.1;
      within = omega arith;
      fits = λ o. o;
      moments = none-stepped k.content k.may_leave k.moment k.left_since g.met.D.Disk.only_now g.counts store (map payload_of c.args.calls.now) c.requires.1.1.1.0;
      steady = refl;
    }
