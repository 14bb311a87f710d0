use Rattle.crew_run.proofs.Common.{◌∙◌, ap, arith, into_iter_items, length, nil_from_length, refl, sym}
use Rattle.crew_run.proofs.closing.dismiss.Goals as goal

pub loop-worker-init : goal.loop-worker-init
loop-worker-init c =
    let gives = c.into_iter-worker-iterator.ensures.into_iter_gives in
    record {
      left = omega (arith, gives.1, ap length gives.0, c.args.crew.ok.0);
      desk = c.requires.first;
      desks = rw gives.0 c.requires.desks;
      number = c.requires.number;
      few = rw gives.0 c.requires.few;
      joined = rw gives.0 refl;
    }

pub join-requires : goal.join-requires
join-requires c =
    let k = c.loop-worker.invariant in
    let step = c.in-Some.ensures.steps in
    record { desks = (k.desk, (rw step.0 at k.desks).0); first = k.number; few = omega (arith, k.few, ap length step.0) }

pub loop-worker-preserved : goal.loop-worker-preserved
loop-worker-preserved c =
    let k = c.loop-worker.invariant in
    let step = c.in-Some.ensures.steps in
    let e = c.join.ensures in
    record {
      left = omega (arith, k.left, ap length step.0, step.1);
      desk = e.desk;
      desks = (rw step.0 at k.desks).1;
      number = ap (λ v. v.number) e.joined ∙ k.number;
      few = omega (arith, ap (λ v. v.taken) e.joined, k.few, ap length step.0);
      joined = rw e.joined (rw step.0 at k.joined);
    }

pub returns : goal.returns
returns c =
    let k = c.loop-worker.invariant in
    let none = nil_from_length (into_iter_items c.loop-worker.worker-iterator) (omega (arith, c.in-None.ensures.steps.0, k.left)) in
    record { desk = k.desk; joined = sym (rw none at k.joined) }
