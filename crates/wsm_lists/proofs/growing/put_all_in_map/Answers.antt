use Rattle.wsm_lists.proofs.{Common.{◌∙◌, ap, arith, Ascends, into_iter_items, length, nil_from_length, refl, rows_of, subst, sym}, PutOver.step-over, Rows.ascends_put}
use Rattle.wsm_lists.proofs.growing.put_all_in_map.Goals as goal

pub loop-row-init : goal.loop-row-init
loop-row-init g c =
    let gives = c.into_iter-row-iterator.ensures.into_iter_gives in
    record {
      left = omega (arith, gives.1, ap length gives.0, c.args.rows.ok.0);
      order = rw gives.0 c.requires.rows;
      keyed = c.requires.keyed;
      ascends = c.requires.ascends;
      rows = rw gives.0 refl;
    }

pub put_in_map-requires : goal.put_in_map-requires
put_in_map-requires g c = c.loop-row.invariant.keyed

pub loop-row-preserved : goal.loop-row-preserved
loop-row-preserved g c =
    let key = g.K.Keys.key_of in
    let k = c.loop-row.invariant in
    let step = c.in-Some.ensures.steps in
    let old = rows_of c.loop-row.map.entries in
    let put = c.in_ok-put_in_map.ensures.rows in
    record {
      left = omega (arith, k.left, ap length step.0, step.1);
      order = (rw step.0 at k.order).1;
      keyed = c.in_ok-put_in_map.ensures.keyed;
      ascends = subst (Ascends key) (sym put) (ascends_put key c.in-Some.row old k.ascends);
      rows = step-over key c.in-Some.row old step.0 k.order put k.ascends k.rows;
    }

pub returns-clause-rows : goal.returns-clause-rows
returns-clause-rows g c =
    let k = c.loop-row.invariant in
    let none = nil_from_length (into_iter_items c.loop-row.row-iterator) (omega (arith, c.in-None.ensures.steps.0, k.left)) in
    rw none at k.rows

pub returns-clause-ascends : goal.returns-clause-ascends
returns-clause-ascends g c = c.loop-row.invariant.ascends
