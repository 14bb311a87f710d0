use Rattle.wsm_lists.proofs.{Common.{◌∙◌, ap, arith, Ascends, cond, into_iter_items, length, nil_from_length, put_over, put_row, refl, subst, sym}, PutOver.{ascends-put-if, over-none, step-under}}
use Rattle.wsm_lists.proofs.growing.put_under.Goals as goal

pub loop-row-init : goal.loop-row-init
loop-row-init g c =
    let gives = c.into_iter-row-iterator.ensures.into_iter_gives in
    record {
      left = omega (arith, gives.1, ap length gives.0, c.args.rows.ok.0);
      order = rw gives.0 c.requires;
      table = subst (Ascends g.K.Keys.key_of) c.as_slice.ensures.rows c.as_slice.ensures.ascends;
      rows = rw gives.0 refl;
    }

pub loop-row-preserved : goal.loop-row-preserved
loop-row-preserved g c =
    let key = g.K.Keys.key_of in
    let k = c.loop-row.invariant in
    let step = c.in-Some.ensures.steps in
    let row = c.in-Some.row in
    let old = c.loop-row.table in
    let rest = into_iter_items c.next.new.self in
    let put = c.in_ok-put.ensures.rows ∙ ap (λ b. cond b (put_row key row old) old) c.in_ok-put.ensures.added in
    let order = rw step.0 at k.order in
    record {
      left = omega (arith, k.left, ap length step.0, step.1);
      order = order.1;
      table = subst (Ascends key) (sym c.in_ok-put.ensures.rows) (ascends-put-if key c.in_ok-put.field-0 row old k.table);
      rows = step-under key row old rest k.table order put ∙ ap (put_over key old) (sym step.0) ∙ k.rows;
    }

pub returns : goal.returns
returns g c =
    let key = g.K.Keys.key_of in
    let k = c.loop-row.invariant in
    let none = nil_from_length (into_iter_items c.loop-row.row-iterator) (omega (arith, c.in-None.ensures.steps.0, k.left)) in
    sym (over-none key c.loop-row.table k.table) ∙ ap (put_over key c.loop-row.table) (sym none) ∙ k.rows
