use Rattle.store_form.proofs.{Common.{err_from_is_err_and, too_many}, Loops.{goes_on, ends, is_done}}
use Rattle.store_form.proofs.lists.read_many.Goals as goal

pub returns-then-count-from-clause-read : goal.returns-then-count-from-clause-read
returns-then-count-from-clause-read g c = too_many g.T.Part.reading g.met.T.Part.shrinks c.args.count c.args.from.now c.if-count-from.true

pub returns-in_err-item-clause-read : goal.returns-in_err-item-clause-read
returns-in_err-item-clause-read g c =
    let p = err_from_is_err_and c.from_residual.result c.from_residual.ensures.1 in
    rw (p.1, p.2) (ends g.T.Part.reading c.in_err-item.field-0.0 c.loop.items.items c.args.count c.loop.counter c.loop.rest.now _ c.loop-test.true c.in_err-item.ensures c.loop.invariant)

pub loop-preserved : goal.loop-preserved
loop-preserved g c =
    rw c.in_ok-push.ensures.items (goes_on g.T.Part.reading c.loop.items.items c.args.count c.loop.counter c.loop.rest.now c.in_ok-item.item c.in_ok-item.after.now _ c.loop-test.true c.in_ok-item.ensures c.loop.invariant)

pub returns-clause-read : goal.returns-clause-read
returns-clause-read g c = is_done g.T.Part.reading c.loop.items.items c.args.count c.loop.counter c.loop.rest.now _ c.loop-test.false c.loop.invariant
