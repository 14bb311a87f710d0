use Rattle.store_form.proofs.{Common.{err_from_is_err_and, lane_at, lane_of, lane_shrinks, map, part_at, part_of, part_shrinks, too_many}, Loops.{ends, goes_on-seen}, Tags.{gives-act, gives-round}}
use Rattle.store_form.proofs.trees.+read.Goals as goal

pub read_tagged-returns-then-tag-eq0 : goal.read_tagged-returns-then-tag-eq0
read_tagged-returns-then-tag-eq0 t c = gives-act _ c.read_activity.result c.args.deep c.args.tag c.args.from.now c.if-tag-eq0.true c.read_activity.ensures

pub read_tagged-returns : goal.read_tagged-returns
read_tagged-returns t c = gives-round _ c.read_round.result c.args.deep c.args.tag c.args.from.now c.if-deep-eq0.false c.if-tag-eq0.false c.read_round.ensures

pub read_each_item-returns-then-count-from-clause-read : goal.read_each_item-returns-then-count-from-clause-read
read_each_item-returns-then-count-from-clause-read t c = too_many (part_at c.args.deep) (part_shrinks c.args.deep) c.args.count c.args.from.now c.if-count-from.true

pub read_each_item-returns-in_err-item-clause-read : goal.read_each_item-returns-in_err-item-clause-read
read_each_item-returns-in_err-item-clause-read t c =
    let p = err_from_is_err_and c.from_residual.result c.from_residual.ensures.1 in
    rw (p.1, p.2) (ends (part_at c.args.deep) c.in_err-item.field-0.0 (map part_of c.loop.items.items) c.args.count c.loop.counter c.loop.rest.now _ c.loop-test.true c.in_err-item.ensures c.loop.invariant)

pub read_each_item-loop-preserved : goal.read_each_item-loop-preserved
read_each_item-loop-preserved t c =
    rw c.in_ok-push.ensures.items
    (goes_on-seen part_of (part_at c.args.deep) c.loop.items.items c.args.count c.loop.counter c.loop.rest.now c.in_ok-item.item c.in_ok-item.after.now _ c.loop-test.true c.in_ok-item.ensures c.loop.invariant)

pub read_each_branch-returns-then-count-from-clause-read : goal.read_each_branch-returns-then-count-from-clause-read
read_each_branch-returns-then-count-from-clause-read t c = too_many (lane_at (part_at c.args.deep)) (lane_shrinks c.args.deep) c.args.count c.args.from.now c.if-count-from.true

pub read_each_branch-returns-in_err-branch-clause-read : goal.read_each_branch-returns-in_err-branch-clause-read
read_each_branch-returns-in_err-branch-clause-read t c =
    let p = err_from_is_err_and c.from_residual.result c.from_residual.ensures.1 in
    rw (p.1, p.2)
    (ends (lane_at (part_at c.args.deep)) c.in_err-branch.field-0.0 (map lane_of c.loop.branches.items) c.args.count c.loop.counter c.loop.rest.now _ c.loop-test.true c.in_err-branch.ensures c.loop.invariant)

pub read_each_branch-loop-preserved : goal.read_each_branch-loop-preserved
read_each_branch-loop-preserved t c =
    rw c.in_ok-push.ensures.items
    (goes_on-seen lane_of (lane_at (part_at c.args.deep)) c.loop.branches.items c.args.count c.loop.counter c.loop.rest.now c.in_ok-branch.branch c.in_ok-branch.after.now _ c.loop-test.true c.in_ok-branch.ensures c.loop.invariant)
