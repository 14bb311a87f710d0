use Rattle.store_form.proofs.{Common.{◌++◌, ◌<◌, ◌^◌, ap, body_bytes, FitsItems, FitsLanes, lanes, lanes_bytes, lanes_of, on_ok_weaker, parts_bytes, parts_of, subst, sym}, Puts.{count-lanes, count-parts, fits-lane, put-counted, put-lane}}
use Rattle.store_form.proofs.trees.+put.Goals as goal

pub put_branches-returns-clause-bytes : goal.put_branches-returns-clause-bytes
put_branches-returns-clause-bytes t c =
    on_ok_weaker c.put_each_branch.result
    (put-counted c.args.out.now.items c.put_count.new.out.items c.put_each_branch.new.out.items (lanes_bytes (lanes (lanes_of c.args.branches.now))) _ _ (count-lanes c.args.branches.now) c.in_ok-put_count.ensures.bytes)
    c.put_each_branch.ensures.bytes

pub put_branches-returns-clause-fits : goal.put_branches-returns-clause-fits
put_branches-returns-clause-fits t c =
    on_ok_weaker c.put_each_branch.result (λ fits. (subst (λ n. n < 2 ^ 32) (sym (count-lanes c.args.branches.now)) c.in_ok-put_count.ensures.fits, fits)) c.put_each_branch.ensures.fits

pub put_each_branch-loop-i-preserved : goal.put_each_branch-loop-i-preserved
put_each_branch-loop-i-preserved t c = (
  put-lane c.args.branches.now c.loop-i.i c.index-branches-i.result c.index-branches-i.is c.loop-i-test.true c.loop-i.out.items c.put.new.out.items c.put_items.new.out.items
      (c.args.out.now.items ++ lanes_bytes (lanes (lanes_of c.args.branches.now))) (body_bytes (parts_of c.deref.result.now)) c.in_ok-put.ensures.bytes
      (ap (λ bs. body_bytes (parts_of bs)) c.deref.ensures.value) c.in_ok-put_items.ensures.bytes c.loop-i.invariant.0,
  fits-lane c.args.branches.now c.loop-i.i c.index-branches-i.result c.index-branches-i.is c.loop-i-test.true (FitsLanes (lanes (lanes_of c.args.branches.now))) c.in_ok-put.ensures.fits
      (subst (λ bs. FitsItems (parts_of bs)) c.deref.ensures.value c.in_ok-put_items.ensures.fits) c.loop-i.invariant.1,
)

pub put_items-returns-clause-bytes : goal.put_items-returns-clause-bytes
put_items-returns-clause-bytes t c =
    on_ok_weaker c.put_each_item.result
    (put-counted c.args.out.now.items c.put_count.new.out.items c.put_each_item.new.out.items (parts_bytes (parts_of c.args.items.now)) _ _ (count-parts c.args.items.now) c.in_ok-put_count.ensures.bytes)
    c.put_each_item.ensures.bytes

pub put_items-returns-clause-fits : goal.put_items-returns-clause-fits
put_items-returns-clause-fits t c =
    on_ok_weaker c.put_each_item.result (λ fits. (subst (λ n. n < 2 ^ 32) (sym (count-parts c.args.items.now)) c.in_ok-put_count.ensures.fits, fits)) c.put_each_item.ensures.fits
