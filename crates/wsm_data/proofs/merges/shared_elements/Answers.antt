use Rattle.wsm_data.proofs.{Common.{◌+◌, arith, drop, subst, sym}, Merging.{Merged, merge-first, merge-second, merge-both}}
use Rattle.wsm_data.proofs.merges.shared_elements.Goals as goal

pub both-preserved-then-elements-i : goal.both-preserved-then-elements-i
both-preserved-then-elements-i c = merge-first c.args.elements.now c.args.others.now c.both.shared.items c.both.i c.both.j c.both-test.true c.if-j-others.true c.both.invariant c.if-elements-i.true

pub both-preserved-then-others-j : goal.both-preserved-then-others-j
both-preserved-then-others-j c = merge-second c.args.elements.now c.args.others.now c.both.shared.items c.both.i c.both.j c.both-test.true c.if-j-others.true c.both.invariant c.if-others-j.true

pub both-preserved : goal.both-preserved
both-preserved c =
    let xs = c.args.elements.now in
    let ys = c.args.others.now in
    let i = c.both.i in
    let j = c.both.j in
    subst (λ shared. Merged xs ys shared (drop (i + 1) xs) (drop j ys)) (sym c.in_ok-push.ensures.items)
    (merge-both xs ys c.both.shared.items i j c.both-test.true c.if-j-others.true c.both.invariant (let low = c.if-elements-i.false in let high = c.if-others-j.false in omega (arith, low, high)))
