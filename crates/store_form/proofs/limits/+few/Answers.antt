use Rattle.store_form.proofs.{Common.{◌∙◌, ap, Branch, few_in_lanes, few_items, lanes, lanes_of, parts_of, sym}, Puts.{few-all, few-all-lanes, few-goes-on, few-none-lanes, few-not, few-not-lanes, few-stops}}
use Rattle.store_form.proofs.limits.+few.Goals as goal

pub are_few-returns-then-not-is_short : goal.are_few-returns-then-not-is_short
are_few-returns-then-not-is_short t c = few-not c.args.items.now (sym c.is_short.ensures ∙ c.if-not-is_short.true)

pub are_few-returns : goal.are_few-returns
are_few-returns t c = few-all c.args.items.now c.loop-i.i (sym c.is_short.ensures ∙ c.if-not-is_short.false) c.loop-i-test.false c.loop-i.invariant

pub have_few-returns-then-not-is_short : goal.have_few-returns-then-not-is_short
have_few-returns-then-not-is_short t c = few-not-lanes c.args.branches.now (sym c.is_short.ensures ∙ c.if-not-is_short.true)

pub have_few-returns-then-not-are_few : goal.have_few-returns-then-not-are_few
have_few-returns-then-not-are_few t c =
    few-none-lanes c.args.branches.now
    (few-stops c.args.branches.now c.loop-i.i c.index-branches-i.result c.index-branches-i.is c.loop-i-test.true (few_in_lanes (lanes (lanes_of c.args.branches.now)))
    (ap (λ (b : Branch). few_items (parts_of b.items.items)) c.index-branches-i.is ∙ ap (λ bs. few_items (parts_of bs)) (sym c.deref.ensures.value) ∙ sym c.are_few.ensures ∙ c.if-not-are_few.true) c.loop-i.invariant)

pub have_few-loop-i-preserved : goal.have_few-loop-i-preserved
have_few-loop-i-preserved t c =
    few-goes-on c.args.branches.now c.loop-i.i c.index-branches-i.result c.index-branches-i.is c.loop-i-test.true (few_in_lanes (lanes (lanes_of c.args.branches.now)))
    (ap (λ (b : Branch). few_items (parts_of b.items.items)) c.index-branches-i.is ∙ ap (λ bs. few_items (parts_of bs)) (sym c.deref.ensures.value) ∙ sym c.are_few.ensures ∙ c.if-not-are_few.false) c.loop-i.invariant

pub have_few-returns : goal.have_few-returns
have_few-returns t c = few-all-lanes c.args.branches.now c.loop-i.i (sym c.is_short.ensures ∙ c.if-not-is_short.false) c.loop-i-test.false c.loop-i.invariant
