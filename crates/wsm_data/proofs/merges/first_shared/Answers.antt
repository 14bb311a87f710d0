use Rattle.wsm_data.proofs.{Common.{◌∙◌, arith, drop, drop_all, sym}, Merging.{first-skipped, second-skipped, order-behind, none-with_none}}
use Rattle.wsm_data.proofs.merges.first_shared.Goals as goal

pub both-preserved-then-elements-i-2 : goal.both-preserved-then-elements-i-2
both-preserved-then-elements-i-2 c =
    let xs = c.args.elements.now in
    let ys = c.args.others.now in
    let i = c.both.i in
    let j = c.both.j in
    record {
      rest = sym (first-skipped xs ys i j c.both-test.true c.if-j-others.true c.if-elements-i-2.true c.both.invariant.second) ∙ c.both.invariant.rest;
      first = order-behind xs i c.both-test.true c.both.invariant.first;
      second = c.both.invariant.second;
    }

pub both-preserved : goal.both-preserved
both-preserved c =
    let xs = c.args.elements.now in
    let ys = c.args.others.now in
    let i = c.both.i in
    let j = c.both.j in
    record {
      rest = sym (second-skipped xs ys i j c.both-test.true c.if-j-others.true (let other = c.if-elements-i.false in let least = c.if-elements-i-2.false in omega (arith, other, least)) c.both.invariant.first) ∙ c.both.invariant.rest;
      first = c.both.invariant.first;
      second = order-behind ys j c.if-j-others.true c.both.invariant.second;
    }

pub returns-else-j-others : goal.returns-else-j-others
returns-else-j-others c = sym (none-with_none (drop c.both.i c.args.elements.now) (drop c.both.j c.args.others.now) (drop_all c.both.j c.args.others.now c.if-j-others.false)) ∙ c.both.invariant.rest
