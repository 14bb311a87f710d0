use Rattle.std.proofs.Common.{◌≡◌, ◌∙◌, ◌++◌, ap, sym, subst}
use Rattle.turn_batch.proofs.Calls.{length-passes, pass_at, tried_at, both_rounds, answered, all_called, still_of}
use Rattle.turn_batch.specs.Batch.{AreCalled}
use Rattle.turn_batch.proofs.all.Goals as goal

pub try_each-requires-clause-same : goal.try_each-requires-clause-same
try_each-requires-clause-same g c κs within = length-passes c.args.cells.now c.args.passes.now c.requires.cells

pub try_each-requires-clause-cells : goal.try_each-requires-clause-cells
try_each-requires-clause-cells g c κs within = pass_at c.args.cells.now c.args.passes.now c.requires.cells

pub wait_for_each-requires-clause-same : goal.wait_for_each-requires-clause-same
wait_for_each-requires-clause-same g c κs within = c.try_each.auto.passes ∙ length-passes c.args.cells.now c.args.passes.now c.requires.cells

pub wait_for_each-requires-clause-cells : goal.wait_for_each-requires-clause-cells
wait_for_each-requires-clause-cells g c κs within =
    let m = g.M.Machine in
    tried_at m.after m.reply c.args.event.now c.args.cells.now c.args.passes.now c.try_each.new.passes c.requires.cells c.try_each.ensures

pub take_answers-requires-clause-answered : goal.take_answers-requires-clause-answered
take_answers-requires-clause-answered g c κs within =
    let m = g.M.Machine in
    let first = c.try_each.auto.passes in
    answered m.after m.reply c.args.event.now c.args.passes.now c.wait_for_each.new.passes
    (both_rounds m.after m.reply c.args.event.now c.args.passes.now c.try_each.new.passes c.wait_for_each.new.passes first (c.wait_for_each.auto.passes ∙ first) c.try_each.ensures c.wait_for_each.ensures)

pub returns-clause-ok : goal.returns-clause-ok
returns-clause-ok g c =
    let m = g.M.Machine in
    let first = c.try_each.auto.passes in
    let t = c.take_answers.ensures in
    let answers_are : c.take_answers.new.items.items ≡ t.0 = t.1 ∙ ap (λ xs. xs ++ t.0) c.in_ok-items.ensures.items in
    let called = both_rounds m.after m.reply c.args.event.now c.args.passes.now c.try_each.new.passes c.wait_for_each.new.passes first (c.wait_for_each.auto.passes ∙ first) c.try_each.ensures c.wait_for_each.ensures in
    subst (λ xs. AreCalled m.after m.reply c.args.event.now c.args.passes.now xs c.take_answers.new.passes) (sym answers_are)
    (all_called m.after m.reply c.args.event.now c.args.passes.now c.wait_for_each.new.passes c.take_answers.new.passes t.0 called t.2)

pub returns-clause-cells : goal.returns-clause-cells
returns-clause-cells g c =
    let m = g.M.Machine in
    let first = c.try_each.auto.passes in
    let t = c.take_answers.ensures in
    let called = both_rounds m.after m.reply c.args.event.now c.args.passes.now c.try_each.new.passes c.wait_for_each.new.passes first (c.wait_for_each.auto.passes ∙ first) c.try_each.ensures c.wait_for_each.ensures in
    still_of m.after m.reply c.args.event.now c.args.cells.now c.args.passes.now c.take_answers.new.passes t.0 c.requires.cells
    (all_called m.after m.reply c.args.event.now c.args.passes.now c.wait_for_each.new.passes c.take_answers.new.passes t.0 called t.2)
