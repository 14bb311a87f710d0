use Rattle.crew_run.proofs.{Common.{◌+◌, ◌∙◌, ap, AreHired, arith, desk_view, length, length_push, subst, sym}, Hired.{hired-push, parent-shape}}
use Rattle.crew_run.proofs.hiring.hire.Goals as goal

pub desk-requires-clause-few : goal.desk-requires-clause-few
desk-requires-clause-few c = omega (arith, c.loop.invariant.hired.made, c.loop.invariant.many, c.requires.few)

pub loop-preserved : goal.loop-preserved
loop-preserved c =
    let s = c.args.server.now in
    let k = c.loop.invariant in
    let made = c.in_ok-desk.ensures in
    let items = c.in_ok-push.ensures.items in
    let shape = parent-shape (desk_view c.loop.first) (desk_view c.desk.new.first) made.first in
    record {
      hired = subst (AreHired s c.desk.new.first) (sym items) (hired-push s c.loop.first c.desk.new.first c.in_ok-desk.desk c.loop.crew.items k.hired made.desks.0 made.desks.1 made.first made.new);
      many = ap length items ∙ (length_push c.loop.crew.items _ ∙ ap (λ n. n + 1) k.many);
      shape = (shape.0 ∙ k.shape.0, shape.1 ∙ k.shape.1);
    }

pub returns-clause-many : goal.returns-clause-many
returns-clause-many c = omega (arith, c.loop.invariant.many)
