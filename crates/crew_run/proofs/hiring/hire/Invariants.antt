use Rattle.crew_run.proofs.Common.{◌≡◌, AreHired, desk_view, HasShapeOf, length}
use Rattle.crew_run.proofs.hiring.hire.Given as goal

abbrev pub invariant-loop : goal.invariant-loop
invariant-loop l = record {
  hired : AreHired l.server l.first l.crew.items;
  many : length l.crew.items ≡ l.counter;
  shape : HasShapeOf (desk_view l.fn.first) (desk_view l.first);
}
