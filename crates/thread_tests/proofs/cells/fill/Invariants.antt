use Rattle.turn_cell.specs.Passes.{view_of, IsPassOf, Stays}
use Rattle.thread_tests.proofs.cells.fill.Given as goal

abbrev pub invariant-loop : goal.invariant-loop
invariant-loop g l = IsPassOf l.cell l.pass × Stays (view_of l.fn.pass) (view_of l.pass)
