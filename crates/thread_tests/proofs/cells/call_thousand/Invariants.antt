use Rattle.turn_cell.specs.Passes.{view_of, IsPassOf, Stays}
use Rattle.thread_tests.proofs.cells.call_thousand.Given as goal

abbrev pub invariant-loop-event : goal.invariant-loop-event
invariant-loop-event g l = IsPassOf l.cell l.pass × Stays (view_of l.initial.pass) (view_of l.pass)
