use Rattle.std.proofs.Common.{arith}
use Rattle.turn_batch.proofs.Calls.{length-passes}
use Rattle.turn_rows.proofs.Passes.{of_cell, AreOf-set}
use Rattle.thread_tests.proofs.rows.call_at.Goals as goal

pub bounds-passes-place : goal.bounds-passes-place
bounds-passes-place c = omega (arith, c.requires.place, length-passes c.args.cells.now c.args.passes.now c.requires.cells)

pub try_call-requires-clause-cell : goal.try_call-requires-clause-cell
try_call-requires-clause-cell c κs = of_cell c.args.cells.now c.args.passes.now c.args.place c.index-cells-place.result c.index-passes-place.result c.requires.cells c.requires.place c.index-cells-place.is

pub returns : goal.returns
returns c = AreOf-set c.args.cells.now c.args.passes.now c.args.place c.index-cells-place.result c.try_call.new.pass c.requires.cells c.index-cells-place.is c.try_call.ensures.cell
