use Rattle.turn_loop.proofs.Scanned.{none-there, one-there}
use Rattle.turn_loop.proofs.lines.PlusLinesResponder.take.Goals as goal

pub returns-in_ok-extend_from_slice-in-None-clause-takes : goal.returns-in_ok-extend_from_slice-in-None-clause-takes
returns-in_ok-extend_from_slice-in-None-clause-takes c = λ first ps begun keeps. none-there begun c.args.bytes.now c.in-None.ensures

pub returns-in_ok-extend_from_slice-in-Some-clause-takes : goal.returns-in_ok-extend_from_slice-in-Some-clause-takes
returns-in_ok-extend_from_slice-in-Some-clause-takes c = λ first ps begun keeps. one-there begun c.args.bytes.now c.in-Some.index c.in-Some.ensures
