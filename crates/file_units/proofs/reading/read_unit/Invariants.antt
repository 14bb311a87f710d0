use Rattle.file_units.proofs.{Common.length, ReadLines.AreRead}
use Rattle.file_units.proofs.reading.read_unit.Given as goal

abbrev pub invariant-loop-line : goal.invariant-loop-line
invariant-loop-line l = AreRead l.fn.contents l.unit l.at l.place l.contents l.rest

abbrev pub decreases-loop-line : goal.decreases-loop-line
decreases-loop-line l = length l.rest
