use Rattle.file_units.proofs.Common.{◌-◌, Begins, length}
use Rattle.file_units.proofs.shown.add_names.Given as goal

abbrev pub invariant-loop-name : goal.invariant-loop-name
invariant-loop-name l = Begins l.names l.table

abbrev pub decreases-loop-name : goal.decreases-loop-name
decreases-loop-name l = length l.table - length l.names
