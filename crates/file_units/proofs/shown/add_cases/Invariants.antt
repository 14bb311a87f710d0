use Rattle.file_units.proofs.Common.{◌-◌, Begins, length}
use Rattle.file_units.proofs.shown.add_cases.Given as goal

abbrev pub invariant-loop-decl : goal.invariant-loop-decl
invariant-loop-decl l = Begins l.cases l.all

abbrev pub decreases-loop-decl : goal.decreases-loop-decl
decreases-loop-decl l = length l.all - length l.cases
