use Rattle.script_run.proofs.Common.{◌++◌, ◌≡◌, drop, kinds_from}
use Rattle.script_run.proofs.serial.defined_kinds.Given as goal

abbrev pub invariant-loop-index : goal.invariant-loop-index
invariant-loop-index l = l.kinds.items ++ kinds_from l.index (drop l.index l.types) ≡ kinds_from 0 l.types
