use Rattle.script_run.proofs.Common.{◌++◌, ◌≡◌, defined_from, drop}
use Rattle.script_run.proofs.checking.defined_kinds.Given as goal

abbrev pub invariant-loop-index : goal.invariant-loop-index
invariant-loop-index l = l.kinds.items ++ defined_from l.index (drop l.index l.types) ≡ defined_from 0 l.types
