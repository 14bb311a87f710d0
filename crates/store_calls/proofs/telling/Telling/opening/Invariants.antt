use Rattle.std.proofs.Common.{◌≡◌, ◌++◌, drop}
use Rattle.script_run.specs.Verdicts.{defined_from}
use Rattle.store_calls.specs.Calls.{definitions}
use Rattle.store_calls.proofs.telling.Telling.opening.Given as goal

abbrev pub invariant-loop-type_no : goal.invariant-loop-type_no
invariant-loop-type_no l = record {
  kinds : l.telling.kinds.items ++ defined_from l.type_no (drop l.type_no l.types) ≡ defined_from 0 l.types;
  calls : l.telling.calls.items ++ definitions l.type_no (drop l.type_no l.types) ≡ definitions 0 l.types;
}
