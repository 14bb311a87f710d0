use Rattle.std.proofs.Common.{◌≡◌, ◌++◌, ◌-◌, string_bytes}
use Rattle.adept_load.specs.Load.{each_case, beginning}
use Rattle.adept_load.proofs.loads.put_beginnings.Given as goal

abbrev pub invariant-loop-number : goal.invariant-loop-number
invariant-loop-number l = string_bytes l.text ≡ string_bytes l.initial.text ++ each_case beginning (l.number - 1)
