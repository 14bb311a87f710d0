use Rattle.std.proofs.Common.{◌≡◌, ◌++◌, ◌-◌, string_bytes}
use Rattle.adept_load.specs.Load.{each_case, continuation}
use Rattle.adept_load.proofs.loads.put_continuations.Given as goal

abbrev pub invariant-loop-number : goal.invariant-loop-number
invariant-loop-number l = string_bytes l.text ≡ string_bytes l.initial.text ++ each_case continuation (l.number - 1)
