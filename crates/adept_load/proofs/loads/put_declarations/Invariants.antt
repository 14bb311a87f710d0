use Rattle.std.proofs.Common.{◌≡◌, ◌++◌, ◌-◌, string_bytes}
use Rattle.adept_load.specs.Load.{each_case, declaration}
use Rattle.adept_load.proofs.loads.put_declarations.Given as goal

abbrev pub invariant-loop-number : goal.invariant-loop-number
invariant-loop-number l = string_bytes l.text ≡ string_bytes l.initial.text ++ each_case declaration (l.number - 1)
