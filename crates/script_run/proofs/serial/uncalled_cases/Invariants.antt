use Rattle.script_run.proofs.Common.{◌++◌, ◌≡◌, drop, map, uncalled}
use Rattle.script_run.proofs.serial.uncalled_cases.Given as goal

abbrev pub invariant-loop-decl : goal.invariant-loop-decl
invariant-loop-decl l = l.cases.items ++ map uncalled (drop l.decl-index l.decls) ≡ map uncalled l.decls
