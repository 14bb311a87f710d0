-- How old the oldest of some cases is.
use Rattle.std.specs.Prelude.{ℕ, max, List, [], ◌∷◌}
use Rattle.case_core.specs.Ages.{age}
use Rattle.script_run.specs.declared.runs.ClosedCase.{ClosedCase}

unfoldable pub oldest : List ClosedCase → ℕ
oldest [] = 0
oldest (c ∷ cs) = max (age c.machine) (oldest cs)
