use Rattle.case_core.proofs.Common.{◌++◌, ◌≡◌, drop, flat_map, ops_after}
use Rattle.case_core.proofs.changes.ops_after.Given as goal

abbrev pub invariant-loop-i : goal.invariant-loop-i
invariant-loop-i l = l.all.items ++ flat_map (λ ops. ops) (drop l.i l.lists) ≡ ops_after l.number l.version
