use Rattle.case_audit.proofs.Common.{◌++◌, ◌≡◌, all_told, deques_of, drop, map}
use Rattle.case_audit.proofs.told.Told.of.Given as goal

abbrev pub invariant-loop-kind : goal.invariant-loop-kind
invariant-loop-kind l = map (λ v. deques_of v.items) l.versions.items ++ all_told l.actors (drop l.kind-index l.kinds) ≡ all_told l.actors l.kinds
