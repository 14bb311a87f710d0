use Rattle.case_core.proofs.Common.{IsKept, subst}
use Rattle.case_core.proofs.instances.Instance.migrate.Goals as goal

pub migrate-requires : goal.migrate-requires
migrate-requires g c = subst (IsKept (g.T.TrailReads.kept c.self.inside.trail)) c.in-Some.is c.self.invariant
