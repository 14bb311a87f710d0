use Rattle.wsm_trail.proofs.{Common.{Ascends, first, subst, sym}, Rising.rises-ascends}
use Rattle.wsm_trail.proofs.trails.Trail.entry.Goals as goal

pub find-requires : goal.find-requires
find-requires c = subst (Ascends first) (sym c.deref.ensures.value) (rises-ascends 1 c.self.inside.next c.self.inside.entries.items c.self.invariant.0)
