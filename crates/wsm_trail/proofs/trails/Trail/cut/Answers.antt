use Rattle.wsm_trail.proofs.Cutting.{none-below}
use Rattle.wsm_trail.proofs.trails.Trail.cut.Goals as goal

pub cut_from-requires : goal.cut_from-requires
cut_from-requires c = none-below c.args.body.now c.args.self.now.trail.entries
