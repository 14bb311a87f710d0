use Rattle.wsm_ops.proofs.{Common.◌∙◌, OncePieces.once-in, Shown.shown-seat}
use Rattle.wsm_ops.specs.declared.operations.Gap.TheVariants.{After}
use Rattle.wsm_ops.proofs.drafts.Draft.seat.Goals as goal

pub seat-requires : goal.seat-requires
seat-requires c = once-in c.self.inside.start c.self.inside.finish c.self.inside.outline c.self.invariant (After c.args.node)

pub returns : goal.returns
returns c = c.seat.ensures ∙ shown-seat c.args.node _ c.args.self.now c.self.inside.outline c.self.view_is c.self.invariant.0
