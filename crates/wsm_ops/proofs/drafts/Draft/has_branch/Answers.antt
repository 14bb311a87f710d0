use Rattle.wsm_ops.proofs.{Common.◌∙◌, Shown.shown-branch}
use Rattle.wsm_ops.proofs.drafts.Draft.has_branch.Goals as goal

pub returns : goal.returns
returns c = c.has_head.ensures ∙ shown-branch c.args.split c.args.code _ c.args.self.now c.self.inside.outline c.self.view_is c.self.invariant.0 c.self.invariant.1
