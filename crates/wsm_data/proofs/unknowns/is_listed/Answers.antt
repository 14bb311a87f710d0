use Rattle.wsm_data.proofs.{Common.{◌∙◌, ap, is_some}, Known.listed-is}
use Rattle.wsm_data.proofs.unknowns.is_listed.Goals as goal

pub returns : goal.returns
returns c = c.is_some.ensures ∙ ap is_some c.kind.ensures ∙ listed-is c.args.element c.args.flat.now.elements
