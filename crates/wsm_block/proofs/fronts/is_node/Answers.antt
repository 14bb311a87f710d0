use Rattle.wsm_block.proofs.{Common.{◌∙◌, ap, is_some}, Places.place-there}
use Rattle.wsm_block.proofs.fronts.is_node.Goals as goal

pub returns : goal.returns
returns c = c.is_some.ensures ∙ ap is_some c.place.ensures ∙ place-there c.args.number c.args.flat.now.cards
