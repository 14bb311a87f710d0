use Rattle.wsm_block.proofs.{Common.{◌∙◌, ap, sym}, Places.{is_below, place-among}}
use Rattle.wsm_block.proofs.repeats.is_among.Goals as goal

pub returns-in-Some : goal.returns-in-Some
returns-in-Some c = ap (is_below c.args.count) (sym c.in-Some.is ∙ c.place.ensures) ∙ place-among c.args.node c.args.count c.args.flat.now.cards c.requires

pub returns-in-None : goal.returns-in-None
returns-in-None c = ap (is_below c.args.count) (sym c.in-None.is ∙ c.place.ensures) ∙ place-among c.args.node c.args.count c.args.flat.now.cards c.requires
