use Rattle.wsm_data.proofs.{Common.{◌∙◌, ap, option_copied, sym, works}, Known.works-is}
use Rattle.wsm_data.proofs.unknowns.is_worked_on.Goals as goal

pub returns-in-None : goal.returns-in-None
returns-in-None c = ap works (sym (ap option_copied c.in-None.is) ∙ c.card.ensures) ∙ works-is c.args.flat.now.cards c.args.node c.requires

pub returns-in-Some : goal.returns-in-Some
returns-in-Some c = c.works.ensures ∙ ap works (sym (ap option_copied c.in-Some.is) ∙ c.card.ensures) ∙ works-is c.args.flat.now.cards c.args.node c.requires
