use Rattle.wsm_block.proofs.{Common.{◌∙◌, ap, option_copied, sym}, ActsByCard.{is_act, act-by_card}}
use Rattle.wsm_block.proofs.syncs.is_activity.Goals as goal

pub returns-in-None : goal.returns-in-None
returns-in-None c = ap is_act (sym (ap option_copied c.in-None.is) ∙ c.card.ensures) ∙ act-by_card c.args.flat.now.cards c.args.node c.requires

pub returns-in-Some : goal.returns-in-Some
returns-in-Some c =
    c.is_an_activity.ensures ∙ ap is_act (sym (ap option_copied c.in-Some.is) ∙ c.card.ensures) ∙ act-by_card c.args.flat.now.cards c.args.node c.requires
