use Rattle.wsm_replay.proofs.{Common.{◌∙◌, ap, option_copied, sym}, Agreement.{spot_or, spot_in-row}}
use Rattle.wsm_replay.proofs.spots.spot_in.Goals as goal

pub returns-in-Some : goal.returns-in-Some
returns-in-Some c = sym (spot_in-row c.args.node c.args.table.now ∙ ap (spot_or c.args.node) (sym c.find.ensures ∙ ap option_copied c.in-Some.is))

pub returns-in-None : goal.returns-in-None
returns-in-None c = sym (spot_in-row c.args.node c.args.table.now ∙ ap (spot_or c.args.node) (sym c.find.ensures ∙ ap option_copied c.in-None.is))
