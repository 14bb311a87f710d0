use Rattle.wsm_ops.proofs.{Common.{◌∙◌, ap, at_gap, items_at, None, position, refl, Some, sym}, OnePlace.first-is}
use Rattle.wsm_ops.proofs.runs.spot_in.Goals as goal

pub returns-in-None : goal.returns-in-None
returns-in-None c =
    let t = at_gap c.args.gap in
    let ps = items_at c.args.runs.now c.args.run in
    first-is t ps None (sym c.in-None.is ∙ c.place_in.ensures ∙ ap (position t) c.run_in.ensures)

pub returns-in-Some : goal.returns-in-Some
returns-in-Some c =
    let t = at_gap c.args.gap in
    let ps = items_at c.args.runs.now c.args.run in
    (refl, first-is t ps (Some c.in-Some.at) (sym c.in-Some.is ∙ c.place_in.ensures ∙ ap (position t) c.run_in.ensures))
