use Rattle.wsm_settle.proofs.{Common.{◌∙◌, ap, position_in, replay_of}, TrailMarks.answer-position}
use Rattle.wsm_settle.proofs.timing.failure.Goals as goal

pub returns : goal.returns
returns c = c.position_of.ensures ∙ ap position_in c.in_ok-replayed.ensures ∙ answer-position c.args.flat.now.cards (replay_of c.args.flat.now c.args.trail.now.trail.entries)
