use Rattle.wsm_ops.proofs.{Common.{◌∙◌, ap, option_copied, sym}, JoinedRuns.{none-items, some-items}}
use Rattle.wsm_ops.proofs.runs.run_in.Goals as goal

pub returns-in-None : goal.returns-in-None
returns-in-None c = sym (none-items c.args.runs.now c.args.run (sym c.run_at.ensures ∙ ap option_copied c.in-None.is))

pub returns-in-Some : goal.returns-in-Some
returns-in-Some c = c.deref.ensures.value ∙ sym (some-items c.args.runs.now c.args.run c.in-Some.pieces.now (sym c.run_at.ensures ∙ ap option_copied c.in-Some.is))
