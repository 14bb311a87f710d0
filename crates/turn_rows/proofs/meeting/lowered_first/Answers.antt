use Rattle.turn_rows.proofs.{Common.{◌∙◌, ap, length, unwrap_or}, Flags.first_or_end}
use Rattle.turn_rows.proofs.meeting.lowered_first.Goals as goal

pub returns-clause-first : goal.returns-clause-first
returns-clause-first c = c.unwrap_or.ensures ∙ (ap (λ at. unwrap_or at (length c.args.flags.now)) c.first_raised.ensures ∙ first_or_end c.args.flags.now)
