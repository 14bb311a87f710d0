use Rattle.case_core.proofs.Common.{◌∙◌, ap, marks_in}
use Rattle.case_core.proofs.live_of.LiveOf.marks.Goals as goal

pub returns-clause-rows : goal.returns-clause-rows
returns-clause-rows g c = c.self.invariant.1.0 ∙ ap marks_in c.self.view_is
