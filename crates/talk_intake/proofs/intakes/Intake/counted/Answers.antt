use Rattle.std.proofs.Common.{ap, ◌∙◌}
use Rattle.talk_items.specs.Items.{counted}
use Rattle.talk_intake.proofs.intakes.Intake.counted.Goals as goal

pub returns : goal.returns
returns c = c.counted.ensures ∙ ap counted c.self.view_is
