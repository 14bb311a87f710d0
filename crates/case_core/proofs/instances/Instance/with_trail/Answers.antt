use Rattle.case_core.proofs.Journals.{journals-keep}
use Rattle.case_core.proofs.instances.Instance.with_trail.Goals as goal

pub returns-clause-journals : goal.returns-clause-journals
returns-clause-journals g c = journals-keep c.args.type_no
