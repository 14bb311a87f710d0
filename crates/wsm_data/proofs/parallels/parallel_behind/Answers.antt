use Rattle.wsm_data.proofs.Writers.{no-writes}
use Rattle.wsm_data.proofs.parallels.parallel_behind.Goals as goal

pub returns-then-is_empty : goal.returns-then-is_empty
returns-then-is_empty c = no-writes c.args.schema.now c.args.card.now c.args.others.now (c.is_empty.ensures.0 c.if-is_empty.true)
