use Rattle.wsm_settle.proofs.Flagged.{none-below}
use Rattle.wsm_settle.proofs.flags.next_flag.Goals as goal

pub loop-place-init : goal.loop-place-init
loop-place-init c = none-below c.args.from c.args.flags.now c.requires
