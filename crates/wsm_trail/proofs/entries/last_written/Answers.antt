use Rattle.wsm_trail.proofs.{Common.{drop, last_written}, LateNotes.later-none}
use Rattle.wsm_trail.proofs.entries.last_written.Goals as goal

pub loop-i-init : goal.loop-i-init
loop-i-init c = later-none (last_written c.args.element (drop c.args.from c.args.entries.now))
