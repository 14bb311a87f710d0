use Rattle.talk_server.proofs.{Common.length, Taken.Taken}
use Rattle.talk_server.proofs.taking.take_records.Given as goal

abbrev pub invariant-loop-holder : goal.invariant-loop-holder
invariant-loop-holder g l = Taken g.H.Holder.rules g.H.Holder.holds l.records l.rest l.place l.holder

abbrev pub decreases-loop-holder : goal.decreases-loop-holder
decreases-loop-holder g l = length l.rest
