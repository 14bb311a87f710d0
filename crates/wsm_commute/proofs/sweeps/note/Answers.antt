use Rattle.wsm_commute.proofs.{Common.arith, FirstPairs.noted-goes_on}
use Rattle.wsm_commute.proofs.sweeps.note.Goals as goal

pub loop-name-preserved : goal.loop-name-preserved
loop-name-preserved c = λ n. noted-goes_on c.args.names.now c.loop-name.name-index _ n c.args.place _ _ _ (omega arith) (c.in_ok-insert.ensures.updates.0 n) (c.loop-name.invariant n)
