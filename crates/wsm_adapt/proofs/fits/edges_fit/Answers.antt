use Rattle.wsm_adapt.proofs.{Common.{arith, sym}, OtherLengths.edges-lengths}
use Rattle.wsm_adapt.proofs.fits.edges_fit.Goals as goal

pub returns-then-before-writes : goal.returns-then-before-writes
returns-then-before-writes c = sym (edges-lengths c.args.old.now.elements c.args.new.now.elements c.args.before.now c.args.writes.now (omega arith))
