use Rattle.wsm_adapt.proofs.{Common.{arith, sym}, OtherLengths.reads-lengths}
use Rattle.wsm_adapt.proofs.fits.reads_fit.Goals as goal

pub returns-then-recorded-reads : goal.returns-then-recorded-reads
returns-then-recorded-reads c = sym (reads-lengths c.args.recorded.now c.args.reads.now (omega arith))
