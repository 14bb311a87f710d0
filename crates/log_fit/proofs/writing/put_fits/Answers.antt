use Rattle.log_fit.proofs.Common.{fit_line, gives_item}
use Rattle.log_fit.proofs.writing.put_fits.Goals as goal

pub loop-fit-preserved : goal.loop-fit-preserved
loop-fit-preserved g c =
    gives_item _ _ _ _ _ _ _ _ (fit_line c.args.file.now) c.args.fits.now c.loop-fit.fit-index c.fit-item.result c.fit-item.is
    c.loop-fit-test.true c.loop-fit.invariant c.put_fit-well.ensures
