use Rattle.log_fit.proofs.Common.{fit_line, flat_map, Gives, take}
use Rattle.log_fit.proofs.writing.put_fits.Given as goal

abbrev pub invariant-loop-fit : goal.invariant-loop-fit
invariant-loop-fit g l = Gives g.K.Sink.written g.K.Sink.faults l.ok l.well l.initial.sink l.sink (flat_map (fit_line l.file) (take l.fit-index l.fits))
