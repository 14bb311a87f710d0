use Rattle.wsm_adapt.proofs.Common.{◌≡◌, drop, length, reads_fit}
use Rattle.wsm_adapt.proofs.fits.reads_fit.Given as goal

abbrev pub invariant-loop-i : goal.invariant-loop-i
invariant-loop-i l = record {
  same : length l.recorded ≡ length l.reads;
  rest : reads_fit (drop l.i l.recorded) (drop l.i l.reads) ≡ reads_fit l.recorded l.reads;
}
