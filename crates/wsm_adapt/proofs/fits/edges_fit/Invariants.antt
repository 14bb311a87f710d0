use Rattle.wsm_adapt.proofs.Common.{◌≡◌, drop, edges_fit, length}
use Rattle.wsm_adapt.proofs.fits.edges_fit.Given as goal

abbrev pub invariant-loop-i : goal.invariant-loop-i
invariant-loop-i l = record {
  same : length l.before ≡ length l.writes;
  rest : edges_fit l.old.elements l.new.elements (drop l.i l.before) (drop l.i l.writes) ≡ edges_fit l.old.elements l.new.elements l.before l.writes;
}
