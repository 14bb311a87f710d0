use Rattle.wsm_replay.proofs.Common.{◌≡◌, drop, fits_reads, length, value_noted}
use Rattle.wsm_replay.proofs.fits.fits_reads.Given as goal

abbrev pub invariant-loop-i : goal.invariant-loop-i
invariant-loop-i l = record {
  same : length l.reads ≡ length l.edges;
  rest : fits_reads (value_noted l.trail.trail.entries l.before.rows) (drop l.i l.reads) (drop l.i l.edges) ≡ fits_reads (value_noted l.trail.trail.entries l.before.rows) l.reads l.edges;
}
