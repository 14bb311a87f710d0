use Rattle.wsm_replay.proofs.{Common.{arith, sym, value_noted}, Lengths.fits_reads_lengths}
use Rattle.wsm_replay.proofs.fits.fits_reads.Goals as goal

pub returns-then-reads-edges : goal.returns-then-reads-edges
returns-then-reads-edges c = sym (fits_reads_lengths (value_noted c.args.trail.now.trail.entries c.args.before.now.rows) c.args.reads.now c.args.edges.now (omega arith))
