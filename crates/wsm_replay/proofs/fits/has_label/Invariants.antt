use Rattle.wsm_replay.proofs.Common.{◌≡◌, drop, has_label}
use Rattle.wsm_replay.proofs.fits.has_label.Given as goal

abbrev pub invariant-loop-end : goal.invariant-loop-end
invariant-loop-end l = has_label l.code (drop l.end-index l.ends) ≡ has_label l.code l.ends
