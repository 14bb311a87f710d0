use Rattle.wsm_trail.proofs.Common.{◌≡◌, drop, last_written, later_or, option_copied}
use Rattle.wsm_trail.proofs.entries.last_written.Given as goal

abbrev pub invariant-loop-i : goal.invariant-loop-i
invariant-loop-i l = later_or (last_written l.element (drop l.i l.entries)) (option_copied l.last) ≡ last_written l.element (drop l.from l.entries)
