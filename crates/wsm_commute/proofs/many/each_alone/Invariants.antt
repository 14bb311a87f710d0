use Rattle.wsm_commute.proofs.Common.{◌+◌, ◌≡◌, drop, first_refused}
use Rattle.wsm_commute.proofs.many.each_alone.Given as goal

abbrev pub invariant-loop-place : goal.invariant-loop-place
invariant-loop-place l = first_refused (l.place + 1) l.base (drop l.place l.lists) ≡ first_refused 1 l.base l.lists
