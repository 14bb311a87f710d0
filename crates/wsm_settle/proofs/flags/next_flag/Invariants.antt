use Rattle.wsm_settle.proofs.Common.{◌≡◌, drop, flagged}
use Rattle.wsm_settle.proofs.flags.next_flag.Given as goal

-- none of the flags so far is raised
abbrev pub invariant-loop-place : goal.invariant-loop-place
invariant-loop-place l = flagged l.place (drop l.place l.flags) ≡ flagged 0 l.flags
