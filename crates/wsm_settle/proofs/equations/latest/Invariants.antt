use Rattle.wsm_settle.proofs.Common.{◌≡◌, drop, greater, latest}
use Rattle.wsm_settle.proofs.equations.latest.Given as goal

abbrev pub invariant-loop-signal : goal.invariant-loop-signal
invariant-loop-signal l = greater l.last (latest (drop l.signal-index l.signals)) ≡ latest l.signals
