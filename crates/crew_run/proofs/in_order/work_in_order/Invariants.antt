use Rattle.crew_run.proofs.{Common.{ℕ, ◌<◌, ◌≡◌, drop, get_or, length, Worker}, LineByLine.IsAmong}
use Rattle.crew_run.proofs.in_order.work_in_order.Given as goal

abbrev pub invariant-loop-line : goal.invariant-loop-line
invariant-loop-line g l = record {
  many : length l.crew ≡ length l.fn.crew;
  among : (i : ℕ) (d : Worker) → i < length l.fn.crew → IsAmong l.server l.file l.lines (drop l.line-index l.lines) (get_or l.fn.crew i d) (get_or l.crew i d);
}
