use Rattle.adept_actor.proofs.{Common.{desk_view, drop}, Lines.IsAmong}
use Rattle.adept_actor.proofs.working.work.Given as goal

abbrev pub invariant-loop-line : goal.invariant-loop-line
invariant-loop-line g l = IsAmong l.server l.roles l.lines (desk_view l.fn.desk) (drop l.line-index l.lines) l.desk
