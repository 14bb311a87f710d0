-- The statuses with which a server ends.
use Rattle.std.specs.Prelude.{ℕ, Result, Ok, Err}
use Rattle.talk_server.specs.declared.faults.ServeFault.{ServeFault}
use Rattle.talk_server.specs.declared.faults.ServeFault.TheVariants as fault
use Rattle.turn_loop.specs.Statuses.{status_of as talk_status}

abbrev pub status_of : Result (Unit {0}) ServeFault → ℕ
status_of (Ok _) = 0
status_of (Err fault.Unopened) = 11
status_of (Err fault.TooLong) = 9
status_of (Err (fault.Damaged place)) = 9
status_of (Err (fault.Talk why)) = talk_status (Err why)
