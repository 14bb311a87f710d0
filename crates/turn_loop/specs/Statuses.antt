-- The statuses with which a talk ends.
use Rattle.std.specs.Prelude.{ℕ, Result, Ok, Err}
use Rattle.turn_loop.specs.declared.faults.TalkFault.{TalkFault}
use Rattle.turn_loop.specs.declared.faults.TalkFault.TheVariants as fault

abbrev pub status_of : Result (Unit {0}) TalkFault → ℕ
status_of (Ok _) = 0
status_of (Err fault.Unread) = 3
status_of (Err fault.TooLong) = 3
status_of (Err fault.Unwritten) = 4
status_of (Err fault.NoMemory) = 5
status_of (Err fault.Disk) = 7
