-- The statuses with which the program ends, and why a store was not opened.
use Rattle.std.specs.Prelude.{ℕ, Err}
use Rattle.serve_main.specs.declared.ends.End.{End}
use Rattle.serve_main.specs.declared.ends.End.TheVariants as end
use Rattle.store_disk.specs.declared.file.OpenFault.{OpenFault}
use Rattle.store_disk.specs.declared.file.OpenFault.TheVariants as opening
use Rattle.talk_server.specs.Statuses.{status_of as serve_status}
use Rattle.talk_server.specs.declared.faults.ServeFault.TheVariants as fault

abbrev pub status_of : End → ℕ
status_of end.Words = 2
status_of end.NoMemory = 5
status_of end.NotAStore = 9
status_of end.Held = 10
status_of end.NoStore = 11
status_of (end.Serve why) = serve_status (Err why)

abbrev pub unopened : OpenFault → End
unopened opening.Held = end.Held
unopened opening.NotAStore = end.NotAStore
unopened opening.TooLong = end.Serve fault.TooLong
unopened opening.NoMemory = end.NoMemory
unopened (opening.Failed reason) = end.NoStore
