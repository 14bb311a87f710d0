-- Why an image cannot be read.
use Rattle.adept_io.specs.declared.reading.ReadRefusal.{ReadRefusal}
use Rattle.adept_io.specs.declared.reading.ReadRefusal.TheVariants as read
use Rattle.talk_server.specs.declared.faults.ServeFault.{ServeFault}
use Rattle.talk_server.specs.declared.faults.ServeFault.TheVariants as fault
use Rattle.turn_loop.specs.declared.faults.TalkFault.TheVariants as cut

abbrev pub unopened : ReadRefusal → ServeFault
unopened read.Failed = fault.Unopened
unopened read.TooLong = fault.TooLong
unopened read.NoMemory = fault.Talk cut.NoMemory
