-- Faults that stand for one another.
use Rattle.adept_io.specs.declared.reading.ReadRefusal.{ReadRefusal}
use Rattle.adept_io.specs.declared.reading.ReadRefusal.TheVariants as read
use Rattle.case_store.specs.{declared.refusals.ImageFault.ImageFault, declared.refusals.OpenRefusal.OpenRefusal, declared.refusals.StoreFault.StoreFault}
use Rattle.case_store.specs.declared.refusals.ImageFault.TheVariants as fault
use Rattle.case_store.specs.declared.refusals.OpenRefusal.TheVariants as refusal
use Rattle.case_store.specs.declared.refusals.StoreFault.TheVariants as store_fault
use Rattle.store_room.specs.declared.faults.RoomFault.{RoomFault}
use Rattle.store_room.specs.declared.faults.RoomFault.TheVariants as room_fault

abbrev pub image_fault : ReadRefusal → ImageFault
image_fault read.Failed = fault.Disk
image_fault read.TooLong = fault.TooLong
image_fault read.NoMemory = fault.NoMemory

abbrev pub refused : {D : Type 0} → ImageFault → D → OpenRefusal D
refused fault.Disk disk = refusal.Disk disk
refused fault.TooLong disk = refusal.TooLong disk
refused (fault.Damaged place) disk = refusal.Damaged disk place
refused fault.NoMemory disk = refusal.NoMemory disk

abbrev pub no_room : RoomFault → StoreFault
no_room room_fault.Full = store_fault.Full
no_room room_fault.NoMemory = store_fault.NoMemory
