-- What a store's refusals and faults are of the work of a file.
use Rattle.case_store.specs.{declared.refusals.OpenRefusal.OpenRefusal, declared.refusals.StoreFault.StoreFault}
use Rattle.case_store.specs.declared.refusals.OpenRefusal.TheVariants as refusal
use Rattle.case_store.specs.declared.refusals.StoreFault.TheVariants as store_fault
use Rattle.store_keep.specs.declared.faults.KeepFault.{KeepFault}
use Rattle.store_keep.specs.declared.faults.KeepFault.TheVariants as fault

abbrev pub part_of : {D : Type 0} → OpenRefusal D → D × KeepFault
part_of (refusal.Disk disk) = (disk, fault.Disk)
part_of (refusal.TooLong disk) = (disk, fault.TooLong)
part_of (refusal.Damaged disk place) = (disk, fault.Damaged place)
part_of (refusal.NoMemory disk) = (disk, fault.NoMemory)

-- a store that was opened for a file breaks only as its disk fails, or memory is wanting
abbrev pub fault_of : StoreFault → KeepFault
fault_of store_fault.Full = fault.Full
fault_of store_fault.NoMemory = fault.NoMemory
fault_of store_fault.Disk = fault.Disk
fault_of store_fault.Broken = fault.Disk
