-- Why calls are not made.
use Rattle.turn_cell.specs.{declared.faults.CallFault.CallFault, declared.faults.TryFault.TryFault}
use Rattle.turn_cell.specs.declared.faults.CallFault.TheVariants.{Full, NoMemory}
use Rattle.turn_cell.specs.declared.faults.TryFault.TheVariants as try_with

-- the fault of a `try_call` that has the turn
abbrev pub try_fault : CallFault → TryFault
try_fault Full = try_with.Full
try_fault NoMemory = try_with.NoMemory
