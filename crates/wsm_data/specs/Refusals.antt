-- Why a schema's data is refused.
use Rattle.std.specs.Prelude.{◌≡◌, Option, Some}
use Rattle.wsm_schema.specs.declared.faults.DataFault.{DataFault}
use Rattle.wsm_data.specs.declared.refusals.DataRefusal.{DataRefusal}
use Rattle.wsm_data.specs.declared.refusals.DataRefusal.TheVariants as refusal

-- a refusal names the fault that was found, or says that memory ran out
abbrev pub IsDataFault : Option DataFault → DataRefusal → Type 0
IsDataFault found (refusal.Fault f) = found ≡ Some f
IsDataFault found refusal.NoMemory = Unit {0}
