-- What stops a line on a case that may not be there.
use Rattle.std.specs.Prelude.{◌≡◌, Option, None}
use Rattle.wsm_sound.specs.declared.versions.CaseId.{CaseId}
use Rattle.file_model.specs.declared.refusals.Why.TheVariants as why
use Rattle.file_model.specs.{declared.states.Contents.Contents, declared.states.Stop.Stop}
use Rattle.file_model.specs.declared.states.Stop.TheVariants as stop

-- no case was found, and nothing was noted; want of memory may come at any case
abbrev pub StopsUnknown : Option CaseId → Contents → Contents → Stop → Type 0
StopsUnknown found c c_new (stop.Refused w) = (found ≡ None) × (w ≡ why.Unknown) × (c_new ≡ c)
StopsUnknown found c c_new stop.NoMemory = Unit {0}
