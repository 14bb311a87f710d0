-- Which answer stands for which outcome.
use Rattle.std.specs.Prelude.{◌≡◌, Result, Err}
use Rattle.file_model.specs.{declared.files.File.File, declared.refusals.Refused.Refused, declared.refusals.FileRefusal.FileRefusal, declared.refusals.Why.Why, declared.states.Contents.Contents, declared.states.Stop.Stop}
use Rattle.file_model.specs.declared.refusals.FileRefusal.TheVariants as refusal
use Rattle.file_model.specs.declared.states.Stop.TheVariants as stop

-- the outcome is that the line is refused, behind these contents; want of memory may come at any outcome
abbrev pub Stops : {T : Type 0} → Result T (Why × Contents) → Contents → Stop → Type 0
Stops outcome c (stop.Refused w) = outcome ≡ Err (w, c)
Stops outcome c stop.NoMemory = Unit {0}

-- the outcome is this refusal of the file
abbrev pub Tells : Result File Refused → FileRefusal → Type 0
Tells outcome (refusal.Refused r) = outcome ≡ Err r
Tells outcome refusal.NoMemory = Unit {0}
