-- What a log comes to as a call answers it, and the statuses with which a fit ends.
use Rattle.std.specs.Prelude.{ℕ, ◌≡◌, List, Result, Err}
use Rattle.file_model.specs.declared.refusals.FileRefusal.{FileRefusal}
use Rattle.file_model.specs.declared.refusals.FileRefusal.TheVariants as refusal
use Rattle.log_fit.specs.declared.{fits.CaseFit.CaseFit, fits.FitRefusal.FitRefusal, unfit.Unfit.Unfit}
use Rattle.log_fit.specs.declared.fits.FitRefusal.TheVariants.{Wrong, NoMemory}
use Rattle.log_fit.specs.declared.unfit.Unfit.TheVariants as unfit
use Rattle.log_records.specs.declared.faults.WrongRecord.{WrongRecord}

-- a refusal tells the first wrong record; want of memory may come at any log
abbrev pub Tells : Result (List CaseFit) WrongRecord → FitRefusal → Type 0
Tells fits (Wrong r) = fits ≡ Err r
Tells fits NoMemory = Unit {0}

abbrev pub status_of : Unfit → ℕ
status_of unfit.Refused = 1
status_of unfit.Words = 2
status_of unfit.Unread = 3
status_of unfit.Unwritten = 4
status_of unfit.NoMemory = 5
status_of unfit.TooLong = 6
status_of unfit.NoVersion = 8
status_of unfit.NoLog = 9
status_of (unfit.Wrong r) = 9

-- of a process file that is refused
abbrev pub of_file : FileRefusal → Unfit
of_file (refusal.Refused place) = unfit.Refused
of_file refusal.NoMemory = unfit.NoMemory
