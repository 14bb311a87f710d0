-- The statuses with which a work over a store ends.
use Rattle.std.specs.Prelude.{ℕ}
use Rattle.case_keep.specs.declared.unkept.Unkept.{Unkept}
use Rattle.case_keep.specs.declared.unkept.Unkept.TheVariants as unkept
use Rattle.store_keep.specs.declared.faults.KeepFault.{KeepFault}
use Rattle.store_keep.specs.declared.faults.KeepFault.TheVariants as fault

-- 9 is the one of a store of other calls
abbrev pub keep_status : KeepFault → ℕ
keep_status fault.Unwritten = 4
keep_status fault.NoMemory = 5
keep_status fault.Disk = 7
keep_status fault.Full = 8
keep_status fault.TooLong = 9
keep_status (fault.Damaged place) = 9
keep_status (fault.Differs number) = 9

abbrev pub status_of : Unkept → ℕ
status_of (unkept.Refused place) = 1
status_of unkept.Words = 2
status_of unkept.Unread = 3
status_of unkept.NoMemory = 5
status_of unkept.TooLong = 6
status_of unkept.NotAStore = 9
status_of unkept.Held = 10
status_of unkept.NoStore = 11
status_of (unkept.Keep why) = keep_status why
