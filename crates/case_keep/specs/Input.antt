-- The file that bytes stand for, or why there is none.
use Rattle.std.specs.{Prelude.{◌≡◌, ℕ, ◌+◌, ◌≤◌, List, length, Option, IfSome, Ok, Err}, Io.KnownBytes.IsAtEnd}
use Rattle.adept_io.specs.{Counts.Rose, Read.{ConsumesMany, ConsumesUpTo}, declared.reading.ReadRefusal.ReadRefusal}
use Rattle.adept_io.specs.declared.reading.ReadRefusal.TheVariants as read
use Rattle.case_keep.specs.declared.unkept.Unkept.{Unkept}
use Rattle.case_keep.specs.declared.unkept.Unkept.TheVariants as unkept
use Rattle.file_limits.specs.declared.TheConstants.{MAX_FILE_BYTES, NEWEST_KEPT_FORMAT}
use Rattle.file_model.specs.{Reading.file_up_to, declared.files.File.File, declared.refusals.FileRefusal.FileRefusal}
use Rattle.file_model.specs.declared.refusals.FileRefusal.TheVariants as refusal
use Rattle.store_disk.specs.declared.file.OpenFault.{OpenFault}
use Rattle.store_disk.specs.declared.file.OpenFault.TheVariants as open_fault
use Rattle.store_keep.specs.declared.faults.KeepFault.TheVariants as keep_fault

abbrev pub of_read : ReadRefusal → Unkept
of_read read.Failed = unkept.Unread
of_read read.NoMemory = unkept.NoMemory
of_read read.TooLong = unkept.TooLong

abbrev pub of_file : FileRefusal → Unkept
of_file (refusal.Refused place) = unkept.Refused place
of_file refusal.NoMemory = unkept.NoMemory

abbrev pub of_open : OpenFault → Unkept
of_open open_fault.Held = unkept.Held
of_open open_fault.NotAStore = unkept.NotAStore
of_open open_fault.TooLong = unkept.Keep keep_fault.TooLong
of_open open_fault.NoMemory = unkept.NoMemory
of_open (open_fault.Failed reason) = unkept.NoStore

-- bytes, where they are known, are not too many and stand for a file
abbrev pub StandFor : Option (List ℕ) → File → Type 0
StandFor bytes f = IfSome bytes (λ b. (length b ≤ MAX_FILE_BYTES) × (file_up_to NEWEST_KEPT_FORMAT b ≡ Ok f))

-- There is no file: a read failed where no more was read than a file may have, there was one byte too many, the bytes that
-- were read to the end are refused at this place, or there was not enough memory.
abbrev pub EndsUnread : {S : Type 0} → (S → Option (List ℕ)) → (S → ℕ) → S → S → Unkept → Type 0
EndsUnread left faults from to unkept.Unread = Rose (faults from) (faults to) × ConsumesUpTo (left from) (left to) MAX_FILE_BYTES
EndsUnread left faults from to unkept.TooLong = ConsumesMany (left from) (left to) (MAX_FILE_BYTES + 1)
EndsUnread left faults from to (unkept.Refused place) = IfSome (left from) (λ b. (length b ≤ MAX_FILE_BYTES) × (file_up_to NEWEST_KEPT_FORMAT b ≡ Err place)) × IsAtEnd (left to)
EndsUnread left faults from to unkept.NoMemory = Unit {0}
EndsUnread left faults from to _ = ⊥
