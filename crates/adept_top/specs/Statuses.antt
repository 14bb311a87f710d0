-- The statuses with which a run of the program ends.
use Rattle.std.specs.Prelude.{ℕ, Bool, ◌||◌, List, length, ◌==◌, nat_lt, is_ok, if◌then◌else◌, Some, None}
use Rattle.adept_io.specs.declared.reading.ReadRefusal.{ReadRefusal}
use Rattle.adept_io.specs.declared.reading.ReadRefusal.TheVariants as read
use Rattle.adept_top.specs.declared.outcomes.Outcome.{Outcome}
use Rattle.file_limits.specs.declared.TheConstants.{MAX_FILE_BYTES}
use Rattle.file_model.specs.{Reading.file, declared.refusals.FileRefusal.FileRefusal}
use Rattle.file_model.specs.declared.refusals.FileRefusal.TheVariants as refusal

-- the statuses of a run of a command
abbrev pub is_end_status : ℕ → Bool
is_end_status n = n == 0 || n == 1 || n == 3 || n == 4 || n == 5 || n == 6

-- the status at these bytes, where neither reading nor writing fails and there is memory
abbrev pub status_of : List ℕ → ℕ
status_of bytes = if nat_lt MAX_FILE_BYTES (length bytes) then 6 else (if is_ok (file bytes) then 0 else 1)

-- an end without a run and without a place
abbrev pub ends_with : ℕ → Outcome
ends_with status = record { status = status; run = None; place = None }

-- the end where the source was not read to its end
abbrev pub of_read : ReadRefusal → Outcome
of_read read.Failed = ends_with 3
of_read read.NoMemory = ends_with 5
of_read read.TooLong = ends_with 6

-- the end where the bytes are no file
abbrev pub of_file : FileRefusal → Outcome
of_file (refusal.Refused place) = record { status = 1; run = None; place = Some place }
of_file refusal.NoMemory = ends_with 5
