-- What an input comes to: the bytes of a table, or why there is none.
use Rattle.std.specs.Prelude.{ℕ, Bool, ◌||◌, nat_lt, List, length, Option, Some, None, Result, Ok, Err, if◌then◌else◌}
use Rattle.file_limits.specs.declared.TheConstants.{MAX_FILE_BYTES}
use Rattle.file_model.specs.{Reading.file, declared.files.File.File, declared.refusals.Refused.Refused}
use Rattle.file_words.specs.Lines.{Bytes}
use Rattle.log_fit.specs.{Asked.Question, Fit.fit, Parts.parts_of, Table.table, Versions.version_of, declared.fits.CaseFit.CaseFit, declared.unfit.Unfit.Unfit}
use Rattle.log_fit.specs.declared.unfit.Unfit.TheVariants as unfit
use Rattle.log_records.specs.declared.faults.WrongRecord.{WrongRecord}
use Rattle.wsm_sound.specs.VersionModel.{VersionModel}

-- the most bytes of an input
abbrev pub most_input : ℕ
most_input = 33554432

-- a wrong record
abbrev pub table_of : File → Result (List CaseFit) WrongRecord → Result Bytes Unfit
table_of f (Ok fits) = Ok (table f fits)
table_of f (Err wrong) = Err (unfit.Wrong wrong)

-- no log
abbrev pub with_log : File → VersionModel → Option Bytes → Result Bytes Unfit
with_log f v None = Err unfit.NoLog
with_log f v (Some log) = table_of f (fit v f log)

-- no such version
abbrev pub with_version : File → Option VersionModel → Option Bytes → Result Bytes Unfit
with_version f None log = Err unfit.NoVersion
with_version f (Some v) log = with_log f v log

-- no process file
abbrev pub with_file : Question → Option Bytes → Result File Refused → Result Bytes Unfit
with_file q log (Err r) = Err unfit.Refused
with_file q log (Ok f) = with_version f (version_of f q.name q.number) log

-- too many bytes
abbrev pub is_too_long : Bytes → Bool
is_too_long input = nat_lt most_input (length input) || nat_lt MAX_FILE_BYTES (length (parts_of input).file)

abbrev pub answer : Question → Bytes → Result Bytes Unfit
answer q input = if is_too_long input then Err unfit.TooLong else with_file q (parts_of input).log (file (parts_of input).file)
