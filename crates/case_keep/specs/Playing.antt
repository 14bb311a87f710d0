-- How the work of a process file over a disk without bytes ends.
use Rattle.std.specs.{Prelude.{◌≡◌, ◌≢◌, ◌⊎◌, ℕ, List, [], Option, IfSome, IfOk}, Io.KnownBytes.Appends}
use Rattle.adept_io.specs.{Counts.Rose, Written.AppendsPrefix}
use Rattle.case_keep.specs.{Input.{EndsUnread, StandFor}, Statuses.status_of, declared.playing.StoreOutcome.StoreOutcome, declared.unkept.Unkept.Unkept}
use Rattle.case_store.specs.Standing.{IsStore, StoreState}
use Rattle.file_limits.specs.declared.TheConstants.{NEWEST_KEPT_FORMAT}
use Rattle.file_model.specs.{Reading.file_up_to, declared.files.File.File}
use Rattle.report_text.specs.Report.{text}
use Rattle.script_run.specs.Serial.{serial}
use Rattle.store_calls.specs.Calls.{calls, payloads}
use Rattle.store_keep.specs.{Keeping.{HoldsBeginning, IsStored}, declared.faults.KeepFault.KeepFault}
use Rattle.store_room.specs.Room.{Overflows}
use Rattle.store_runs.specs.Stored.{IsSameRun, case_counts}
use Rattle.store_keep.specs.declared.faults.KeepFault.TheVariants as fault

-- there is no file: it is refused, not read, or too long
abbrev pub IsUnreadStatus : ℕ → Type 0
IsUnreadStatus n = (n ≡ 1) ⊎ (n ≡ 3) ⊎ (n ≡ 6)

-- the file was read, and not only memory was wanting
abbrev pub IsReadStatus : ℕ → Type 0
IsReadStatus n = (n ≡ 0) ⊎ (n ≡ 4) ⊎ (n ≡ 7) ⊎ (n ≡ 8)

abbrev pub IsWorkStatus : ℕ → Type 0
IsWorkStatus n = IsReadStatus n ⊎ (n ≡ 5)

abbrev pub IsPlayStatus : ℕ → Type 0
IsPlayStatus n = IsWorkStatus n ⊎ IsUnreadStatus n

-- what may befall the calls on a disk that held nothing, or the report
abbrev pub IsPlayFault : KeepFault → Type 0
IsPlayFault fault.Disk = Unit {0}
IsPlayFault fault.NoMemory = Unit {0}
IsPlayFault fault.Full = Unit {0}
IsPlayFault fault.Unwritten = Unit {0}
IsPlayFault _ = ⊥

-- a file that bytes stand for, of which this holds
abbrev pub OfFile : Option (List ℕ) → (File → Type 0) → Type 0
OfFile bytes P = (f : File) × StandFor bytes f × P f

-- the reason, which the status tells, and the disk as it was
pub record EndsUnplayed {S D : Type 0} (left : S → Option (List ℕ)) (faults : S → ℕ) (from to : S) (disk : D) (o : StoreOutcome D) : Type 0 where
  pub why : Unkept
  pub ends : EndsUnread left faults from to why
  pub status : o.status ≡ status_of why
  pub kept : o.disk ≡ disk

-- 0: the report of the serial run was written; 4: a beginning of it, and a write failed
pub record Reports {K : Type 0} (written : K → Option (List ℕ)) (faults : K → ℕ) (f : File) (old new : K) (status : ℕ) : Type 0 where
  pub done : status ≡ 0 → Appends (written old) (written new) (text f (serial f))
  pub begun : status ≡ 4 → AppendsPrefix (written old) (written new) (text f (serial f))
  pub unwritten : status ≡ 4 → Rose (faults old) (faults new)
  pub untouched : status ≢ 0 → status ≢ 4 → new ≡ old

-- at both the calls of the serial run find room up to the limit, and each image holds them in order; 7: the disk failed; 8: they
-- find no room, and no call of the disk failed before that was seen
pub record Stores {D : Type 0} (content : D → List ℕ) (may_leave : D → List ℕ → Type 0) (faults : D → ℕ) (limit : ℕ) (f : File) (disk : D) (o : StoreOutcome D) : Type 0 where
  pub stored : (o.status ≡ 0) ⊎ (o.status ≡ 4) → IsStored content may_leave o.disk (payloads f)
  pub fits : (o.status ≡ 0) ⊎ (o.status ≡ 4) → Overflows limit 0 (calls f) → ⊥
  pub failed : o.status ≡ 7 → Rose (faults disk) (faults o.disk)
  pub full : o.status ≡ 8 → Overflows limit 0 (calls f) × (faults o.disk ≡ faults disk)

-- where the bytes stand for a file, an image holds a beginning of its calls
abbrev pub HoldsBeginningOf : Option (List ℕ) → List ℕ → Type 0
HoldsBeginningOf bytes image = IfSome bytes (λ b. IfOk (file_up_to NEWEST_KEPT_FORMAT b) (λ f. HoldsBeginning (payloads f) [] image))

-- the disk is that of a store which holds the file's calls, and has the types and the cases of its serial run, journals and all
pub record HoldsRun {D : Type 0} (content : D → List ℕ) (may_leave : D → List ℕ → Type 0) (f : File) (disk : D) : Type 0 where
  pub store : StoreState D
  pub own : store.disk ≡ disk
  pub holds : IsStore content may_leave (case_counts f) store (calls f)
  pub same : IsSameRun store.held.starts f.cases (serial f) store.held.run
