-- The calls that the lines of a file make, one after another, as a store keeps them. Which versions the types have decides which
-- calls they are, and no case does.
use Rattle.std.specs.Prelude.{ℕ, ◌+◌, List, [], ◌∷◌, ◌++◌, fold, length, map, slice_get, Option, Some, None, option_map, if◌then◌else◌}
use Rattle.file_model.specs.{CaseCounts.is_among, declared.files.CaseDecl.CaseDecl, declared.files.File.File, declared.files.Line.Line, declared.files.TypeDecl.TypeDecl}
use Rattle.line_calls.specs.{Calls.call_of, Files.roles_of, declared.calls.Call.Call}
use Rattle.line_calls.specs.declared.calls.Call.TheVariants as call
use Rattle.line_calls.specs.declared.calls.Told.TheVariants as told
use Rattle.script_run.specs.{Calls.changed_at, Serial.program, Verdicts.{defined_from, stepped}}
use Rattle.store_calls.specs.declared.telling.Telling.{Telling}
use Rattle.store_form.specs.{Payload.Bytes, declared.stored.Recorded.Recorded, declared.stored.Stored.Stored}
use Rattle.store_form.specs.declared.stored.Stored.TheVariants as stored
use Rattle.store_room.specs.Room.{payload_of}
use Rattle.type_core.specs.{KindModel.KindModel, Machine.newest_of, declared.events.KindEvent.KindEvent}
use Rattle.type_core.specs.declared.events.KindEvent.TheVariants as kind_event
use Rattle.wsm_sound.specs.declared.versions.CaseId.{CaseId}

abbrev pub by : ℕ → Stored → Recorded
by caller e = record { caller = caller; event = e }

-- the program's definitions, of types numbered from a number on
abbrev pub definitions : ℕ → List TypeDecl → List Recorded
definitions t [] = []
definitions t (d ∷ ds) = by program (stored.Define t d.schema) ∷ definitions (t + 1) ds

-- the number of a type's newest version
abbrev pub number_in : Option KindModel → Option ℕ
number_in None = None
number_in (Some k) = option_map (λ v. v.number) (newest_of k.versions)

abbrev pub newest_number : ℕ → List KindModel → Option ℕ
newest_number t kinds = number_in (slice_get kinds t)

-- calls with the version that their type has just answered; there are none where it answered none
abbrev pub create_calls : ℕ → CaseId → Option ℕ → List Recorded
create_calls a c None = []
create_calls a c (Some number) = by a (stored.Create c number) ∷ []

-- one of each of the first cases of a type, in order of declaration
abbrev pub migrations : ℕ → ℕ → ℕ → ℕ → List CaseDecl → List Recorded
migrations a t many number [] = []
migrations a t many number (d ∷ ds) = if is_among t many d then by a (stored.Migrate d.id number) ∷ migrations a t many number ds else migrations a t many number ds

abbrev pub migrate_calls : ℕ → ℕ → ℕ → List CaseDecl → Option ℕ → List Recorded
migrate_calls a t many ds None = []
migrate_calls a t many ds (Some number) = migrations a t many number ds

-- a type's event as it is stored
abbrev pub stored_kind : ℕ → KindEvent → Stored
stored_kind t (kind_event.Define schema) = stored.Define t schema
stored_kind t (kind_event.Install ops) = stored.Install t ops
stored_kind t kind_event.Newest = stored.Newest t

-- the calls of a line's call, by the types before it, and the types behind it
abbrev pub records : List CaseDecl → ℕ → List KindModel → Call → List Recorded
records ds a kinds (call.Kind t e) = by a (stored_kind t e) ∷ []
records ds a kinds (call.Case c e) = by a (stored.Case c e) ∷ []
records ds a kinds (call.Newest t (told.Create c)) = by a (stored.Newest t) ∷ create_calls a c (newest_number t kinds)
records ds a kinds (call.Newest t (told.Migrate many)) = by a (stored.Newest t) ∷ migrate_calls a t many ds (newest_number t kinds)

abbrev pub kinds_behind : Call → List KindModel → List KindModel
kinds_behind (call.Kind t e) kinds = changed_at (stepped e) t kinds
kinds_behind (call.Case c e) kinds = kinds
kinds_behind (call.Newest t w) kinds = kinds

-- the types, and the calls so far
pub record Told : Type 0 where
  pub kinds : List KindModel
  pub calls : List Recorded

abbrev pub told_of : Telling → Told
told_of t = record { kinds = t.kinds.items; calls = t.calls.items }

-- more calls, of which no type is changed
abbrev pub with_calls : List Recorded → Told → Told
with_calls calls s = record { kinds = s.kinds; calls = s.calls ++ calls }

abbrev pub with_call : ℕ → Stored → Told → Told
with_call a e s = with_calls (by a e ∷ []) s

abbrev pub told_call : List CaseDecl → ℕ → Call → Told → Told
told_call ds a k s = record { kinds = kinds_behind k s.kinds; calls = s.calls ++ records ds a s.kinds k }

abbrev pub told_line : File → Told → Line → Told
told_line f s l = told_call f.cases l.actor (call_of l.actor (roles_of f l.actor) l.act) s

abbrev pub told_phase : File → Told → List Line → Told
told_phase f s lines = fold (told_line f) s lines

abbrev pub told_types : List TypeDecl → Told
told_types ds = record { kinds = defined_from 0 ds; calls = definitions 0 ds }

abbrev pub told_file : File → Told
told_file f = fold (told_phase f) (told_types f.types) f.phases

abbrev pub calls : File → List Recorded
calls f = (told_file f).calls

-- how many calls there are behind each phase
abbrev pub ends_from : File → Told → List (List Line) → List ℕ
ends_from f s [] = []
ends_from f s (p ∷ ps) = length (told_phase f s p).calls ∷ ends_from f (told_phase f s p) ps

abbrev pub phase_ends : File → List ℕ
phase_ends f = ends_from f (told_types f.types) f.phases

-- as they are stored
abbrev pub payloads : File → List Bytes
payloads f = map payload_of (calls f)
