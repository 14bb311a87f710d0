-- How far the cases of a log go on a version.
use Rattle.std.specs.Prelude.{ℕ, suc, Bool, true, false, not, List, [], ◌∷◌, length, map, filter, find, fold, Option, Some, None, option_map, Result, Ok, Err, if◌then◌else◌, bytes_eq}
use Rattle.case_core.specs.{CaseModel.{CaseModel, not_created}, Machine.next_case, declared.events.Event.Event, declared.replies.Reply.Reply}
use Rattle.case_core.specs.declared.events.Event.TheVariants as event
use Rattle.case_core.specs.declared.replies.Reply.TheVariants as reply
use Rattle.file_model.specs.declared.files.File.{File}
use Rattle.file_names.specs.Names.{noted}
use Rattle.file_words.specs.Lines.{Bytes}
use Rattle.log_fit.specs.declared.fits.CaseFit.{CaseFit}
use Rattle.log_records.specs.{Told.{Told, told}, declared.faults.WrongRecord.WrongRecord, declared.records.LogEvent.LogEvent, declared.records.LogRecord.LogRecord}
use Rattle.log_records.specs.declared.records.LogEvent.TheVariants as logged
use Rattle.wsm_lists.specs.Keys.{role_in}
use Rattle.wsm_sound.specs.VersionModel.{VersionModel}

-- the event of a case on a version, where its node has a number: a start is made with the node's own role
abbrev pub event_on : VersionModel → LogEvent → Option Event
event_on v (logged.Start node user) = option_map (λ n. event.Start n user (role_in n v.schema.roles ∷ [])) node
event_on v (logged.End node user writes choice) = option_map (λ n. event.End n user choice writes) node

-- a node without a number is none of the schema
abbrev pub answer_to : CaseModel → Option Event → CaseModel × Reply
answer_to s None = (s, reply.NoNode)
answer_to s (Some e) = next_case s e

abbrev pub answered : VersionModel → CaseModel → LogEvent → CaseModel × Reply
answered v s e = answer_to s (event_on v e)

-- a case that was just created
abbrev pub opened : VersionModel → CaseModel
opened v = (next_case (not_created v.type_no) (event.Create v)).0

-- the answers to events, one after another
abbrev pub replies : VersionModel → CaseModel → List LogEvent → List Reply
replies v s [] = []
replies v s (e ∷ es) = (answered v s e).1 ∷ replies v (answered v s e).0 es

-- whether an event was accepted
abbrev pub goes_on : Reply → Bool
goes_on (reply.Started reads) = true
goes_on reply.Ended = true
goes_on reply.Repeated = true
goes_on _ = false

-- how many answers stand before the first refusal, and that refusal
abbrev pub accepted : List Reply → ℕ
accepted [] = 0
accepted (r ∷ rs) = if goes_on r then suc (accepted rs) else 0

abbrev pub refusal : List Reply → Option Reply
refusal rs = find (λ r. not (goes_on r)) rs

-- how far the events of a case go
abbrev pub case_fit : VersionModel → Bytes → List LogEvent → CaseFit
case_fit v name events =
    let rs = replies v (opened v) events in
    record { case = name; events = length events; fits = accepted rs; next = refusal rs }

-- the events of a case, and the cases in the order of their first records
abbrev pub of_case : Bytes → List LogRecord → List LogEvent
of_case name records = map (λ r. r.event) (filter (λ r. bytes_eq r.case name) records)

abbrev pub names_in : List LogRecord → List Bytes
names_in records = fold (λ names r. noted names r.case) [] records

abbrev pub fits_of : VersionModel → List LogRecord → List CaseFit
fits_of v records = map (λ name. case_fit v name (of_case name records)) (names_in records)

-- the fits of a log, or its first wrong record
abbrev pub fits_told : VersionModel → Told → Result (List CaseFit) WrongRecord
fits_told v (Ok records) = Ok (fits_of v records)
fits_told v (Err wrong) = Err wrong

abbrev pub fit : VersionModel → File → Bytes → Result (List CaseFit) WrongRecord
fit v f log = fits_told v (told f.nodes f.elements log)
