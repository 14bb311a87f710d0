-- What stored calls do to the types and cases of a store, by fold, and what they answer.
use Rattle.std.specs.{Prelude.{ℕ, ◌+◌, nat_lt, Bool, ◌&&◌, List, [], ◌∷◌, ◌++◌, length, slice_get, fold, Option, Some, None, if◌then◌else◌, replicate}, List.sum_by, Option.is_some}
use Rattle.case_core.specs.{Ages.weight, CaseModel.not_created, Machine.next_case, declared.events.Event.Event}
use Rattle.case_core.specs.declared.events.Event.TheVariants as event
use Rattle.type_core.specs.{KindModel.not_defined, declared.events.KindEvent.KindEvent}
use Rattle.type_core.specs.Machine.{next_kind, version_in, weight as kind_weight}
use Rattle.type_core.specs.declared.events.KindEvent.TheVariants as kind_event
use Rattle.script_run.specs.{Calls.{call_case, changed_where, on_kind}, declared.runs.ClosedCase.ClosedCase, declared.runs.ClosedKind.ClosedKind, declared.runs.Run.Run}
use Rattle.store_form.specs.{Stored.is_shallow, declared.stored.Recorded.Recorded, declared.stored.Stored.Stored}
use Rattle.store_form.specs.declared.stored.Stored.TheVariants as stored
use Rattle.wsm_sound.specs.{VersionModel.VersionModel, declared.versions.CaseId.CaseId}
use Rattle.case_store.specs.declared.replies.StoredReply.{StoredReply}
use Rattle.case_store.specs.declared.replies.StoredReply.TheVariants as answer

-- where the cases of each type begin, and where those of the last one end, by how many each type has
abbrev pub starts_from : ℕ → List ℕ → List ℕ
starts_from start [] = start ∷ []
starts_from start (n ∷ ns) = start ∷ starts_from (start + n) ns

abbrev pub starts_of : List ℕ → List ℕ
starts_of counts = starts_from 0 counts

-- where a case stands among all cases, by type and place
abbrev pub place_between : ℕ → Option ℕ → Option ℕ → Option ℕ
place_between place (Some start) (Some end) = if nat_lt (start + place) end then Some (start + place) else None
place_between place (Some start) None = None
place_between place None end = None

abbrev pub place_of : List ℕ → CaseId → Option ℕ
place_of starts c = place_between c.place (slice_get starts c.type_no) (slice_get starts (c.type_no + 1))

-- the version of a type by its number
abbrev pub version_of_kind : ℕ → Option ClosedKind → Option VersionModel
version_of_kind number None = None
version_of_kind number (Some k) = version_in k.machine.versions number

abbrev pub version_of : Run → ℕ → ℕ → Option VersionModel
version_of run t number = version_of_kind number (slice_get run.kinds t)

-- nobody has called the types and cases
abbrev pub fresh_kinds : ℕ → List ℕ → List ClosedKind
fresh_kinds t [] = []
fresh_kinds t (n ∷ ns) = record { machine = not_defined t; journal = [] } ∷ fresh_kinds (t + 1) ns

abbrev pub fresh_cases : ℕ → List ℕ → List ClosedCase
fresh_cases t [] = []
fresh_cases t (n ∷ ns) = replicate n (record { machine = not_created t; journal = [] }) ++ fresh_cases (t + 1) ns

abbrev pub fresh : List ℕ → Run
fresh counts = record { kinds = fresh_kinds 0 counts; cases = fresh_cases 0 counts }

-- a call of a case; one with a version, where there is such a version
abbrev pub on_case : List ℕ → ℕ → CaseId → Event → Run → Run
on_case starts caller c e run = record { kinds = run.kinds; cases = changed_where (call_case caller e) (place_of starts c) run.cases }

abbrev pub on_version : List ℕ → ℕ → CaseId → (VersionModel → Event) → Option VersionModel → Run → Run
on_version starts caller c make None run = run
on_version starts caller c make (Some v) run = on_case starts caller c (make v) run

-- a stored call
abbrev pub made : List ℕ → ℕ → Stored → Run → Run
made starts caller (stored.Define t s) run = on_kind caller t (kind_event.Define s) run
made starts caller (stored.Install t ops) run = on_kind caller t (kind_event.Install ops) run
made starts caller (stored.Newest t) run = on_kind caller t kind_event.Newest run
made starts caller (stored.Create c number) run = on_version starts caller c event.Create (version_of run c.type_no number) run
made starts caller (stored.Migrate c number) run = on_version starts caller c event.Migrate (version_of run c.type_no number) run
made starts caller (stored.Case c e) run = on_case starts caller c e run

abbrev pub called : List ℕ → Run → Recorded → Run
called starts run r = made starts r.caller r.event run

-- the run of these records, one after another
abbrev pub folded : List ℕ → List Recorded → Run
folded counts records = fold (called (starts_of counts)) (fresh counts) records

-- whether the type, the case and the version that an event names are there, and it has a payload
abbrev pub has_case : List ℕ → CaseId → Bool
has_case starts c = is_some (place_of starts c)

abbrev pub has_names : List ℕ → Run → Stored → Bool
has_names starts run (stored.Define t s) = nat_lt t (length run.kinds)
has_names starts run (stored.Install t ops) = nat_lt t (length run.kinds)
has_names starts run (stored.Newest t) = nat_lt t (length run.kinds)
has_names starts run (stored.Create c number) = has_case starts c && is_some (version_of run c.type_no number)
has_names starts run (stored.Migrate c number) = has_case starts c && is_some (version_of run c.type_no number)
has_names starts run (stored.Case c e) = has_case starts c

abbrev pub has : List ℕ → Run → Stored → Bool
has starts run e = has_names starts run e && is_shallow e

-- what the machine answers
abbrev pub kind_answer : KindEvent → Option ClosedKind → Option StoredReply
kind_answer e None = None
kind_answer e (Some k) = Some (answer.Kind (next_kind k.machine e).1)

abbrev pub case_answer : Event → Option ClosedCase → Option StoredReply
case_answer e None = None
case_answer e (Some c) = Some (answer.Case (next_case c.machine e).1)

abbrev pub case_at : Run → Option ℕ → Option ClosedCase
case_at run None = None
case_at run (Some i) = slice_get run.cases i

abbrev pub answer_of_case : List ℕ → CaseId → Run → Event → Option StoredReply
answer_of_case starts c run e = case_answer e (case_at run (place_of starts c))

abbrev pub version_answer : List ℕ → CaseId → Run → (VersionModel → Event) → Option VersionModel → Option StoredReply
version_answer starts c run make None = None
version_answer starts c run make (Some v) = answer_of_case starts c run (make v)

abbrev pub answer_of : List ℕ → Run → Stored → Option StoredReply
answer_of starts run (stored.Define t s) = kind_answer (kind_event.Define s) (slice_get run.kinds t)
answer_of starts run (stored.Install t ops) = kind_answer (kind_event.Install ops) (slice_get run.kinds t)
answer_of starts run (stored.Newest t) = kind_answer kind_event.Newest (slice_get run.kinds t)
answer_of starts run (stored.Create c number) = version_answer starts c run event.Create (version_of run c.type_no number)
answer_of starts run (stored.Migrate c number) = version_answer starts c run event.Migrate (version_of run c.type_no number)
answer_of starts run (stored.Case c e) = answer_of_case starts c run e

-- what the machines answer to calls that are made one after another
abbrev pub answers_of : List ℕ → Run → List Recorded → List (Option StoredReply)
answers_of starts run [] = []
answers_of starts run (r ∷ rs) = answer_of starts run r.event ∷ answers_of starts (called starts run r) rs

-- by how much a stored call may age a machine
abbrev pub stored_weight : Stored → ℕ
stored_weight (stored.Define t s) = kind_weight (kind_event.Define s)
stored_weight (stored.Install t ops) = kind_weight (kind_event.Install ops)
stored_weight (stored.Case c e) = weight e
stored_weight _ = 0

-- and several
abbrev pub weight_of_all : List Recorded → ℕ
weight_of_all rs = sum_by (λ r. stored_weight r.event) rs
