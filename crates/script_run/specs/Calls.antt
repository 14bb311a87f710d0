-- The calls of script lines.
use Rattle.std.specs.Prelude.{ℕ, List, [], ◌∷◌, ◌++◌, slice_get, slice_set, Option, Some, None, if◌then◌else◌}
use Rattle.case_core.specs.{Machine.next_case, declared.events.Event.Event}
use Rattle.case_core.specs.declared.events.Event.TheVariants as event
use Rattle.file_model.specs.{CaseCounts.is_among, declared.files.Act.Act, declared.files.CaseDecl.CaseDecl, declared.files.File.File, declared.files.Line.Line}
use Rattle.line_calls.specs.{Calls.call_of, Files.{place_of, roles_of}, declared.calls.Call.Call, declared.calls.Told.Told}
use Rattle.line_calls.specs.declared.calls.Call.TheVariants as call
use Rattle.line_calls.specs.declared.calls.Told.TheVariants as told
use Rattle.script_run.specs.{declared.runs.ClosedCase.ClosedCase, declared.runs.ClosedKind.ClosedKind, declared.runs.Run.Run}
use Rattle.type_core.specs.{Machine.next_kind, declared.events.KindEvent.KindEvent, declared.replies.KindReply.KindReply}
use Rattle.type_core.specs.declared.events.KindEvent.TheVariants as kind_event
use Rattle.type_core.specs.declared.replies.KindReply.TheVariants as kind_reply
use Rattle.wsm_sound.specs.{VersionModel.VersionModel, declared.versions.CaseId.CaseId}

-- a call is a step of the machine and an entry of the journal
abbrev pub call_kind : ℕ → KindEvent → ClosedKind → ClosedKind
call_kind caller e k =
    let step = next_kind k.machine e in
    record { machine = step.0; journal = k.journal ++ record { caller = caller; event = e; reply = step.1 } ∷ [] }

abbrev pub call_case : ℕ → Event → ClosedCase → ClosedCase
call_case caller e c =
    let step = next_case c.machine e in
    record { machine = step.0; journal = c.journal ++ record { caller = caller; event = e; reply = step.1 } ∷ [] }

-- the item at an index changed; where there is none, nothing is
abbrev pub put_back : {X : Type 0} → (X → X) → ℕ → List X → Option X → List X
put_back f i xs None = xs
put_back f i xs (Some x) = slice_set xs i (f x)

abbrev pub changed_at : {X : Type 0} → (X → X) → ℕ → List X → List X
changed_at f i xs = put_back f i xs (slice_get xs i)

abbrev pub changed_where : {X : Type 0} → (X → X) → Option ℕ → List X → List X
changed_where f None xs = xs
changed_where f (Some i) xs = changed_at f i xs

-- one call of a type, of a case, and of each of the first cases of a type
abbrev pub on_kind : ℕ → ℕ → KindEvent → Run → Run
on_kind caller t e r = record { kinds = changed_at (call_kind caller e) t r.kinds; cases = r.cases }

abbrev pub on_case : File → ℕ → CaseId → Event → Run → Run
on_case f caller c e r = record { kinds = r.kinds; cases = changed_where (call_case caller e) (place_of f c) r.cases }

abbrev pub if_among : ℕ → ℕ → (ClosedCase → ClosedCase) → CaseDecl → ClosedCase → ClosedCase
if_among t many f d c = if is_among t many d then f c else c

-- each of the first so many cases of a type changed, where the declarations tell the types
abbrev pub each_of : ℕ → ℕ → (ClosedCase → ClosedCase) → List CaseDecl → List ClosedCase → List ClosedCase
each_of t many f [] cs = cs
each_of t many f (d ∷ ds) [] = []
each_of t many f (d ∷ ds) (c ∷ cs) = if_among t many f d c ∷ each_of t many f ds cs

abbrev pub on_each : File → ℕ → ℕ → ℕ → Event → Run → Run
on_each f caller t many e r = record { kinds = r.kinds; cases = each_of t many (call_case caller e) f.cases r.cases }

-- the version that a type answers where it is asked for the newest
abbrev pub answered_version : KindReply → Option VersionModel
answered_version (kind_reply.Is v) = Some v
answered_version _ = None

abbrev pub newest_in : Option ClosedKind → Option VersionModel
newest_in None = None
newest_in (Some k) = answered_version (next_kind k.machine kind_event.Newest).1

abbrev pub newest : ℕ → Run → Option VersionModel
newest t r = newest_in (slice_get r.kinds t)

-- the calls with that version; there are none where the type answers none
abbrev pub created : File → ℕ → CaseId → Option VersionModel → Run → Run
created f caller c None r = r
created f caller c (Some v) r = on_case f caller c (event.Create v) r

abbrev pub migrated : File → ℕ → ℕ → ℕ → Option VersionModel → Run → Run
migrated f caller t many None r = r
migrated f caller t many (Some v) r = on_each f caller t many (event.Migrate v) r

-- a run behind a call
abbrev pub told_to : File → ℕ → ℕ → Told → Option VersionModel → Run → Run
told_to f caller t (told.Create c) o r = created f caller c o r
told_to f caller t (told.Migrate many) o r = migrated f caller t many o r

abbrev pub called : File → ℕ → Call → Run → Run
called f caller (call.Kind t e) r = on_kind caller t e r
called f caller (call.Case c e) r = on_case f caller c e r
called f caller (call.Newest t w) r = told_to f caller t w (newest t r) (on_kind caller t kind_event.Newest r)

abbrev pub acted : File → ℕ → Act → Run → Run
acted f caller x r = called f caller (call_of caller (roles_of f caller) x) r

abbrev pub worked : File → Run → Line → Run
worked f r l = acted f l.actor l.act r
