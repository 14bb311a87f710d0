-- The lines of the script with the versions that their actors were told.
use Rattle.std.specs.Prelude.{ℕ, Bool, List, filter, map, ◌≤◌, ◌==◌, ◌&&◌, [], ◌∷◌, Option, Some, None, if◌then◌else◌}
use Rattle.audit_model.specs.Common.{Act, CaseId, File, Line, call_of, call_weight, WritesOneLine, answered_version, calls_of, Event, KindEntry, KindEvent, KindReply, roles_of, VersionModel}
use Rattle.line_calls.specs.Calls as line
use Rattle.type_core.specs.declared.events.KindEvent.TheVariants as kind_event

-- ---- what is owed to one type, and to one case: the script lines that call it, phase by phase. Each does so once
abbrev pub calls_kind : ℕ → Act → Bool
calls_kind t x = line.has_kind t (line.cells_of x)

abbrev pub calls_case : CaseId → Act → Bool
calls_case c x = line.has_case c (line.cells_of x)

abbrev pub owed_kind : File → ℕ → List (List Line)
owed_kind f t = map (λ lines. filter (λ l. calls_kind t l.act) lines) f.phases

-- the event of a type that a line is
abbrev pub kind_event_in : Act → Option KindEvent
kind_event_in x = line.kind_event_in (line.call_of 0 [] x)

abbrev pub kind_event_of : Line → Option KindEvent
kind_event_of l = kind_event_in l.act

-- the version that an entry told, where it asked for the newest
abbrev pub told_by : KindEvent → KindReply → Option VersionModel
told_by kind_event.Newest r = answered_version r
told_by _ r = None

abbrev pub and_told : Option VersionModel → List VersionModel → List VersionModel
and_told None vs = vs
and_told (Some v) vs = v ∷ vs

-- the versions that entries told, in order, and those that an actor was told
abbrev pub told_in : List KindEntry → List VersionModel
told_in [] = []
told_in (e ∷ es) = and_told (told_by e.event e.reply) (told_in es)

abbrev pub told_to : ℕ → List KindEntry → List VersionModel
told_to a journal = told_in (calls_of a journal)

-- which versions each actor has yet to be told, by each type
abbrev pub Telling : Type 0
Telling = ℕ → ℕ → List VersionModel

-- the type that a line asks for its newest version
abbrev pub asks : Act → Option ℕ
asks x = line.asked_among (line.cells_of x)

abbrev pub rest_of : {X : Type 0} → List X → List X
rest_of [] = []
rest_of (x ∷ xs) = xs

abbrev pub first_of : {X : Type 0} → List X → Option X
first_of [] = None
first_of (x ∷ xs) = Some x

-- what is left to tell behind a line
abbrev pub told_at : Telling → ℕ → Option ℕ → Telling
told_at q a None = q
told_at q a (Some t) = λ b u. if b == a && u == t then rest_of (q b u) else q b u

abbrev pub version_for : Telling → ℕ → Option ℕ → Option VersionModel
version_for q a None = None
version_for q a (Some t) = first_of (q a t)

-- a line with the version that it was told, where it asked
abbrev pub Asked : Type 0
Asked = Line × Option VersionModel

abbrev pub asked_lines : Telling → List Line → List Asked
asked_lines q [] = []
asked_lines q (l ∷ ls) = (l, version_for q l.actor (asks l.act)) ∷ asked_lines (told_at q l.actor (asks l.act)) ls

abbrev pub left_to_tell : Telling → List Line → Telling
left_to_tell q [] = q
left_to_tell q (l ∷ ls) = left_to_tell (told_at q l.actor (asks l.act)) ls

abbrev pub asked_phases : Telling → List (List Line) → List (List Asked)
asked_phases q [] = []
asked_phases q (lines ∷ phases) = asked_lines q lines ∷ asked_phases (left_to_tell q lines) phases

-- what is owed to a case
abbrev pub owed_case : CaseId → List (List Asked) → List (List Asked)
owed_case c phases = map (λ lines. filter (λ l. calls_case c l.0.act) lines) phases

-- the event of a case that a line is, with the version that it was told
abbrev pub case_event_in : List ℕ → ℕ → Option VersionModel → Act → Option Event
case_event_in roles a v x = line.case_event_in v (line.call_of a roles x)

abbrev pub case_event_of : File → Asked → Option Event
case_event_of f l = case_event_in (roles_of f l.0.actor) l.0.actor l.1 l.0.act

-- ---- a line of the script with what its actor was told
abbrev pub line_of : Asked → Line
line_of l = l.0

abbrev pub actor_of : Asked → ℕ
actor_of l = l.0.actor

-- what is asked of lines: the values that one writes stand in one line, and its call is light, whoever makes it
abbrev pub IsModestLine : Line → Type 0
IsModestLine l = WritesOneLine l × ((a : ℕ) (roles : List ℕ) → call_weight (call_of a roles l.act) ≤ 768)

abbrev pub IsModest : Asked → Type 0
IsModest l = IsModestLine l.0
