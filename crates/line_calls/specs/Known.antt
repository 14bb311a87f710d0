-- What is known of the calls of lines that are known.
use Rattle.std.specs.Prelude.{◌≡◌, ℕ, ◌<◌, ◌≤◌, Bool, true, false, List, []}
use Rattle.case_core.specs.declared.events.Event.{Event}
use Rattle.case_core.specs.declared.events.Event.TheVariants as event
use Rattle.file_facts.specs.Facts.{IsDeclared}
use Rattle.file_model.specs.{CaseCounts.cases_of_type, declared.files.CaseDecl.CaseDecl}
use Rattle.line_calls.specs.declared.calls.Call.{Call}
use Rattle.line_calls.specs.declared.calls.Call.TheVariants as call
use Rattle.line_calls.specs.declared.calls.Told.TheVariants as told
use Rattle.type_core.specs.declared.events.KindEvent.{KindEvent}
use Rattle.type_core.specs.declared.events.KindEvent.TheVariants as kind_event
use Rattle.wsm_lists.specs.declared.values.Value.{Value}

-- its type is one of so many, its case is one of these, and a case is created by a question to its own type
abbrev pub IsKnownCall : ℕ → List CaseDecl → Call → Type 0
IsKnownCall types cases (call.Kind t e) = t < types
IsKnownCall types cases (call.Case c e) = IsDeclared c cases
IsKnownCall types cases (call.Newest t (told.Create c)) = (t ≡ c.type_no) × IsDeclared c cases
IsKnownCall types cases (call.Newest t (told.Migrate many)) = (t < types) × (many ≤ cases_of_type t cases)

-- a case is told no version but one that its type has just answered, and a type nothing but operations
abbrev pub brings_version : Event → Bool
brings_version (event.Create version) = true
brings_version (event.Migrate version) = true
brings_version _ = false

abbrev pub is_install : KindEvent → Bool
is_install (kind_event.Install ops) = true
is_install _ = false

abbrev pub IsPlain : Call → Type 0
IsPlain (call.Kind t e) = is_install e ≡ true
IsPlain (call.Case c e) = brings_version e ≡ false
IsPlain (call.Newest t w) = Unit {0}

-- the values that an event of a case writes, and those that a call does
abbrev pub written : Event → List (ℕ × Value)
written (event.End node user choice writes) = writes
written _ = []

abbrev pub call_writes : Call → List (ℕ × Value)
call_writes (call.Case c e) = written e
call_writes _ = []
