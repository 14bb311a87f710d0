-- The calls that script lines stand for.
use Rattle.std.specs.Prelude.{◌≡◌, ℕ, ◌+◌, ◌≤◌, ◌==◌, ◌⊎◌, List, [], ◌∷◌, ◌++◌, length, filter, Option, Some, None, if◌then◌else◌}
use Rattle.case_core.specs.{declared.events.Event.Event, declared.replies.Reply.Reply}
use Rattle.case_core.specs.declared.events.Event.TheVariants as event
use Rattle.file_model.specs.{declared.files.Act.Act, declared.files.Line.Line}
use Rattle.line_calls.specs.Calls.{call_of, is_case}
use Rattle.line_calls.specs.declared.calls.Call as line
use Rattle.line_calls.specs.declared.calls.Call.TheVariants as call
use Rattle.line_calls.specs.declared.calls.Told.TheVariants as tell
use Rattle.script_run.specs.Entries.{CaseEntry, KindEntry}
use Rattle.turn_cell.specs.History.{entry}
use Rattle.type_core.specs.declared.events.KindEvent.TheVariants as kind_event
use Rattle.type_core.specs.declared.replies.KindReply.{KindReply}
use Rattle.type_core.specs.declared.replies.KindReply.TheVariants as kind_reply
use Rattle.wsm_sound.specs.{VersionModel.VersionModel, declared.versions.CaseId.CaseId}

-- a call with its reply: of the type with that number, or of that case
pub data Call : Type 0 where
  of_kind : (type_no : ℕ) → KindEntry → Call
  of_case : (id : CaseId) → CaseEntry → Call

-- the calls of one type, in order
abbrev pub calls_of_kind : ℕ → List Call → List KindEntry
calls_of_kind t [] = []
calls_of_kind t (of_kind u e ∷ calls) = if u == t then e ∷ calls_of_kind t calls else calls_of_kind t calls
calls_of_kind t (of_case c e ∷ calls) = calls_of_kind t calls

-- the calls of one case, in order
abbrev pub calls_of_case : CaseId → List Call → List CaseEntry
calls_of_case c [] = []
calls_of_case c (of_kind u e ∷ calls) = calls_of_case c calls
calls_of_case c (of_case d e ∷ calls) = if is_case c d then e ∷ calls_of_case c calls else calls_of_case c calls

-- an actor asked a type for its newest version, and was told this one
abbrev pub asked : ℕ → ℕ → VersionModel → Call
asked a t v = of_kind t (entry a kind_event.Newest (kind_reply.Is v))

-- an actor told a case an event, and was given this reply
abbrev pub told : ℕ → CaseId → Event → Reply → Call
told a c e r = of_case c (entry a e r)

-- an event told to cases of a type one after another, from a place on
abbrev pub told_each : ℕ → ℕ → Event → ℕ → List Reply → List Call
told_each a t e place [] = []
told_each a t e place (r ∷ rs) = told a (record { type_no = t; place = place }) e r ∷ told_each a t e (place + 1) rs

-- the same, of those cases that answered
abbrev pub told_some : ℕ → ℕ → Event → ℕ → List (Option Reply) → List Call
told_some a t e place [] = []
told_some a t e place (None ∷ answers) = told_some a t e (place + 1) answers
told_some a t e place (Some r ∷ answers) = told a (record { type_no = t; place = place }) e r ∷ told_some a t e (place + 1) answers

-- entries that a call of an actor may have made
module _ (a : ℕ) where
  abbrev pub AreOf : line.Call → List Call → Type 0
  AreOf (call.Kind t e) calls = (r : KindReply) × (calls ≡ of_kind t (entry a e r) ∷ [])
  AreOf (call.Case c e) calls = (r : Reply) × (calls ≡ told a c e r ∷ [])
  AreOf (call.Newest t (tell.Create c)) calls = (v : VersionModel) × (r : Reply) × (calls ≡ asked a t v ∷ told a c (event.Create v) r ∷ [])
  AreOf (call.Newest t (tell.Migrate many)) calls = (v : VersionModel) × (rs : List Reply) × (length rs ≡ many) × (calls ≡ asked a t v ∷ told_each a t (event.Migrate v) 0 rs)

  -- What it has done where it met a fault: nothing, or the first of its two calls; of a migration also the calls of some cases.
  abbrev pub ArePart : line.Call → List Call → Type 0
  ArePart (call.Newest t (tell.Create c)) calls = (calls ≡ []) ⊎ ((v : VersionModel) × (calls ≡ asked a t v ∷ []))
  ArePart (call.Newest t (tell.Migrate many)) calls = (calls ≡ []) ⊎ ((v : VersionModel) × (answers : List (Option Reply)) × (length answers ≤ many) × (calls ≡ asked a t v ∷ told_some a t (event.Migrate v) 0 answers))
  ArePart _ calls = calls ≡ []

-- for an actor with these roles
module _ (roles : List ℕ) (a : ℕ) where
  -- the calls of a line, and what a line has done that met a fault
  abbrev pub AreCallsOf : Act → List Call → Type 0
  AreCallsOf x calls = AreOf a (call_of a roles x) calls

  abbrev pub ArePartOf : Act → List Call → Type 0
  ArePartOf x calls = ArePart a (call_of a roles x) calls

  -- the calls of lines, one line after another
  abbrev pub AreCallsOfLines : List Line → List Call → Type 0
  AreCallsOfLines [] calls = calls ≡ []
  AreCallsOfLines (l ∷ ls) calls = (first : List Call) × (rest : List Call) × (calls ≡ first ++ rest) × AreCallsOf l.act first × AreCallsOfLines ls rest

  -- the calls of lines up to one that met a fault
  abbrev pub AreBegun : List Line → List Call → Type 0
  AreBegun [] calls = ⊥
  AreBegun (l ∷ ls) calls = ArePartOf l.act calls ⊎ ((first : List Call) × (rest : List Call) × (calls ≡ first ++ rest) × AreCallsOf l.act first × AreBegun ls rest)

-- the lines of an actor
abbrev pub lines_of : ℕ → List Line → List Line
lines_of a lines = filter (λ l. l.actor == a) lines
