-- The entries of calls that are tried and not made.
use Rattle.std.specs.Prelude.{ℕ, take, flat_map, slice_get, Option, Some, None}
use Rattle.case_core.specs.declared.events.Event.{Event}
use Rattle.case_core.specs.declared.events.Event.TheVariants as event
use Rattle.case_places.specs.Places.{places_of}
use Rattle.file_model.specs.{declared.files.File.File, declared.files.Line.Line}
use Rattle.file_words.specs.Lines.{Bytes}
use Rattle.line_calls.specs.{Calls.{cells_in, cells_of}, declared.calls.Call.Call, declared.calls.Told.Told}
use Rattle.line_calls.specs.declared.calls.Told.TheVariants as told
use Rattle.script_run.specs.Calls.{call_case, call_kind, called, worked}
use Rattle.talk_answers.specs.Entries.{case_entry, entries, entries_of_each, entry_of_case, if_both, if_there, kind_entry}
use Rattle.type_core.specs.declared.events.KindEvent.{KindEvent}
use Rattle.unit_run.specs.Runs.{Placing}
use Rattle.wsm_sound.specs.{VersionModel.VersionModel, declared.versions.CaseId.CaseId}

-- what would be told of a line, and of a call: what is told of it where it was made
abbrev pub tried : File → Placing → Line → Bytes
tried f p l = entries f (record p { run = worked f p.run l }) (cells_of l.act)

abbrev pub call_tried : File → Placing → ℕ → Call → Bytes
call_tried f p caller c = entries f (record p { run = called f caller c p.run }) (cells_in c)

-- of one type, of the case that was declared at a place, of the case with an id, and of the first so many of a type
abbrev pub kind_tried : File → Placing → ℕ → KindEvent → ℕ → Bytes
kind_tried f p caller e t = if_there (λ k. kind_entry f t (call_kind caller e k)) (slice_get p.run.kinds t)

abbrev pub tried_at : File → Placing → ℕ → Event → ℕ → Bytes
tried_at f p caller e place = if_both (λ d c. case_entry f d (call_case caller e c)) (slice_get f.cases place) (slice_get p.run.cases place)

abbrev pub case_tried : File → Placing → ℕ → Event → CaseId → Bytes
case_tried f p caller e c = if_there (tried_at f p caller e) (slice_get (places_of c.type_no p.placed.types) c.place)

abbrev pub each_tried : File → Placing → ℕ → Event → ℕ → ℕ → Bytes
each_tried f p caller e t many = flat_map (tried_at f p caller e) (take many (places_of t p.placed.types))

-- of those who are told the version that a type has; where it has none nobody is called, and what was told last stands
abbrev pub told_tried : File → Placing → ℕ → ℕ → Told → Option VersionModel → Bytes
told_tried f p caller t (told.Create c) None = entry_of_case f p c
told_tried f p caller t (told.Create c) (Some v) = case_tried f p caller (event.Create v) c
told_tried f p caller t (told.Migrate many) None = entries_of_each f p t many
told_tried f p caller t (told.Migrate many) (Some v) = each_tried f p caller (event.Migrate v) t many
