-- The entries of a unit's calls.
use Rattle.std.specs.Prelude.{ℕ, ◌-◌, List, [], ◌++◌, length, take, flat_map, slice_get, Option, Some, None, codes}
use Rattle.case_places.specs.Places.{places_of}
use Rattle.file_words.specs.Lines.{Bytes}
use Rattle.file_model.specs.{declared.files.CaseDecl.CaseDecl, declared.files.File.File}
use Rattle.line_calls.specs.declared.calls.Cells.{Cells}
use Rattle.line_calls.specs.declared.calls.Cells.TheVariants as cells
use Rattle.report_text.specs.Journals.{case_line, kind_line}
use Rattle.report_words.specs.Words.{type_text}
use Rattle.script_run.specs.{Entries.{CaseEntry, KindEntry}, declared.runs.ClosedCase.ClosedCase, declared.runs.ClosedKind.ClosedKind}
use Rattle.unit_run.specs.Runs.{Placing}
use Rattle.wsm_sound.specs.declared.versions.CaseId.{CaseId}

-- the text of what is there
abbrev pub if_there : {X : Type 0} → (X → Bytes) → Option X → Bytes
if_there text None = []
if_there text (Some x) = text x

abbrev pub if_both : {X Y : Type 0} → (X → Y → Bytes) → Option X → Option Y → Bytes
if_both text None y = []
if_both text (Some x) None = []
if_both text (Some x) (Some y) = text x y

-- the last entry of a journal, with its place there
abbrev pub last_entry : {X : Type 0} → (ℕ → X → Bytes) → List X → Bytes
last_entry line journal = if_there (line (length journal)) (slice_get journal (length journal - 1))

-- an entry of a type and one of a case, each with its place in the journal, and the last one
abbrev pub kind_numbered : File → ℕ → ℕ → KindEntry → Bytes
kind_numbered f t n e = (codes "type " ++ type_text f t) ++ (codes " " ++ kind_line f n e)

abbrev pub case_numbered : File → CaseDecl → ℕ → CaseEntry → Bytes
case_numbered f d n e = codes "case " ++ (d.name ++ (codes " " ++ case_line f n e))

abbrev pub kind_entry : File → ℕ → ClosedKind → Bytes
kind_entry f t k = last_entry (kind_numbered f t) k.journal

abbrev pub case_entry : File → CaseDecl → ClosedCase → Bytes
case_entry f d c = last_entry (case_numbered f d) c.journal

-- of the type with a number, of the case that was declared at a place, and of the case with an id
abbrev pub entry_of_kind : File → Placing → ℕ → Bytes
entry_of_kind f p t = if_there (kind_entry f t) (slice_get p.run.kinds t)

abbrev pub entry_at : File → Placing → ℕ → Bytes
entry_at f p place = if_both (case_entry f) (slice_get f.cases place) (slice_get p.run.cases place)

abbrev pub entry_of_case : File → Placing → CaseId → Bytes
entry_of_case f p c = if_there (entry_at f p) (slice_get (places_of c.type_no p.placed.types) c.place)

abbrev pub entries_of_each : File → Placing → ℕ → ℕ → Bytes
entries_of_each f p t many = flat_map (entry_at f p) (take many (places_of t p.placed.types))

-- the last entries of the types and cases that a unit has called, in the order of its calls
abbrev pub entries : File → Placing → Cells → Bytes
entries f p (cells.Kind t) = entry_of_kind f p t
entries f p (cells.Case c) = entry_of_case f p c
entries f p (cells.KindAndCase t c) = entry_of_kind f p t ++ entry_of_case f p c
entries f p (cells.KindAndEach t many) = entry_of_kind f p t ++ entries_of_each f p t many
