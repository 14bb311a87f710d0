-- What is answered to units and to questions.
use Rattle.std.specs.{Prelude.{ℕ, ◌+◌, ◌-◌, Bool, true, false, nat_le, List, [], ◌∷◌, ◌++◌, length, flat_map, slice_get, Option, Some, None, option_map, Result, Ok, Err, if◌then◌else◌, codes}, Result.is_ok}
use Rattle.file_words.specs.Lines.{Bytes}
use Rattle.file_names.specs.Names.{place_of}
use Rattle.file_model.specs.{Reading.file_of, Scripting.actor_in, declared.files.File.File, declared.files.Line.Line, declared.refusals.Refused.Refused, declared.states.Contents.Contents}
use Rattle.file_units.specs.{Taking.Refuses, Units.{said_line, unit_read}, declared.held.UnitRefusal.UnitRefusal}
use Rattle.line_calls.specs.{Calls.cells_of, declared.calls.Cells.Cells}
use Rattle.line_calls.specs.declared.calls.Cells.TheVariants as cells
use Rattle.report_text.specs.Report.{case_text, kind_text, text}
use Rattle.script_run.specs.declared.runs.Run.{Run}
use Rattle.talk_answers.specs.{Entries.{entries, if_both, if_there}, Lines.{no_line, ok_line, quoted}, Standings.{actors_text, all_standings, items, standings_of, types_text}}
use Rattle.talk_questions.specs.Questions as asked
use Rattle.talk_questions.specs.Trials as trials
use Rattle.talk_rules.specs.Units.{UnitRules, fits, header}
use Rattle.talk_state.specs.{Held.{Held, held_behind, held_by, placing_of}, declared.limits.TheConstants.MAX_ANSWER}
use Rattle.unit_run.specs.{Runs.Placing, Tries.was_installed}

-- ---- units

-- the reader takes a unit behind others
abbrev pub is_read : List Bytes → Bytes → Bool
is_read units unit = is_ok (unit_read (held_by units).contents unit)

-- why a unit behind others is not taken
abbrev pub RefusesUnit : List Bytes → Bytes → UnitRefusal → Type 0
RefusesUnit units unit refusal = Refuses (fits (header ∷ units) unit) (unit_read (held_by units).contents unit) refusal

-- the entries of the calls of the last unit
abbrev pub entries_of : File → Placing → Option Cells → Bytes
entries_of f p called = if_there (entries f p) called

abbrev pub called_text : Held → Bytes
called_text h = entries_of (file_of h.contents) (placing_of h) h.called

-- what is answered where so many units are held then
abbrev pub answer_read : Bool → ℕ → Held → Result Contents Refused → Bytes
answer_read fit n h (Err r) = no_line r.line r.text
answer_read true n h (Ok d) = called_text (held_behind h d) ++ ok_line n
answer_read false n h (Ok d) = codes "no full\n"

abbrev pub answer_told : ℕ → List Bytes → Bytes → Bytes
answer_told n units unit = let h = held_by units in answer_read (fits (header ∷ units) unit) n h (unit_read h.contents unit)

-- a unit that is read, and finds room, is one more
abbrev pub unit_answer : List Bytes → Bytes → Bytes
unit_answer units unit = answer_told (length units + 1) units unit

-- ---- questions

abbrev pub type_part : File → Run → ℕ → Bytes
type_part f r t = if_both (kind_text f) (slice_get f.types t) (slice_get r.kinds t)

abbrev pub case_part : File → Run → ℕ → Bytes
case_part f r place = if_both (case_text f) (slice_get f.cases place) (slice_get r.cases place)

-- the last of units, and its entries
abbrev pub last_text : List Bytes → Held → Bytes
last_text units h = if_there quoted (slice_get units (length units - 1)) ++ called_text h

-- the lines of an answer but for its last, unless a name was not declared
abbrev pub asked_text : List Bytes → Held → asked.Asked → Option Bytes
asked_text units h asked.report = Some (text (file_of h.contents) h.run)
asked_text units h (asked.of_type n) = option_map (type_part (file_of h.contents) h.run) (place_of h.contents.types.names n)
asked_text units h (asked.of_case n) = option_map (case_part (file_of h.contents) h.run) (place_of h.contents.cases.names n)
asked_text units h asked.cases = Some (all_standings (file_of h.contents) (placing_of h))
asked_text units h (asked.cases_of n) = option_map (standings_of (file_of h.contents) (placing_of h)) (place_of h.contents.types.names n)
asked_text units h asked.items = Some (items (file_of h.contents) None (placing_of h))
asked_text units h (asked.items_of n) = option_map (λ a. items (file_of h.contents) (Some a) (placing_of h)) (actor_in n h.contents)
asked_text units h asked.types = Some (types_text (file_of h.contents) (placing_of h))
asked_text units h asked.actors = Some (actors_text (file_of h.contents))
asked_text units h asked.count = Some []
asked_text units h asked.last = Some (last_text units h)
asked_text units h asked.lines = Some (quoted (flat_map (λ unit. unit) units))

-- an answer has at most so many bytes
abbrev pub within : Bytes → Bytes
within answer = if nat_le (length answer) MAX_ANSWER then answer else no_line 1 (codes "limit bytes")

abbrev pub answer_known : ℕ → Option Bytes → Bytes
answer_known n None = no_line 1 (codes "unknown")
answer_known n (Some lines) = within (lines ++ ok_line n)

abbrev pub answer_asked : List Bytes → Option asked.Asked → Bytes
answer_asked units None = no_line 1 (codes "form")
answer_asked units (Some q) = answer_known (length units) (asked_text units (held_by units) q)

-- ---- what is tried

-- what the answer to a unit would be, but for how many are held: it is not one of them
abbrev pub what_if : List Bytes → Bytes → Bytes
what_if units unit = within (answer_told (length units) units unit)

-- the entries that a unit would get, where it is read
abbrev pub entries_read : Held → Result Contents Refused → Bytes
entries_read h (Err r) = []
entries_read h (Ok d) = called_text (held_behind h d)

-- whether a line has made a new version: it calls a type alone, and that has answered so
abbrev pub kind_installed : Cells → Run → Bool
kind_installed (cells.Kind t) r = was_installed t r
kind_installed (cells.Case c) r = false
kind_installed (cells.KindAndCase t c) r = false
kind_installed (cells.KindAndEach t many) r = false

abbrev pub has_installed : Option Line → Run → Bool
has_installed None r = false
has_installed (Some l) r = kind_installed (cells_of l.act) r

-- and the entries that a migrate would get behind it
abbrev pub moved_text : Option Line → Held → (migrate : Bytes) → Bytes
moved_text l h migrate = if has_installed l h.run then entries_read h (unit_read h.contents migrate) else []

-- of an install, and where that is installed of the migrate behind it; a refusal is that of the install
abbrev pub answer_moved : ℕ → Held → (migrate : Bytes) → Result Contents Refused → Bytes
answer_moved n h migrate (Err r) = no_line r.line r.text
answer_moved n h migrate (Ok d) = let g = held_behind h d in called_text g ++ (moved_text (said_line d) g migrate ++ ok_line n)

abbrev pub move_answer : List Bytes → (install migrate : Bytes) → Bytes
move_answer units install migrate = let h = held_by units in within (answer_moved (length units) h migrate (unit_read h.contents install))

abbrev pub answer_tried : List Bytes → trials.Trial → Bytes
answer_tried units (trials.unit u) = what_if units u
answer_tried units (trials.move a t lines) = move_answer units (trials.install_unit a t lines) (trials.migrate_unit a t)
answer_tried units trials.no_form = no_line 1 (codes "form")
answer_tried units trials.no_text = no_line 1 (codes "not-text")

-- ---- both

abbrev pub line_answer : List Bytes → Bytes → Bytes
line_answer units line = answer_asked units (asked.question_in line)

abbrev pub answer_by : List Bytes → trials.Asking → Option trials.Trial → Bytes
answer_by units q None = line_answer units q.line
answer_by units q (Some t) = answer_tried units t

abbrev pub answer_asking : List Bytes → Option trials.Asking → Bytes
answer_asking units None = no_line 1 (codes "form")
answer_asking units (Some q) = answer_by units q (trials.trial q)

abbrev pub question_answer : List Bytes → Bytes → Bytes
question_answer units item = answer_asking units (trials.asking item)

-- ---- all of it

abbrev pub held_rules : UnitRules
held_rules = record { reads = is_read; answer = unit_answer; asked = question_answer; well = ok_line; refusal = no_line }
