-- A file that grows by units: the lines of a unit are read one after another, all of them or none.
use Rattle.std.specs.{Prelude.{◌≡◌, ℕ, ◌+◌, ◌-◌, nat_lt, Bool, false, not, List, [], ◌∷◌, length, map, fold, slice_get, Option, None, Result, Ok, Err, if◌then◌else◌}, List.filter}
use Rattle.file_words.specs.{Lines.{Bytes, lines_of, without_return}, Words.{is_skipped, words_of}}
use Rattle.file_model.specs.{Reading.{at_line, step_in}, Steps.{State, Step, no_contents, open_lines, outside, refuse}, declared.files.Line.Line, declared.refusals.Refused.Refused, declared.refusals.Why.Why}
use Rattle.file_model.specs.{declared.states.Contents.Contents, declared.states.Limits.Limits, declared.states.Section.Section}
use Rattle.file_model.specs.declared.refusals.Why.TheVariants as why
use Rattle.file_model.specs.declared.states.Section.TheVariants as section
use Rattle.file_units.specs.declared.limits.TheConstants.{MAX_HELD_ACTORS, MAX_HELD_CASES, MAX_HELD_TYPES}

-- before its first unit the file has a header line of format 3 alone
abbrev pub held_limits : Limits
held_limits = record { types = MAX_HELD_TYPES; actors = MAX_HELD_ACTORS; cases = MAX_HELD_CASES; migrations = MAX_HELD_CASES }

abbrev pub no_units : Contents
no_units = record no_contents { limits = held_limits; format = 3 }

-- between two units no phase is open, and nothing is counted
abbrev pub settled : Contents → Contents
settled c = record c { phases = []; current = None; counts = record { lines = 0; installs = 0; migrations = 0 } }

abbrev pub IsSettled : Contents → Type 0
IsSettled c = c ≡ settled c

-- ---- the lines of a unit

-- those that say something
abbrev pub says : Bytes → Bool
says line = not (is_skipped (words_of line))

abbrev pub said : Bytes → List Bytes
said unit = filter says (map without_return (lines_of unit).ended)

-- a unit is one line, or a type or a group to its end: so it has ended where some lines stand before, and no type or group is open
abbrev pub has_ended : ℕ → Section → Bool
has_ended k section.Outside = nat_lt 0 k
has_ended k _ = false

-- a line of a unit behind so many others; behind the end of the unit it has no form
abbrev pub unit_step : ℕ → Section → Bytes → List Bytes → Contents → Step
unit_step k place line ws c = if has_ended k place then refuse c why.Form else step_in place (k + 1) line ws c

-- a unit ends outside of types and groups
abbrev pub unit_end : Section → Contents → Result Contents (Why × Contents)
unit_end section.Outside c = Ok c
unit_end _ c = Err (why.Unended, c)

-- the lines behind so many others, one after another, to the end of the unit
abbrev pub lines_read : Result State Refused → ℕ → List Bytes → Result Contents Refused
lines_read (Err r) k ls = Err r
lines_read (Ok s) k [] = at_line k (unit_end s.place s.contents)
lines_read (Ok s) k (l ∷ ls) = lines_read (at_line (k + 1) (unit_step k s.place l (words_of l) s.contents)) (k + 1) ls

-- what a unit makes of what was read before, or why it is refused, and in which of its lines that say something
abbrev pub unit_read : Contents → Bytes → Result Contents Refused
unit_read c unit = lines_read (Ok (outside c)) 0 (said unit)

-- what is read so far behind it
abbrev pub behind_read : Contents → Result Contents Refused → Contents
behind_read c (Err r) = c
behind_read c (Ok d) = settled d

abbrev pub behind_unit : Contents → Bytes → Contents
behind_unit c unit = behind_read c (unit_read c unit)

-- what is read of units one after another
abbrev pub units_read : List Bytes → Contents
units_read units = fold behind_unit no_units units

-- the line of an actor that a unit has said
abbrev pub last_line : List Line → Option Line
last_line lines = slice_get lines (length lines - 1)

abbrev pub said_line : Contents → Option Line
said_line d = last_line (open_lines d.current)
