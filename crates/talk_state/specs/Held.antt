-- What is held behind units: what was read of them, the run of their lines, and whom the last of them has called.
use Rattle.std.specs.Prelude.{List, length, drop, fold, nat_lt, Option, Some, None, Result, Ok, Err, if◌then◌else◌}
use Rattle.file_words.specs.Lines.{Bytes}
use Rattle.file_model.specs.{Reading.file_of, declared.files.File.File, declared.files.Line.Line, declared.refusals.Refused.Refused, declared.states.Contents.Contents}
use Rattle.file_units.specs.Units.{no_units, said_line, settled, unit_read}
use Rattle.line_calls.specs.{Calls.cells_of, declared.calls.Cells.Cells}
use Rattle.line_calls.specs.declared.calls.Cells.TheVariants as cells
use Rattle.script_run.specs.{Calls.worked, declared.runs.Run.Run}
use Rattle.unit_run.specs.Runs.{Placing, no_run, types_of, with_case, with_kind}

pub record Held : Type 0 where
  pub contents : Contents
  pub run : Run
  pub called : Option Cells

-- contents and a run
abbrev pub held_in : Contents → Run → Held
held_in c r = record { contents = c; run = r; called = None }

abbrev pub nothing_held : Held
nothing_held = held_in no_units no_run

-- the types and cases that others have more are there
abbrev pub declared_behind : Contents → Contents → Run → Run
declared_behind c d r =
    let kinds : Run = fold (λ q t. with_kind t q) r (drop (length c.types.items) d.types.items) in
    fold (λ q k. with_case k q) kinds (drop (length c.cases.items) d.cases.items)

-- and the line that was said is worked
abbrev pub line_worked : File → Option Line → Run → Run
line_worked f None r = r
line_worked f (Some l) r = worked f r l

abbrev pub run_behind : Contents → Contents → Run → Run
run_behind c d r = line_worked (file_of (settled d)) (said_line d) (declared_behind c d r)

-- whom a unit has called: those of its line, or the type that it has defined
abbrev pub called_by : Option Line → Contents → Contents → Option Cells
called_by (Some l) c d = Some (cells_of l.act)
called_by None c d = if nat_lt (length c.types.items) (length d.types.items) then Some (cells.Kind (length c.types.items)) else None

abbrev pub held_behind : Held → Contents → Held
held_behind h d = record { contents = settled d; run = run_behind h.contents d h.run; called = called_by (said_line d) h.contents d }

abbrev pub held_after : Held → Result Contents Refused → Held
held_after h (Err r) = h
held_after h (Ok d) = held_behind h d

abbrev pub with_unit : Held → Bytes → Held
with_unit h unit = held_after h (unit_read h.contents unit)

abbrev pub held_by : List Bytes → Held
held_by units = fold with_unit nothing_held units

-- the run, with the places of its cases
abbrev pub placed_in : Contents → Run → Placing
placed_in c r = record { run = r; placed = record { kinds = length r.kinds; types = types_of c.cases.items } }

abbrev pub placing_of : Held → Placing
placing_of h = placed_in h.contents h.run
