-- What is put of a unit that is tried.
use Rattle.std.specs.Prelude.{◌≡◌, ℕ, ◌+◌, ◌*◌, ◌≤◌, ◌++◌, [], length, codes, if◌then◌else◌}
use Rattle.file_model.specs.{Reading.file_of, Room.HasRoom, Sizes.line_effort, declared.files.Line.Line, declared.states.Contents.Contents}
use Rattle.file_units.specs.{Units.unit_read, declared.held.Said.Said, declared.held.UnitRefusal.UnitRefusal}
use Rattle.file_units.specs.declared.held.Said.TheVariants as say
use Rattle.file_units.specs.declared.held.UnitRefusal.TheVariants as refusal
use Rattle.file_words.specs.Lines.{Bytes}
use Rattle.line_calls.specs.Calls.{cells_of}
use Rattle.line_calls.specs.declared.calls.Cells.TheVariants as cells
use Rattle.script_run.specs.{Calls.worked, Oldest.oldest}
use Rattle.talk_answers.specs.{Entries.entries, Lines.no_line}
use Rattle.talk_state.specs.{Answers.{entries_of, entries_read, kind_installed}, Held.{held_in, placed_in}, Working.{CanCall, CanWork, said_called, said_worked}}
use Rattle.unit_run.specs.{Runs.Placing, Tries.was_installed}

-- why a unit is not taken; of want of memory nothing is said
abbrev pub refusal_text : UnitRefusal → Bytes
refusal_text (refusal.Refused r) = no_line r.line r.text
refusal_text refusal.Full = codes "no full\n"
refusal_text refusal.NoMemory = []

-- the entries of what a unit says
abbrev pub said_text : Contents → Said → Placing → Bytes
said_text c said p = entries_of (file_of c) (said_worked (file_of c) said p) (said_called (file_of c) said)

-- of a line that has made a version those of a migrate behind it
abbrev pub line_behind : Contents → Line → Placing → Placing
line_behind c l p = record p { run = worked (file_of c) p.run l }

abbrev pub migrate_text : Contents → Line → (migrate : Bytes) → Placing → Bytes
migrate_text c l migrate p =
    let r = (line_behind c l p).run in
    if kind_installed (cells_of l.act) r then entries_read (held_in c r) (unit_read c migrate) else []

abbrev pub behind_text : Contents → Said → (migrate : Bytes) → Placing → Bytes
behind_text c say.«Type» migrate p = []
behind_text c say.Case migrate p = []
behind_text c (say.Line l) migrate p = migrate_text c l migrate p
behind_text c say.Other migrate p = []

abbrev pub moved_said : Contents → Said → (migrate : Bytes) → Placing → Bytes
moved_said c said migrate p = said_text c said p ++ behind_text c said migrate p

-- of a type that was called, and where that has made a version those of a migrate behind it
abbrev pub made_text : Contents → ℕ → (migrate : Bytes) → Placing → Bytes
made_text c t migrate q = entries (file_of c) q (cells.Kind t) ++ (if was_installed t q.run then entries_read (held_in c q.run) (unit_read c migrate) else [])

-- what that needs: the line can be called, and behind it a unit of so many bytes can be tried
pub record CanInstall (n : ℕ) (c : Contents) (l : Line) (p : Placing) : Type 0 where
  pub call : CanCall (file_of c) l p
  pub placing : p ≡ placed_in c p.run
  pub kinds : length p.run.kinds ≡ length c.types.items
  pub cases : length p.run.cases ≡ length c.cases.items
  pub room : HasRoom (n + 6) c
  pub age : oldest p.run.cases + (line_effort l + 2 * n) ≤ 4000000000

abbrev pub CanMove : ℕ → Contents → Said → Placing → Type 0
CanMove n c say.«Type» p = CanWork (file_of c) say.«Type» p
CanMove n c say.Case p = CanWork (file_of c) say.Case p
CanMove n c (say.Line l) p = CanInstall n c l p
CanMove n c say.Other p = CanWork (file_of c) say.Other p
