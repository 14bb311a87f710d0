-- What a unit says, worked.
use Rattle.std.specs.Prelude.{◌≡◌, ℕ, ◌+◌, ◌-◌, ◌*◌, ◌<◌, ◌≤◌, ◌^◌, List, [], ◌∷◌, ◌++◌, length, slice_get, Option, Some, None, option_map}
use Rattle.file_model.specs.{Room.HasRoom, Sizes.line_effort, declared.files.CaseDecl.CaseDecl, declared.files.File.File, declared.files.Line.Line, declared.files.TypeDecl.TypeDecl, declared.states.Contents.Contents}
use Rattle.file_units.specs.{Facts.IsSmall, declared.held.Said.Said}
use Rattle.file_units.specs.declared.held.Said.TheVariants as say
use Rattle.line_calls.specs.{Calls.cells_of, declared.calls.Cells.Cells}
use Rattle.line_calls.specs.declared.calls.Cells.TheVariants as cells
use Rattle.script_run.specs.{Calls.worked, Oldest.oldest}
use Rattle.talk_state.specs.Held.{placed_in}
use Rattle.unit_run.specs.Runs.{IsOf, Placing, with_case, with_kind}

abbrev pub last_of : {A : Type 0} → List A → Option A
last_of xs = slice_get xs (length xs - 1)

-- with one more type, and with one more case
abbrev pub kind_placed : TypeDecl → Placing → Placing
kind_placed d p = record { run = with_kind d p.run; placed = record p.placed { kinds = p.placed.kinds + 1 } }

abbrev pub case_placed : CaseDecl → Placing → Placing
case_placed d p = record { run = with_case d p.run; placed = record p.placed { types = p.placed.types ++ d.id.type_no ∷ [] } }

abbrev pub with_last : {A : Type 0} → (A → Placing → Placing) → Option A → Placing → Placing
with_last add None p = p
with_last add (Some d) p = add d p

-- the last type is defined, the last case is there, or the line is worked
abbrev pub said_worked : File → Said → Placing → Placing
said_worked f say.«Type» p = with_last kind_placed (last_of f.types) p
said_worked f say.Case p = with_last case_placed (last_of f.cases) p
said_worked f (say.Line l) p = record p { run = worked f p.run l }
said_worked f say.Other p = p

-- whom it calls
abbrev pub said_called : File → Said → Option Cells
said_called f say.«Type» = option_map (λ d. cells.Kind (length f.types - 1)) (last_of f.types)
said_called f say.Case = None
said_called f (say.Line l) = Some (cells_of l.act)
said_called f say.Other = None

-- what it needs: a type that is small, a case of a type that is there, or cases that are not too old
pub record CanDefine (f : File) (p : Placing) : Type 0 where
  pub one : TypeDecl
  pub last : last_of f.types ≡ Some one
  pub small : IsSmall one
  pub even : p.placed.kinds ≡ length p.run.kinds
  pub next : length f.types ≡ length p.run.kinds + 1
  pub few : length f.types < 2 ^ 32
  pub room : length p.run.kinds + 1 < 2 ^ 32

pub record CanDeclare (f : File) (p : Placing) : Type 0 where
  pub one : CaseDecl
  pub last : last_of f.cases ≡ Some one
  pub there : one.id.type_no < p.placed.kinds
  pub room : length p.placed.types + 1 < 2 ^ 32

pub record CanCall (f : File) (l : Line) (p : Placing) : Type 0 where
  pub of : IsOf f.cases p
  pub age : oldest p.run.cases + line_effort l ≤ 4000000000

abbrev pub CanWork : File → Said → Placing → Type 0
CanWork f say.«Type» p = CanDefine f p
CanWork f say.Case p = CanDeclare f p
CanWork f (say.Line l) p = CanCall f l p
CanWork f say.Other p = Unit {0}

-- what a unit of so many bytes needs that is tried: the run is that of what was declared, there are numbers for names, and no
-- case is too old
pub record CanTry (n : ℕ) (c : Contents) (p : Placing) : Type 0 where
  pub placing : p ≡ placed_in c p.run
  pub kinds : length p.run.kinds ≡ length c.types.items
  pub cases : length p.run.cases ≡ length c.cases.items
  pub room : HasRoom (n + 6) c
  pub age : oldest p.run.cases + 2 * n ≤ 4000000000
