-- What holds of each file that is read, for those who work its lines.
use Rattle.std.specs.{Prelude.{ℕ, ◌≡◌, ◌≤◌, ◌<◌, ◌==◌, true, false, List, length, take, slice_get, Some, None}, List.{list_all, list_any, sum_by}}
use Rattle.wsm_lists.specs.Rows.{AllRows}
use Rattle.wsm_sound.specs.{Faults.fault_of, declared.versions.CaseId.CaseId}
use Rattle.file_limits.specs.declared.TheConstants.{MAX_ACTORS, MAX_CASES, MAX_LINES, MAX_OPS, MAX_TYPES}
use Rattle.file_model.specs.{CaseCounts.{cases_of_type, has_id}, Sizes.is_small, declared.files.Act.Act, declared.files.CaseDecl.CaseDecl, declared.files.File.File, declared.files.Line.Line, declared.files.TypeDecl.TypeDecl}
use Rattle.file_model.specs.declared.files.Act.TheVariants as act

-- how many script lines there are in all phases
abbrev pub lines_in : List (List Line) → ℕ
lines_in phases = sum_by (λ lines. length lines) phases

abbrev pub IsSound : TypeDecl → Type 0
IsSound t = fault_of t.schema ≡ None

-- the type of a case is one of so many
abbrev pub HasType : ℕ → CaseDecl → Type 0
HasType types d = d.id.type_no < types

-- each case has the place that counts the cases of its type before it
abbrev pub ArePlaced : List CaseDecl → Type 0
ArePlaced cases = (k : ℕ) (d : CaseDecl) → slice_get cases k ≡ Some d → d.id.place ≡ cases_of_type d.id.type_no (take k cases)

abbrev pub IsDeclared : CaseId → List CaseDecl → Type 0
IsDeclared c cases = list_any (has_id c) cases ≡ true

-- the case or the type of an act was declared, its operations are not too many, and so many cases to be moved are there
abbrev pub IsKnownAct : ℕ → List CaseDecl → Act → Type 0
IsKnownAct types cases (act.Create c) = IsDeclared c cases
IsKnownAct types cases (act.Start c node) = IsDeclared c cases
IsKnownAct types cases (act.Withdraw c node) = IsDeclared c cases
IsKnownAct types cases (act.End c node choice writes) = IsDeclared c cases
IsKnownAct types cases (act.Change c ops) = IsDeclared c cases × (length ops ≤ MAX_OPS)
IsKnownAct types cases (act.Install t ops) = (t < types) × (length ops ≤ MAX_OPS)
IsKnownAct types cases (act.Migrate t many) = (t < types) × (many ≤ cases_of_type t cases)

-- a line of one of so many actors, on what was declared
pub record IsKnown (types actors : ℕ) (cases : List CaseDecl) (l : Line) : Type 0 where
  pub from_1 : 1 ≤ l.actor
  pub actor : l.actor ≤ actors
  pub act : IsKnownAct types cases l.act

-- what those who work a file need of it
pub record IsWorkable (f : File) : Type 0 where
  pub types : length f.types ≤ MAX_TYPES
  pub actors : length f.actors ≤ MAX_ACTORS
  pub cases : length f.cases ≤ MAX_CASES
  pub lines : lines_in f.phases ≤ MAX_LINES
  pub small : list_all is_small f.types ≡ true
  pub sound : AllRows IsSound f.types
  pub typed : AllRows (HasType (length f.types)) f.cases
  pub placed : ArePlaced f.cases
  pub known : AllRows (AllRows (IsKnown (length f.types) (length f.actors) f.cases)) f.phases

-- a migrate that calls all cases of its type
abbrev pub MovesAll : List CaseDecl → Act → Type 0
MovesAll cases (act.Migrate t many) = many ≡ cases_of_type t cases
MovesAll cases _ = Unit {0}

abbrev pub LinesMoveAll : List CaseDecl → List Line → Type 0
LinesMoveAll cases lines = AllRows (λ (l : Line). MovesAll cases l.act) lines

-- in a file of format 1 or 2 each migrate is one
abbrev pub MigratesAll : File → Type 0
MigratesAll f = (f.format == 3) ≡ false → AllRows (LinesMoveAll f.cases) f.phases
