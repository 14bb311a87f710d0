-- The process file of a header line and units.
use Rattle.std.specs.Prelude.{◌≡◌, ◌⊎◌, ℕ, ◌+◌, length, List, [], ◌∷◌, ◌++◌, flat_map, Result, Ok, Err, codes}
use Rattle.file_words.specs.Lines.{Bytes, lines_of}
use Rattle.file_model.specs.{declared.files.Act.Act, declared.files.File.File, declared.refusals.Refused.Refused, declared.states.Contents.Contents}
use Rattle.file_units.specs.Units.{behind_unit, no_units, settled, unit_read, units_read}
use Rattle.unit_files.specs.{Alike.IsSameRefusal, Same.{IsOfFile, deeds, deeds_in, rest_of}}

-- the bytes of the header line and of units
abbrev pub bytes_of : List Bytes → Bytes
bytes_of units = codes "adept 3\n" ++ flat_map (λ unit. unit) units

-- a unit ends with a line feed
abbrev pub IsWhole : Bytes → Type 0
IsWhole unit = (lines_of unit).left ≡ []

-- units that are whole, and accepted one behind another
abbrev pub Accepted : Contents → List Bytes → Type 0
Accepted c [] = Unit {0}
Accepted c (unit ∷ units) = IsWhole unit × ((d : Contents) × (unit_read c unit ≡ Ok d) × Accepted (settled d) units)

abbrev pub AreAccepted : List Bytes → Type 0
AreAccepted units = Accepted no_units units

-- who acts and how, by the lines of units
abbrev pub deeds_read : Result Contents Refused → List (ℕ × Act)
deeds_read (Err r) = []
deeds_read (Ok d) = deeds (rest_of d)

abbrev pub deeds_said : Contents → List Bytes → List (ℕ × Act)
deeds_said c [] = []
deeds_said c (unit ∷ units) = deeds_read (unit_read c unit) ++ deeds_said (behind_unit c unit) units

-- a file is what is held of units, with the lines that they said
pub record IsFileOf (units : List Bytes) (f : File) : Type 0 where
  pub format : f.format ≡ (units_read units).format
  pub nodes : f.nodes ≡ (units_read units).nodes
  pub elements : f.elements ≡ (units_read units).elements
  pub roles : f.roles ≡ (units_read units).roles
  pub types : f.types ≡ (units_read units).types.items
  pub actors : f.actors ≡ (units_read units).actors.items
  pub cases : f.cases ≡ (units_read units).cases.items
  pub deeds : deeds_in f.phases ≡ deeds_said no_units units

-- the reader's outcome is that file, unless a limit of files cuts it off
abbrev pub IsReadAs : List Bytes → Result File Refused → Type 0
IsReadAs units (Ok f) = IsFileOf units f
IsReadAs units (Err r) = IsOfFile r.why

-- the lines of units, and the number of the first line behind them
abbrev pub lines_in : List Bytes → List Bytes
lines_in units = flat_map (λ unit. (lines_of unit).ended) units

abbrev pub line_behind : List Bytes → ℕ
line_behind units = 2 + length (lines_in units)

-- the reader refuses a unit behind others as it was refused, told of the same of its lines, unless a limit of files cuts it off
abbrev pub IsRefusedAs : List Bytes → Bytes → Refused → Result File Refused → Type 0
IsRefusedAs units unit q (Ok f) = ⊥
IsRefusedAs units unit q (Err r) = IsOfFile r.why ⊎ IsSameRefusal (line_behind units) 0 (lines_of unit).ended r q
