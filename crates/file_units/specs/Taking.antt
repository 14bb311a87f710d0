-- What is taken of a unit, and why it is not.
use Rattle.std.specs.Prelude.{◌≡◌, ℕ, ◌≤◌, Bool, false, [], ◌∷◌, ◌++◌, length, nat_lt, Option, Some, None, Result, Ok, Err, if◌then◌else◌}
use Rattle.file_model.specs.{Sizes.line_effort, declared.files.CaseDecl.CaseDecl, declared.files.Line.Line, declared.files.TypeDecl.TypeDecl, declared.refusals.FileRefusal.FileRefusal, declared.refusals.Refused.Refused}
use Rattle.file_model.specs.declared.states.Contents.{Contents}
use Rattle.file_model.specs.declared.refusals.FileRefusal.TheVariants as reader
use Rattle.file_facts.specs.Facts.{HasType}
use Rattle.file_units.specs.{Facts.{IsHeld, IsSmall}, Growing.{Grows, marks_of}, Units.{said_line, settled}, declared.held.Said.Said, declared.reading.Marks.Marks, declared.held.UnitRefusal.UnitRefusal}
use Rattle.file_units.specs.declared.held.Said.TheVariants as say
use Rattle.file_units.specs.declared.held.UnitRefusal.TheVariants as refusal

-- behind contents, others say a type more, a case more, a line, or nothing that is called
pub record SaysType (c d : Contents) : Type 0 where
  pub line : said_line d ≡ None
  pub one : TypeDecl
  pub types : d.types.items ≡ c.types.items ++ one ∷ []
  pub small : IsSmall one
  pub cases : d.cases.items ≡ c.cases.items

pub record SaysCase (c d : Contents) : Type 0 where
  pub line : said_line d ≡ None
  pub one : CaseDecl
  pub cases : d.cases.items ≡ c.cases.items ++ one ∷ []
  pub there : HasType (length c.types.items) one
  pub types : d.types.items ≡ c.types.items

-- what is said is this line of an actor, or none
pub record SaysLine (c d : Contents) (line : Option Line) : Type 0 where
  pub line_is : said_line d ≡ line
  pub types : d.types.items ≡ c.types.items
  pub cases : d.cases.items ≡ c.cases.items

abbrev pub SaysBehind : Contents → Contents → Said → Type 0
SaysBehind c d say.«Type» = SaysType c d
SaysBehind c d say.Case = SaysCase c d
SaysBehind c d (say.Line l) = SaysLine c d (Some l)
SaysBehind c d say.Other = SaysLine c d None

-- a unit was read and taken
pub record Says (c : Contents) (read : Result Contents Refused) (after : Contents) (said : Said) : Type 0 where
  pub behind : Contents
  pub is_read : read ≡ Ok behind
  pub settles : after ≡ settled behind
  pub says : SaysBehind c behind said

-- how much what is said asks of types and cases
abbrev pub said_effort : Said → ℕ
said_effort say.«Type» = 0
said_effort say.Case = 0
said_effort (say.Line l) = line_effort l
said_effort say.Other = 0

-- contents say something behind others, which asks for no more than so much
pub record SaysSome (most : ℕ) (c d : Contents) : Type 0 where
  pub one : Said
  pub says : SaysBehind c d one
  pub effort : said_effort one ≤ most

-- what contents say that have more than was named and declared at the marks
abbrev pub said_by : Option Line → Bool → Bool → Said
said_by (Some l) more_types more_cases = say.Line l
said_by None more_types more_cases = if more_types then say.«Type» else (if more_cases then say.Case else say.Other)

abbrev pub said_behind : Marks → Contents → Said
said_behind m d = said_by (said_line d) (nat_lt m.types (length d.types.items)) (nat_lt m.cases (length d.cases.items))

-- the reader refuses it so; want of memory may come at any unit
abbrev pub Tells : Result Contents Refused → FileRefusal → Type 0
Tells read (reader.Refused r) = read ≡ Err r
Tells read reader.NoMemory = Unit {0}

-- a refusal of the reader's is one of the unit
abbrev pub unit_refusal : FileRefusal → UnitRefusal
unit_refusal (reader.Refused r) = refusal.Refused r
unit_refusal reader.NoMemory = refusal.NoMemory

-- why it was not taken
abbrev pub Refuses : Bool → Result Contents Refused → UnitRefusal → Type 0
Refuses has_room read (refusal.Refused r) = read ≡ Err r
Refuses has_room read refusal.Full = (has_room ≡ false) × ((d : Contents) × (read ≡ Ok d))
Refuses has_room read refusal.NoMemory = Unit {0}

-- contents go on from others that were held, and the marks are those of such others
pub record GoesOn (c d : Contents) : Type 0 where
  pub held : IsHeld c
  pub grows : Grows c d

pub record IsBehind (m : Marks) (d : Contents) : Type 0 where
  pub before : Contents
  pub marks : m ≡ marks_of before
  pub goes_on : GoesOn before d
