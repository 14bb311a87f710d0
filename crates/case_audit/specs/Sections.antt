-- The cases of a report, each from a place on.
use Rattle.std.specs.Prelude.{◌≡◌, ℕ, ◌<◌, ◌≤◌, List, length, slice_get, Option, Some, Result, Ok}
use Rattle.audit_model.specs.{Common.{AllRows, Bytes, CaseDecl, ClosedCase, File, Followed, Follows, how_many}, Asked.{Asked, IsModest}, ReportReader.case_reader}
use Rattle.case_audit.specs.{Owing.{calls_decl, given, numbers, owed_of}, Verdicts.CanAudit, declared.owed.Owed.Owed, declared.sections.Section.Section}

-- what is asked of a script, and of what is owed: lines that are modest, and not too many
abbrev pub IsModestScript : List (List Asked) → Type 0
IsModestScript phases = AllRows (AllRows IsModest) phases × (how_many phases ≤ 60000)

abbrev pub IsModestOwed : Owed → Type 0
IsModestOwed o = IsModestScript (owed_of o)

abbrev pub AreModest : List Owed → Type 0
AreModest owed = AllRows IsModestOwed owed

-- from one place to another the case at an index is gone along, whichever script owes it this
abbrev pub IsCaseAt : File → List Owed → ℕ → Followed → Followed → Option ClosedCase → Type 0
IsCaseAt f owed i old new value = (phases : List (List Asked)) (d : CaseDecl) → numbers owed ≡ given calls_decl f.cases phases → slice_get f.cases i ≡ Some d → Follows (case_reader f phases d) old new value

-- so a section is, of this text
pub record IsSection (f : File) (owed : List Owed) (text : Bytes) (i : ℕ) (s : Section) : Type 0 where
  pub start : s.start ≤ length text
  pub end : s.end ≤ length text
  pub case : IsCaseAt f owed i (record { text = text; at = s.start }) (record { text = text; at = s.end }) s.case

-- one for each case, but where there was no memory
abbrev pub AreSections : {E : Type 0} → File → List Owed → Bytes → List (Result Section E) → Type 0
AreSections f owed text sections = (length sections ≡ length f.cases) × ((i : ℕ) (s : Section) → slice_get sections i ≡ Some (Ok s) → IsSection f owed text i s)

-- some script owes the cases this
abbrev pub HasScript : File → List Owed → Type 0
HasScript f owed = (phases : List (List Asked)) × (numbers owed ≡ given calls_decl f.cases phases)

-- what is owed to the cases of a file that can be judged: to each, modest lines of some script
pub record AreOwed (f : File) (owed : List Owed) : Type 0 where
  pub file : CanAudit f
  pub modest : AreModest owed
  pub many : length owed ≡ length f.cases
  pub script : HasScript f owed

-- what the judgement of a section asks for, where it is guessed from where each begins
abbrev pub CanJudge : File → List Owed → List ℕ → ℕ → Type 0
CanJudge f owed starts i = (i < length f.cases) × (i < length starts) × AreOwed f owed
