-- What holds of each file that is read, for those who judge its reports.
use Rattle.std.specs.Prelude.{◌≡◌, ℕ, true, List, slice_get, Some}
use Rattle.wsm_lists.specs.{Rows.AllRows, declared.values.Value.Value}
use Rattle.wsm_lists.specs.declared.values.Value.TheVariants as value
use Rattle.file_words.specs.{Lines.Bytes, Names.is_name}
use Rattle.file_model.specs.{Written.act_writes, declared.files.Act.Act, declared.files.ActorDecl.ActorDecl, declared.files.File.File, declared.files.Line.Line}
use Rattle.line_readers.specs.Readers.{IsOneLine}

abbrev pub IsName : Bytes → Type 0
IsName n = is_name n ≡ true

abbrev pub IsNamed : ActorDecl → Type 0
IsNamed d = IsName d.name

-- no two actors have the same name
abbrev pub AreApart : List ActorDecl → Type 0
AreApart actors = (i j : ℕ) (d e : ActorDecl) → slice_get actors i ≡ Some d → slice_get actors j ≡ Some e → d.name ≡ e.name → i ≡ j

-- a value is shown in one line
abbrev pub IsOneLineValue : Value → Type 0
IsOneLineValue (value.Int n) = Unit {0}
IsOneLineValue (value.Text t) = IsOneLine t

abbrev pub IsOneLineWrite : ℕ × Value → Type 0
IsOneLineWrite w = IsOneLineValue w.1

-- so is each value that a line writes
abbrev pub HasOneLineWrites : Act → Type 0
HasOneLineWrites x = AllRows IsOneLineWrite (act_writes x)

abbrev pub WritesOneLine : Line → Type 0
WritesOneLine l = HasOneLineWrites l.act

-- what those who judge reports need of a file
pub record IsAuditable (f : File) : Type 0 where
  pub nodes : AllRows IsName f.nodes
  pub elements : AllRows IsName f.elements
  pub roles : AllRows IsName f.roles
  pub actors : AllRows IsNamed f.actors
  pub apart : AreApart f.actors
  pub writes : AllRows (AllRows WritesOneLine) f.phases
