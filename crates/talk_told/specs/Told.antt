-- The entries that the journals of one run have more than those of another.
use Rattle.std.specs.Prelude.{ℕ, ◌+◌, ◌<◌, List, [], ◌∷◌, ◌++◌, length, drop, codes}
use Rattle.wsm_lists.specs.Rows.{AllRows}
use Rattle.file_words.specs.Lines.{Bytes}
use Rattle.file_facts.specs.Facts.{HasType}
use Rattle.file_model.specs.{declared.files.CaseDecl.CaseDecl, declared.files.File.File}
use Rattle.report_text.specs.Journals.{case_line, kind_line, numbered}
use Rattle.report_words.specs.Words.{type_text}
use Rattle.script_run.specs.{declared.runs.ClosedCase.ClosedCase, declared.runs.ClosedKind.ClosedKind, declared.runs.Run.Run}
use Rattle.unit_run.specs.Runs.{IsOf, Placing}

-- of a journal: each behind the name of its type or case, and with its place
abbrev pub entries_more : {X : Type 0} → Bytes → (ℕ → X → Bytes) → (before after : List X) → Bytes
entries_more name line before after = numbered (λ n e. name ++ line n e) (length before + 1) (drop (length before) after)

abbrev pub kind_name : File → ℕ → Bytes
kind_name f t = codes "type " ++ (type_text f t ++ codes " ")

abbrev pub case_name : CaseDecl → Bytes
case_name d = codes "case " ++ (d.name ++ codes " ")

abbrev pub kind_more : File → ℕ → (before after : ClosedKind) → Bytes
kind_more f t k l = entries_more (kind_name f t) (kind_line f) k.journal l.journal

abbrev pub case_more : File → CaseDecl → (before after : ClosedCase) → Bytes
case_more f d b c = entries_more (case_name d) (case_line f) b.journal c.journal

-- of types and of cases in order of declaration; those that are new have all of theirs
abbrev pub kinds_more : File → ℕ → (before after : List ClosedKind) → Bytes
kinds_more f t ks [] = []
kinds_more f t [] (l ∷ ls) = entries_more (kind_name f t) (kind_line f) [] l.journal ++ kinds_more f (t + 1) [] ls
kinds_more f t (k ∷ ks) (l ∷ ls) = kind_more f t k l ++ kinds_more f (t + 1) ks ls

abbrev pub cases_more : File → List CaseDecl → (before after : List ClosedCase) → Bytes
cases_more f ds bs [] = []
cases_more f [] bs (c ∷ cs) = []
cases_more f (d ∷ ds) [] (c ∷ cs) = entries_more (case_name d) (case_line f) [] c.journal ++ cases_more f ds [] cs
cases_more f (d ∷ ds) (b ∷ bs) (c ∷ cs) = case_more f d b c ++ cases_more f ds bs cs

-- A unit calls at most one type, and behind it cases in order of declaration: so what it is answered is this, in the order
-- of its calls.
abbrev pub run_more : File → (before after : Run) → Bytes
run_more f r s = kinds_more f 0 r.kinds s.kinds ++ cases_more f f.cases r.cases s.cases

-- a type that is defined has a version
abbrev pub HasVersion : ClosedKind → Type 0
HasVersion k = 0 < length k.machine.versions

-- a run at work of a file: its cases are where they were declared, each of a type that is there, and all types are defined
pub record IsAtWork (f : File) (p : Placing) : Type 0 where
  pub of : IsOf f.cases p
  pub typed : AllRows (HasType (length p.run.kinds)) f.cases
  pub versions : AllRows HasVersion p.run.kinds
