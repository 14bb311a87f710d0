-- The text of a report.
use Rattle.std.specs.Prelude.{List, [], ◌∷◌, ◌++◌, codes, decimal}
use Rattle.file_words.specs.Lines.{Bytes}
use Rattle.file_model.specs.{declared.files.CaseDecl.CaseDecl, declared.files.File.File, declared.files.TypeDecl.TypeDecl}
use Rattle.report_text.specs.{Ends.end_text, Journals.{kind_line, case_line, numbered}}
use Rattle.report_words.specs.{Totals.{case_totals, migration_totals}, Words.type_text}
use Rattle.script_run.specs.{declared.runs.ClosedCase.ClosedCase, declared.runs.ClosedKind.ClosedKind, declared.runs.Run.Run}

-- what is written of declarations and their ends, side by side, as long as there are both
abbrev pub side_by_side : {D C : Type 0} → (D → C → Bytes) → List D → List C → Bytes
side_by_side part [] cs = []
side_by_side part (d ∷ ds) [] = []
side_by_side part (d ∷ ds) (c ∷ cs) = part d c ++ side_by_side part ds cs

-- a type and its calls
abbrev pub type_head : TypeDecl → Bytes
type_head d = codes "type " ++ (d.name ++ codes "\n")

abbrev pub kind_text : File → TypeDecl → ClosedKind → Bytes
kind_text f d k = type_head d ++ numbered (kind_line f) 1 k.journal

abbrev pub kinds_text : File → List TypeDecl → List ClosedKind → Bytes
kinds_text f types kinds = side_by_side (kind_text f) types kinds

-- a case, its calls, and how it ended
abbrev pub case_head : File → CaseDecl → Bytes
case_head f d = codes "case " ++ (d.name ++ ((codes " " ++ type_text f d.id.type_no) ++ codes "\n"))

abbrev pub case_text : File → CaseDecl → ClosedCase → Bytes
case_text f d c = case_head f d ++ (numbered (case_line f) 1 c.journal ++ end_text f c.machine.live)

abbrev pub cases_text : File → List CaseDecl → List ClosedCase → Bytes
cases_text f cases closed = side_by_side (case_text f) cases closed

-- the totals: the cases, and what became of their migrations
abbrev pub summary : File → Run → Bytes
summary f r = case_totals r.cases ++ migration_totals r.cases

-- the first line, which tells the format
abbrev pub first_line : File → Bytes
first_line f = codes "adept report " ++ (decimal f.format ++ codes "\n")

abbrev pub text : File → Run → Bytes
text f r = first_line f ++ (kinds_text f f.types r.kinds ++ (cases_text f f.cases r.cases ++ summary f r))
