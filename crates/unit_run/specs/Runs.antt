-- The run of a file that grows.
use Rattle.std.specs.Prelude.{◌≡◌, ℕ, List, [], ◌∷◌, ◌++◌, length, map}
use Rattle.case_places.specs.Places.{Placed}
use Rattle.file_facts.specs.Facts.{ArePlaced}
use Rattle.file_model.specs.{declared.files.CaseDecl.CaseDecl, declared.files.TypeDecl.TypeDecl}
use Rattle.script_run.specs.{Serial.{defined, uncalled}, declared.runs.Run.Run}

-- before the first type
abbrev pub no_run : Run
no_run = record { kinds = []; cases = [] }

-- with one more type, which the program defines, and with one more case
abbrev pub with_kind : TypeDecl → Run → Run
with_kind d r = record r { kinds = r.kinds ++ defined (length r.kinds) d ∷ [] }

abbrev pub with_case : CaseDecl → Run → Run
with_case d r = record r { cases = r.cases ++ uncalled d ∷ [] }

-- the types of cases
abbrev pub types_of : List CaseDecl → List ℕ
types_of ds = map (λ (d : CaseDecl). d.id.type_no) ds

-- a run at work, and where its cases were declared
pub record Placing : Type 0 where
  pub run : Run
  pub placed : Placed

-- it is a run of these cases
pub record IsOf (ds : List CaseDecl) (p : Placing) : Type 0 where
  pub types : p.placed.types ≡ types_of ds
  pub placed : ArePlaced ds
  pub many : length p.run.cases ≡ length ds
