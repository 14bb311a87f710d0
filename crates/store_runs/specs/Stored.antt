-- The run that a store makes of a file's calls, and how it stands to the serial run.
use Rattle.std.specs.Prelude.{◌≡◌, ℕ, ◌+◌, List, [], ◌∷◌, slice_get, Some}
use Rattle.case_store.specs.Folding.{case_at, folded, place_of}
use Rattle.file_model.specs.{CaseCounts.cases_of_type, declared.files.CaseDecl.CaseDecl, declared.files.File.File, declared.files.TypeDecl.TypeDecl}
use Rattle.script_run.specs.declared.runs.Run.{Run}
use Rattle.store_calls.specs.Calls.{calls}

-- how many cases each type has, of types numbered from a number on
abbrev pub counts_from : ℕ → List TypeDecl → List CaseDecl → List ℕ
counts_from t [] ds = []
counts_from t (x ∷ xs) ds = cases_of_type t ds ∷ counts_from (t + 1) xs ds

abbrev pub case_counts : File → List ℕ
case_counts f = counts_from 0 f.types f.cases

-- what a store of these types and cases makes of the file's calls
abbrev pub stored_run : File → Run
stored_run f = folded (case_counts f) (calls f)

-- The types of two runs are the same, journals and all, and so is each declared case: in the one cases stand in order of
-- declaration, in the other by type and place.
pub record IsSameRun (starts : List ℕ) (ds : List CaseDecl) (run stored : Run) : Type 0 where
  pub kinds : stored.kinds ≡ run.kinds
  pub cases : (k : ℕ) (d : CaseDecl) → slice_get ds k ≡ Some d → case_at stored (place_of starts d.id) ≡ slice_get run.cases k
