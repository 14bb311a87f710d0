-- How many cases of each type a file declares.
use Rattle.std.specs.Prelude.{◌≡◌, ℕ, ◌<◌, List, length, Some, slice_get}
use Rattle.file_model.specs.{CaseCounts.cases_of_type, declared.files.File.File}

-- for each type of a file the number of its cases
pub record AreCounts (f : File) (counts : List ℕ) : Type 0 where
  pub types : length counts ≡ length f.types
  pub each : (t : ℕ) → t < length f.types → slice_get counts t ≡ Some (cases_of_type t f.cases)
