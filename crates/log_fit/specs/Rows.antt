-- The cases of a log while its records are taken.
use Rattle.std.specs.Prelude.{ℕ, ◌≡◌, ◌+◌, ◌<◌, ◌≤◌, false, List, [], ◌∷◌, ◌++◌, length, map, nat_lt, bytes_eq, if◌then◌else◌}
use Rattle.file_names.specs.Names.{is_listed}
use Rattle.file_words.specs.Lines.{Bytes}
use Rattle.log_fit.specs.Progress.{ProgressModel, opened_row, reach}
use Rattle.log_records.specs.declared.records.LogRecord.{LogRecord}
use Rattle.wsm_sound.specs.VersionModel.{VersionModel}

-- the rows with one at a place, which is there or comes last
abbrev pub rows_with : VersionModel → List ProgressModel → ℕ → Bytes → List ProgressModel
rows_with v rows place name = if nat_lt place (length rows) then rows else rows ++ opened_row v name ∷ []

-- each case as it is behind a record more, which is an event of one of them
abbrev pub later : VersionModel → LogRecord → (Bytes → ProgressModel) → Bytes → ProgressModel
later v r row name = if bytes_eq r.case name then reach v (row name) r.event else row name

-- no name stands twice
abbrev pub AreApart : List Bytes → Type 0
AreApart [] = Unit {0}
AreApart (n ∷ ns) = (is_listed n ns ≡ false) × AreApart ns

-- the rows of cases with these names, each of which had fewer records than that; a case without a row was just created
pub record IsTable (v : VersionModel) (row : Bytes → ProgressModel) (most : ℕ) (names : List Bytes) (rows : List ProgressModel) : Type 0 where
  pub apart : AreApart names
  pub come : rows ≡ map row names
  pub fresh : (n : Bytes) → is_listed n names ≡ false → row n ≡ opened_row v n
  pub few : (n : Bytes) → (row n).events < most

-- so few that one more is counted
abbrev pub AreFew : VersionModel → List Bytes → List ProgressModel → Type 0
AreFew v names rows = (row : Bytes → ProgressModel) × (most : ℕ) × IsTable v row most names rows × (most ≤ 4000000000)

-- whatever the rows of a table were, a record more is an event of its own case
abbrev pub TakesRecord : VersionModel → LogRecord → List Bytes → List ProgressModel → List Bytes → List ProgressModel → Type 0
TakesRecord v r names rows names_then rows_then =
    (row : Bytes → ProgressModel) (most : ℕ) → IsTable v row most names rows → IsTable v (later v r row) (most + 1) names_then rows_then
