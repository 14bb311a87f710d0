-- The cells that an act names, and what work leaves of the others.
use Rattle.std.specs.Prelude.{◌≡◌, ℕ, Bool, false, List, slice_get}
use Rattle.adept_server.specs.Desks.{DeskView, case_pass}
use Rattle.line_calls.specs.Calls as line
use Rattle.line_calls.specs.declared.calls.Cells.{Cells}
use Rattle.file_model.specs.{declared.files.Act.Act, declared.files.Line.Line}
use Rattle.wsm_lists.specs.Rows.{AllRows}
use Rattle.wsm_sound.specs.declared.versions.CaseId.{CaseId}

-- whether the calls of an act go to that type, or to that case
abbrev pub names_kind : ℕ → Act → Bool
names_kind t x = line.has_kind t (line.cells_of x)

abbrev pub names_case : CaseId → Act → Bool
names_case c x = line.has_case c (line.cells_of x)

-- a desk has the passes of such types and cases still
pub record LeavesSuch (SuchKind : ℕ → Type 0) (SuchCase : CaseId → Type 0) (v w : DeskView) : Type 0 where
  pub kinds : (t : ℕ) → SuchKind t → slice_get w.kinds t ≡ slice_get v.kinds t
  pub cases : (c : CaseId) → SuchCase c → case_pass w c ≡ case_pass v c

-- those that are none of these cells
abbrev pub LeavesCells : Cells → DeskView → DeskView → Type 0
LeavesCells cells v w = LeavesSuch (λ t. line.has_kind t cells ≡ false) (λ c. line.has_case c cells ≡ false) v w

-- those that none of these lines names
abbrev pub IsUnnamedKind : List Line → ℕ → Type 0
IsUnnamedKind lines t = AllRows (λ l. names_kind t l.act ≡ false) lines

abbrev pub IsUnnamedCase : List Line → CaseId → Type 0
IsUnnamedCase lines c = AllRows (λ l. names_case c l.act ≡ false) lines

abbrev pub LeavesUnnamed : List Line → DeskView → DeskView → Type 0
LeavesUnnamed lines v w = LeavesSuch (IsUnnamedKind lines) (IsUnnamedCase lines) v w
