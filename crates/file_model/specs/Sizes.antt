-- How large a file that is read can be.
use Rattle.std.specs.{Prelude.{ℕ, ◌+◌, ◌*◌, ◌≡◌, ◌≤◌, ◌<◌, ◌^◌, Bool, true, List, length, nat_le}, List.{list_all, sum_by}}
use Rattle.file_limits.specs.declared.TheConstants.{MAX_TYPES}
use Rattle.file_model.specs.{declared.files.Act.Act, declared.files.File.File, declared.files.Line.Line, declared.files.TypeDecl.TypeDecl}
use Rattle.file_model.specs.declared.files.Act.TheVariants as act
use Rattle.wsm_schema.specs.Flat.{cards_of}

abbrev pub is_small : TypeDecl → Bool
is_small t = nat_le (length (cards_of t.schema)) 1024

-- how much a line asks of a type or a case at most: one, and three for each operation
abbrev pub act_effort : Act → ℕ
act_effort (act.Change c ops) = 3 * length ops
act_effort (act.Install t ops) = 3 * length ops
act_effort _ = 0

abbrev pub line_effort : Line → ℕ
line_effort l = 1 + act_effort l.act

abbrev pub phase_effort : List Line → ℕ
phase_effort lines = sum_by line_effort lines

abbrev pub effort : File → ℕ
effort f = sum_by phase_effort f.phases

-- what holds of each file that is read: 60,000 lines of at most 256 operations each are below the bound
pub record IsBounded (f : File) : Type 0 where
  pub types : length f.types ≤ MAX_TYPES
  pub small : list_all is_small f.types ≡ true
  pub effort : effort f ≤ 50000000

-- each node, each element and each named role has a number
pub record HasNumbers (f : File) : Type 0 where
  pub nodes : length f.nodes < 2 ^ 32
  pub elements : length f.elements < 2 ^ 32
  pub roles : length f.roles < 2 ^ 32
