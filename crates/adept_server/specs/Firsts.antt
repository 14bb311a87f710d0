-- The passes of a first desk.
use Rattle.std.specs.Prelude.{◌≡◌, ℕ, List, length, map, Some, slice_get}
use Rattle.adept_server.specs.Desks.{KindPass, CasePass, at_case}
use Rattle.case_core.specs.CaseModel.{not_created}
use Rattle.turn_cell.specs.Passes.{PassView, first_of}
use Rattle.type_core.specs.KindModel.{not_defined}
use Rattle.wsm_sound.specs.declared.versions.CaseId.{CaseId}

-- the first pass of a cell that opened with a state
abbrev pub IsFirst : {M E R W S : Type 0} → S → PassView M E R W S → Type 0
IsFirst s p = p ≡ first_of p.cell s

-- the first passes of so many types
pub record AreFirstKinds (count : ℕ) (ps : List KindPass) : Type 0 where
  pub many : length ps ≡ count
  pub each : (t : ℕ) (p : KindPass) → slice_get ps t ≡ Some p → IsFirst (not_defined t) p

-- the first passes of so many cases of a type
pub record AreFirstCases (type_no count : ℕ) (ps : List CasePass) : Type 0 where
  pub many : length ps ≡ count
  pub each : (i : ℕ) (p : CasePass) → slice_get ps i ≡ Some p → IsFirst (not_created type_no) p

-- the first passes of so many cases of each type
pub record AreFirstsOf (counts : List ℕ) (rows : List (List CasePass)) : Type 0 where
  pub many : map length rows ≡ counts
  pub each : (c : CaseId) (p : CasePass) → at_case rows c ≡ Some p → IsFirst (not_created c.type_no) p
