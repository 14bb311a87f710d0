-- Which cells were called, by their flags, and what two desks have seen of the others.
use Rattle.std.specs.Prelude.{◌≡◌, ℕ, Bool, false, List, length, Some, slice_get}
use Rattle.adept_server.specs.{Desks.{DeskView, at_case}, Vecs.lists_of, declared.call_flags.CallFlags.CallFlags, declared.servers.Server.Server}
use Rattle.turn_cell.specs.Passes.{PassView}
use Rattle.turn_rows.specs.Rows.{AreLevel, seen_of}
use Rattle.wsm_sound.specs.declared.versions.CaseId.{CaseId}

-- the flag of a type, or of a case, is lowered
abbrev pub IsCalmKind : CallFlags → ℕ → Type 0
IsCalmKind called t = slice_get called.kinds.items t ≡ Some false

abbrev pub IsCalmCase : CallFlags → CaseId → Type 0
IsCalmCase called c = at_case (lists_of called.cases.items) c ≡ Some false

-- for how many types there are flags of cases
abbrev pub rows_of : CallFlags → ℕ
rows_of called = length called.cases.items

-- the flags of a server
abbrev pub IsCalledOf : Server → CallFlags → Type 0
IsCalledOf s called = rows_of called ≡ length s.cases.items

-- no flag is lowered
abbrev pub NoneLowered : List (List Bool) → Type 0
NoneLowered rows = (c : CaseId) → at_case rows c ≡ Some false → ⊥

abbrev pub AllCalled : CallFlags → Type 0
AllCalled called = ((t : ℕ) → IsCalmKind called t → ⊥) × NoneLowered (lists_of called.cases.items)

-- of each case that was not called two desks have seen the same
abbrev pub AreLevelRows : {M E R W S : Type 0} → List (List Bool) → List (List (PassView M E R W S)) → List (List (PassView M E R W S)) → Type 0
AreLevelRows called vs ws = (c : CaseId) → at_case called c ≡ Some false → seen_of (at_case vs c) ≡ seen_of (at_case ws c)

-- and of each cell that was not
pub record AreLevelDesks (called : CallFlags) (v w : DeskView) : Type 0 where
  pub kinds : AreLevel called.kinds.items v.kinds w.kinds
  pub cases : AreLevelRows (lists_of called.cases.items) v.cases w.cases
