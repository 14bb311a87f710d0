-- An index of the places at which cases were declared.
use Rattle.std.specs.{Prelude.{◌≡◌, ℕ, Bool, ◌&&◌, ◌==◌, List, position}, Map.lookup}
use Rattle.file_model.specs.{declared.files.CaseDecl.CaseDecl, CaseCounts.has_id}
use Rattle.wsm_sound.specs.declared.versions.CaseId.{CaseId}

-- a case is found by its type and its place among the cases of the type
abbrev pub is_key : CaseId → ℕ × ℕ → Bool
is_key c k = c.type_no == k.0 && c.place == k.1

abbrev pub Indexes : List ((ℕ × ℕ) × ℕ) → List CaseDecl → Type 0
Indexes entries ds = (c : CaseId) → lookup (is_key c) entries ≡ position (has_id c) ds
