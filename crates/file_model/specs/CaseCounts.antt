-- Cases by their ids and their types.
use Rattle.std.specs.Prelude.{ℕ, Bool, ◌&&◌, nat_lt, List, ◌≡◌, ◌==◌, count_by, slice_index}
use Rattle.wsm_sound.specs.declared.versions.CaseId.{CaseId}
use Rattle.file_model.specs.declared.files.CaseDecl.{CaseDecl}

-- whether a case was declared with an id
abbrev pub has_id : CaseId → CaseDecl → Bool
has_id c d = d.id.type_no == c.type_no && d.id.place == c.place

-- whether a case is one of the first so many of a type
abbrev pub is_among : ℕ → ℕ → CaseDecl → Bool
is_among t many d = d.id.type_no == t && nat_lt d.id.place many

-- how many cases of a type were declared
abbrev pub cases_of_type : ℕ → List CaseDecl → ℕ
cases_of_type t ds = count_by (λ d. d.id.type_no == t) ds

-- the counts of types by their numbers: a type past their end has no case
abbrev pub AreCounted : List ℕ → List CaseDecl → Type 0
AreCounted counts ds = (t : ℕ) → cases_of_type t ds ≡ slice_index counts t
