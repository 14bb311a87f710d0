-- A process type as contracts see it.
use Rattle.std.specs.{Prelude.{◌≡◌, ℕ, ◌+◌, List, [], ◌∷◌, refl}, Coded.{Coded, code_by, coded×, coded_ℕ, coded_list}}
use Rattle.wsm_sound.specs.VersionModel.{VersionModel, version_code}

-- the type's number, and its versions from the first on
pub record KindModel : Type 0 where
  pub type_no : ℕ
  pub versions : List VersionModel

-- a type that is not defined
abbrev pub not_defined : ℕ → KindModel
not_defined type_no = record { type_no = type_no; versions = [] }

-- the versions are the type's, and numbered one after another
abbrev pub Numbered : ℕ → ℕ → List VersionModel → Type 0
Numbered type_no number [] = Unit {0}
Numbered type_no number (v ∷ vs) = (v.type_no ≡ type_no) × (v.number ≡ number) × Numbered type_no (number + 1) vs

-- the code by which a proof tells types apart
abbrev pub kind_code : Coded KindModel
kind_code =
    code_by (ℕ × List VersionModel) (coded× coded_ℕ (coded_list version_code))
    (λ k. (k.type_no, k.versions)) (λ p. record { type_no = p.0; versions = p.1 }) (λ _. refl)
