-- Declarations.
use Rattle.std.specs.{Prelude.{ℕ, List, [], ◌∷◌, ◌++◌, length, nat_lt, nat_le, Option, Some, None}, Option.option_or}
use Rattle.wsm_schema.specs.SchemaModel.{SchemaModel}
use Rattle.file_limits.specs.declared.TheConstants.{MAX_PHASES, MAX_ROLES}
use Rattle.file_words.specs.Lines.{Bytes}
use Rattle.file_names.specs.{Names.{is_listed, noted, place_of}, declared.declared.DeclaredList.DeclaredList}
use Rattle.file_forms.specs.Forms.{RoleWord, Declaration, a_type, an_actor, a_case, first_phase}
use Rattle.file_drafts.specs.Drafts.{new_draft}
use Rattle.file_model.specs.{CaseCounts.cases_of_type, Steps.{Step, all_phases, at_place, outside, refuse, role_noted, role_number, unless, over, twice}, declared.states.Contents.Contents}
use Rattle.file_model.specs.declared.refusals.FileLimit.TheVariants as limit
use Rattle.file_model.specs.declared.refusals.Why.TheVariants as why
use Rattle.file_model.specs.declared.states.Section.TheVariants as section

-- one more declaration
abbrev pub listed : {A : Type 0} → Bytes → A → DeclaredList A → DeclaredList A
listed n x ds = record { names = noted ds.names n; items = ds.items ++ x ∷ [] }

abbrev pub with_type : Bytes → SchemaModel → Contents → Contents
with_type n schema c = record c { types = listed n (record { name = n; schema = schema }) c.types }

abbrev pub with_actor : Bytes → List ℕ → Contents → Contents
with_actor n roles c = record c { actors = listed n (record { name = n; roles = roles }) c.actors }

-- the numbers of roles, one after another, and the contents with their names
abbrev pub role_numbers : List Bytes → List RoleWord → List ℕ
role_numbers names [] = []
role_numbers names (r ∷ rs) = role_number names r ∷ role_numbers (role_noted names r) rs

abbrev pub roles_noted : List Bytes → List RoleWord → List Bytes
roles_noted names [] = names
roles_noted names (r ∷ rs) = roles_noted (role_noted names r) rs

abbrev pub with_roles : List RoleWord → Contents → Contents
with_roles rs c = record c { roles = roles_noted c.roles rs }

abbrev pub with_case : Bytes → ℕ → Contents → Contents
with_case n t c = record c {
  cases = listed n (record { name = n; id = record { type_no = t; place = cases_of_type t c.cases.items } }) c.cases;
}

abbrev pub case_declared : Bytes → Option ℕ → Contents → Step
case_declared n None c = refuse c why.Unknown
case_declared n (Some t) c =
    unless (option_or (twice (is_listed n c.cases.names)) (over (nat_le c.limits.cases (length c.cases.items)) limit.Cases)) c (outside (with_case n t c))

-- the open phase ends, and one begins
abbrev pub phase_begun : Contents → Step
phase_begun c =
    unless (over (nat_le MAX_PHASES (length (all_phases c))) limit.Phases) c
    (outside (record c { phases = all_phases c; current = Some [] }))

abbrev pub declared : Declaration → Contents → Step
declared (a_type n) c =
    unless (option_or (twice (is_listed n c.types.names)) (over (nat_le c.limits.types (length c.types.items)) limit.Types)) c
    (at_place (section.InType (new_draft n)) c)
declared (an_actor n roles) c =
    unless (option_or (twice (is_listed n c.actors.names))
    (option_or (over (nat_le c.limits.actors (length c.actors.items)) limit.Actors) (over (nat_lt MAX_ROLES (length roles)) limit.Roles))) c
    (outside (with_actor n (role_numbers c.roles roles) (with_roles roles c)))
declared (a_case n kind) c = case_declared n (place_of c.types.names kind) c
declared first_phase c = phase_begun c
