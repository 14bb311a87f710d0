-- Small files, computed from the definitions alone.
use Rattle.file_facts.proofs.Common.{◌<◌, ◌≤◌, Act, ArePlaced, arith, CaseDecl, CaseId, codes, false, File, file, IsKnown, Line, lines_in, map, Refused, same_Some, suc, true, zero}
use Rattle.std.specs.{Prelude.{◌≡◌, ℕ, List, [], ◌∷◌, length, Result, Ok, Err, refl}, Str.{is_utf8, chars}}
use Rattle.wsm_sound.specs.Faults.{fault_of}
use Rattle.file_model.specs.declared.files.Act.TheVariants as act

-- ---- what is read
abbrev ids_in : List CaseDecl → List (ℕ × ℕ)
ids_in cases = map (λ d. (d.id.type_no, d.id.place)) cases

abbrev ids : Result File Refused → List (ℕ × ℕ)
ids (Ok f) = ids_in f.cases
ids (Err r) = []

-- types, actors, cases and lines
abbrev sizes : Result File Refused → List ℕ
sizes (Ok f) = length f.types ∷ length f.actors ∷ length f.cases ∷ lines_in f.phases ∷ []
sizes (Err r) = []

pub places : ids (file (codes "adept 1\ntype t\nend\ncase a t\ntype u\nend\ncase b u\nactor ann\ncase c t\n")) ≡ (0, 0) ∷ (1, 0) ∷ (0, 1) ∷ []
unfolding is_utf8 chars lib.Utf8.encode fault_of
places = refl

pub counts : sizes (file (codes "adept 1\ntype t\nact A\nend\nactor ann\nactor bob\ncase a t\nphase\nann create a\nphase\nbob migrate t\nann install t\ninsert B after A\nend\n")) ≡ 1 ∷ 2 ∷ 1 ∷ 3 ∷ []
unfolding is_utf8 chars lib.Utf8.encode fault_of
counts = refl

-- ---- what is placed and known
abbrev id : ℕ → ℕ → CaseId
id t p = record { type_no = t; place = p }

abbrev decl : ℕ → ℕ → CaseDecl
decl t p = record { name = codes "c"; id = id t p }

abbrev line : ℕ → Act → Line
line a act = record { at = 9; order = 1; actor = a; act = act }

-- a case of each of two types, and one more of the first
abbrev three : List CaseDecl
three = decl 0 0 ∷ decl 1 0 ∷ decl 0 1 ∷ []

pub are-placed : ArePlaced three
are-placed zero d at = rw (← same_Some (decl 0 0) d at) refl
are-placed (suc zero) d at = rw (← same_Some (decl 1 0) d at) refl
are-placed (suc (suc zero)) d at = rw (← same_Some (decl 0 1) d at) refl
are-placed (suc (suc (suc k))) d at = absurd (cc)

pub one-place-twice : ArePlaced (decl 0 0 ∷ decl 0 0 ∷ []) → ⊥
one-place-twice h = let wrong : 0 ≡ 1 = h 1 (decl 0 0) refl in omega (arith, wrong)

pub create-known : IsKnown 2 1 three (line 1 (act.Create (id 0 1)))
create-known = record { from_1 = omega arith; actor = omega arith; act = refl }

pub create-unknown : IsKnown 2 1 three (line 1 (act.Create (id 1 1))) → ⊥
create-unknown h = let wrong : false ≡ true = h.act in cc

pub no-actor-0 : IsKnown 2 1 three (line 0 (act.Migrate 1 1)) → ⊥
no-actor-0 h = omega (arith, h.from_1)

pub no-second-actor : IsKnown 2 1 three (line 2 (act.Migrate 1 1)) → ⊥
no-second-actor h = omega (arith, h.actor)

pub no-third-type : IsKnown 2 1 three (line 1 (act.Migrate 2 0)) → ⊥
no-third-type h = let wrong : 2 < 2 = h.act.0 in omega (arith, wrong)

pub no-more-than-there-are : IsKnown 2 1 three (line 1 (act.Migrate 1 2)) → ⊥
no-more-than-there-are h = let wrong : 2 ≤ 1 = h.act.1 in omega (arith, wrong)
