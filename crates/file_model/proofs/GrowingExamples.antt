-- Files of format 3, which declare as they go on, computed from the definitions alone.
use Rattle.file_model.proofs.{Common.{Act, Bytes, codes, File, file, file_up_to, flat_map, map, Refused, Result}, Examples.told}
use Rattle.std.specs.{Prelude.{◌≡◌, ℕ, List, [], ◌∷◌, length, Ok, Err, refl}, Str.{is_utf8, chars}, Fmt.digits}
use Rattle.wsm_sound.specs.Faults.{fault_of}
use Rattle.file_model.specs.declared.files.Act.TheVariants as act

-- how many lines each phase has
abbrev phases : Result File Refused → List ℕ
phases (Ok f) = map (λ lines. length lines) f.phases
phases (Err r) = []

-- the type of each migrate, and how many cases it calls
abbrev moved : Act → List (ℕ × ℕ)
moved (act.Migrate t many) = (t, many) ∷ []
moved _ = []

abbrev moves : Result File Refused → List (ℕ × ℕ)
moves (Ok f) = flat_map (λ lines. flat_map (λ l. moved l.act) lines) f.phases
moves (Err r) = []

-- the names of roles, and the roles of each actor
abbrev roles : Result File Refused → List Bytes × List (List ℕ)
roles (Ok f) = (f.roles, map (λ a. a.roles) f.actors)
roles (Err r) = ([], [])

-- ---- where declarations and phases stand
pub header-alone : told (file (codes "adept 3\n")) ≡ (0, [])
unfolding is_utf8 chars lib.Utf8.encode digits fault_of
header-alone = refl

pub header-that-is-not-taken : told (file_up_to 2 (codes "# mine\n\nadept 3\nphase\n")) ≡ (3, codes "header")
unfolding is_utf8 chars lib.Utf8.encode digits fault_of
header-that-is-not-taken = refl

pub declarations-inside-phases : phases (file (codes "adept 3\nphase\ntype t\nact A\nend\nactor ann\ncase c t\nann create c\nactor bob roles 7\ncase d t\nbob create d\nphase\ntype u\nact A role 7\nend\ncase e u\nbob create e\n")) ≡ 2 ∷ 1 ∷ []
unfolding is_utf8 chars lib.Utf8.encode digits fault_of
declarations-inside-phases = refl

pub script-line-begins-a-phase : phases (file (codes "adept 3\ntype t\nact A\nend\nactor ann\ncase c t\nann create c\ncase d t\nann create d\nphase\nann start c A\n")) ≡ 2 ∷ 1 ∷ []
unfolding is_utf8 chars lib.Utf8.encode digits fault_of
script-line-begins-a-phase = refl

pub group-begins-a-phase : phases (file (codes "adept 3\ntype t\nact A\nend\nactor ann\nann install t\ninsert B after A\nend\nactor bob\nbob migrate t\n")) ≡ 2 ∷ []
unfolding is_utf8 chars lib.Utf8.encode digits fault_of
group-begins-a-phase = refl

pub case-before-its-type : told (file (codes "adept 3\ncase c t\ntype t\nend\n")) ≡ (2, codes "unknown")
unfolding is_utf8 chars lib.Utf8.encode digits fault_of
case-before-its-type = refl

pub declaration-inside-a-group : told (file (codes "adept 3\ntype t\nact A\nend\nactor ann\ncase c t\nann change c\nactor bob\nend\n")) ≡ (8, codes "form")
unfolding is_utf8 chars lib.Utf8.encode digits fault_of
declaration-inside-a-group = refl

pub declared-twice-across-phases : told (file (codes "adept 3\ntype t\nact A\nend\nactor ann\ncase c t\nphase\nann create c\nphase\ncase c t\n")) ≡ (10, codes "twice")
unfolding is_utf8 chars lib.Utf8.encode digits fault_of
declared-twice-across-phases = refl

pub ends-inside-a-type : told (file (codes "adept 3\ntype t\nact A\nend\nactor ann\ncase c t\nann create c\ntype u\nact B\n")) ≡ (10, codes "unended")
unfolding is_utf8 chars lib.Utf8.encode digits fault_of
ends-inside-a-type = refl

pub named-before-it-is-declared : told (file (codes "adept 3\ntype t\nact A\nend\nactor ann\ncase c t\nbob create c\nactor bob\n")) ≡ (7, codes "unknown")
unfolding is_utf8 chars lib.Utf8.encode digits fault_of
named-before-it-is-declared = refl

pub phase-inside-a-type : told (file (codes "adept 3\ntype t\nphase\nend\n")) ≡ (3, codes "form")
unfolding is_utf8 chars lib.Utf8.encode digits fault_of
phase-inside-a-type = refl

-- ---- the four words
pub case-line-in-a-phase : told (file (codes "adept 3\ntype t\nact A\nend\nactor ann\ncase c t\nphase\nann create c\ncase create c\n")) ≡ (9, codes "unknown")
unfolding is_utf8 chars lib.Utf8.encode digits fault_of
case-line-in-a-phase = refl

pub phase-with-more-words : told (file (codes "adept 3\ntype t\nact A\nend\nactor ann\ncase c t\nphase create c\n")) ≡ (7, codes "form")
unfolding is_utf8 chars lib.Utf8.encode digits fault_of
phase-with-more-words = refl

pub actor-named-case : told (file (codes "adept 3\nphase\nactor case roles 1 nurse\n")) ≡ (3, codes "form")
unfolding is_utf8 chars lib.Utf8.encode digits fault_of
actor-named-case = refl

pub case-named-create : phases (file (codes "adept 3\ntype t\nact A\nend\ncase create t\nactor ann\nann create create\n")) ≡ 1 ∷ []
unfolding is_utf8 chars lib.Utf8.encode digits fault_of
case-named-create = refl

-- ---- migrates
pub migrates-go-by-the-cases-so-far : moves (file (codes "adept 3\ntype t\nact A\nend\nactor ann\ncase c t\nann create c\nann install t\ninsert B after A\nend\nann migrate t\ncase d t\nann migrate t\ntype u\nend\ncase e u\nann migrate t\nann migrate u\n")) ≡ (0, 1) ∷ (0, 2) ∷ (0, 2) ∷ (1, 1) ∷ []
unfolding is_utf8 chars lib.Utf8.encode digits fault_of
migrates-go-by-the-cases-so-far = refl

pub migrates-of-format-1 : moves (file (codes "adept 1\ntype t\nact A\nend\nactor ann\ncase c t\ncase d t\nphase\nann migrate t\n")) ≡ (0, 2) ∷ []
unfolding is_utf8 chars lib.Utf8.encode digits fault_of
migrates-of-format-1 = refl

-- ---- roles
pub roles-with-names : roles (file (codes "adept 3\ntype t\nact A role nurse\nxor s j role doctor\nbranch 0\nbranch 1\nact B role 7\ndone\nend\nactor ann roles doctor 7 cook\nactor bob roles nurse\n")) ≡
    (codes "nurse" ∷ codes "doctor" ∷ codes "cook" ∷ [], (2147483649 ∷ 7 ∷ 2147483650 ∷ []) ∷ (2147483648 ∷ []) ∷ [])
unfolding is_utf8 chars lib.Utf8.encode digits fault_of
roles-with-names = refl

pub role-named-as-a-node : roles (file (codes "adept 3\ntype t\nact A role A\nend\nactor start roles finish A\n")) ≡ (codes "A" ∷ codes "finish" ∷ [], (2147483649 ∷ 2147483648 ∷ []) ∷ [])
unfolding is_utf8 chars lib.Utf8.encode digits fault_of
role-named-as-a-node = refl

pub role-past-the-highest-number : told (file (codes "adept 3\ntype t\nact A role 2147483648\nend\n")) ≡ (3, codes "form")
unfolding is_utf8 chars lib.Utf8.encode digits fault_of
role-past-the-highest-number = refl

pub role-of-format-2 : told (file (codes "adept 2\ntype t\nact A role nurse\nend\n")) ≡ (3, codes "form")
unfolding is_utf8 chars lib.Utf8.encode digits fault_of
role-of-format-2 = refl

pub role-of-65-bytes : told (file (codes "adept 3\ntype t\nact A role rrrrrrrrrrrrrrrrrrrrrrrrrrrrrrrrrrrrrrrrrrrrrrrrrrrrrrrrrrrrrrrrr\nend\n")) ≡ (3, codes "limit name")
unfolding is_utf8 chars lib.Utf8.encode digits fault_of
role-of-65-bytes = refl
