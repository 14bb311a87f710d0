-- The first line, and declarations.
use Rattle.std.specs.Prelude.{ℕ, Bool, false, ◌&&◌, ◌||◌, nat_lt, ◌==◌, List, [], ◌∷◌, length, Option, Some, None, option_map, if◌then◌else◌, codes}
use Rattle.file_words.specs.{Lines.Bytes, Words.is}
use Rattle.file_forms.specs.{Forms.{RoleWord, Declaration, a_type, an_actor, a_case, first_phase}, PieceForms.{◌>>=◌, nothing_more, one_name, name_ahead, role_word, two_names}}

-- whether the one word of a list is k
abbrev pub is_only : Bytes → List Bytes → Bool
is_only k [] = false
is_only k (w ∷ []) = is k w
is_only k (w ∷ v ∷ ws) = false

-- the format that a file's first line names
abbrev pub format_of : List Bytes → Option ℕ
format_of ws =
    if is_only (codes "1") ws then Some 1
    else (if is_only (codes "2") ws then Some 2
    else (if is_only (codes "3") ws then Some 3
    else None))

abbrev pub header : List Bytes → Option ℕ
header [] = None
header (k ∷ ws) = if is (codes "adept") k then format_of ws else None

-- in format 3 a line that begins so declares something or begins a phase
abbrev pub is_reserved : Bytes → Bool
is_reserved w = is (codes "type") w || is (codes "actor") w || is (codes "case") w || is (codes "phase") w

abbrev pub begins_reserved : List Bytes → Bool
begins_reserved [] = false
begins_reserved (w ∷ ws) = is_reserved w

-- there no actor has such a name, since it could have no lines
abbrev pub actor_ahead : ℕ → List Bytes → Option (Bytes × List Bytes)
actor_ahead format ws = if format == 3 && begins_reserved ws then None else name_ahead ws

abbrev pub roles : ℕ → List Bytes → Option (List RoleWord)
roles format [] = Some []
roles format (w ∷ ws) = do
  r ← role_word format w
  rs ← roles format ws
  Some (r ∷ rs)

-- one role or more
abbrev pub some_roles : ℕ → List Bytes → Option (List RoleWord)
some_roles format ws = if nat_lt 0 (length ws) then roles format ws else None

abbrev pub roles_at_end : ℕ → List Bytes → Option (List RoleWord)
roles_at_end format [] = Some []
roles_at_end format (k ∷ ws) = if is (codes "roles") k then some_roles format ws else None

abbrev pub actor_line : ℕ → List Bytes → Option Declaration
actor_line format ws = do
  a ← actor_ahead format ws
  rs ← roles_at_end format a.1
  Some (an_actor a.0 rs)

-- a declaration but for an actor
abbrev pub plain_line : Bytes → List Bytes → Option Declaration
plain_line k ws =
    if is (codes "type") k then option_map a_type (one_name ws)
    else (if is (codes "case") k then option_map (λ p. a_case p.0 p.1) (two_names ws)
    else (if is (codes "phase") k then nothing_more first_phase ws
    else None))

-- a line of a file of that format
abbrev pub declaration_line : ℕ → List Bytes → Option Declaration
declaration_line format [] = None
declaration_line format (k ∷ ws) = if is (codes "actor") k then actor_line format ws else plain_line k ws
