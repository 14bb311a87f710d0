-- Pieces of lines that several forms share.
use Rattle.std.specs.Prelude.{ℕ, Bool, true, false, nat_lt, List, [], ◌∷◌, ◌==◌, Option, Some, None, option_map, if◌then◌else◌, codes}
use Rattle.wsm_lists.specs.declared.values.ElementKind.{ElementKind}
use Rattle.wsm_lists.specs.declared.values.ElementKind.TheVariants as kind
use Rattle.file_limits.specs.declared.TheConstants.{FIRST_NAMED_ROLE}
use Rattle.file_words.specs.{Lines.Bytes, Words.is, Names.name, Numbers.role}
use Rattle.file_forms.specs.Forms.{RoleWord, by_number, by_name}

infixl 10 ◌>>=◌
abbrev pub ◌>>=◌ : {A B : Type 0} → Option A → (A → Option B) → Option B
None >>= f = None
(Some x) >>= f = f x

abbrev pub nothing_more : {A : Type 0} → A → List Bytes → Option A
nothing_more x [] = Some x
nothing_more x (w ∷ ws) = None

-- the one word of a list
abbrev pub only : List Bytes → Option Bytes
only [] = None
only (w ∷ ws) = nothing_more w ws

abbrev pub one_name : List Bytes → Option Bytes
one_name ws = only ws >>= name

-- a name, and the words behind it
abbrev pub name_ahead : List Bytes → Option (Bytes × List Bytes)
name_ahead [] = None
name_ahead (w ∷ ws) = option_map (λ x. (x, ws)) (name w)

abbrev pub two_names : List Bytes → Option (Bytes × Bytes)
two_names ws = do
  a ← name_ahead ws
  b ← one_name a.1
  Some (a.0, b)

abbrev pub two_names_ahead : List Bytes → Option (Bytes × Bytes × List Bytes)
two_names_ahead ws = do
  a ← name_ahead ws
  b ← name_ahead a.1
  Some (a.0, b.0, b.1)

-- a role of a file of that format: in format 3 a number below the first one that a name has, or a name
abbrev pub low_or_name : Option ℕ → Bytes → Option RoleWord
low_or_name None w = option_map by_name (name w)
low_or_name (Some n) w = if nat_lt n FIRST_NAMED_ROLE then Some (by_number n) else None

abbrev pub role_word : ℕ → Bytes → Option RoleWord
role_word format w = if format == 3 then low_or_name (role w) w else option_map by_number (role w)

-- nothing, which is role 0, or `role` and a role
abbrev pub role_at_end : ℕ → List Bytes → Option RoleWord
role_at_end format [] = Some (by_number 0)
role_at_end format (k ∷ ws) = if is (codes "role") k then only ws >>= role_word format else None

abbrev pub name_and_role : ℕ → List Bytes → Option (Bytes × RoleWord)
name_and_role format ws = do
  a ← name_ahead ws
  r ← role_at_end format a.1
  Some (a.0, r)

abbrev pub two_names_and_role : ℕ → List Bytes → Option (Bytes × Bytes × RoleWord)
two_names_and_role format ws = do
  a ← name_ahead ws
  p ← name_and_role format a.1
  Some (a.0, p.0, p.1)

abbrev pub element_kind : Bytes → Option ElementKind
element_kind w =
    if is (codes "int") w then Some kind.Int
    else (if is (codes "text") w then Some kind.Text else None)

abbrev pub element_and_kind : List Bytes → Option (Bytes × ElementKind)
element_and_kind ws = do
  a ← name_ahead ws
  k ← only a.1 >>= element_kind
  Some (a.0, k)

-- a read is mandatory, unless the word `optional` says that it is not
abbrev pub is_mandatory : List Bytes → Option Bool
is_mandatory [] = Some true
is_mandatory (w ∷ ws) = if is (codes "optional") w then nothing_more false ws else None

abbrev pub element_read : List Bytes → Option (Bytes × Bool)
element_read ws = do
  a ← name_ahead ws
  m ← is_mandatory a.1
  Some (a.0, m)

abbrev pub read_edge : List Bytes → Option (Bytes × Bytes × Bool)
read_edge ws = do
  a ← name_ahead ws
  p ← element_read a.1
  Some (a.0, p.0, p.1)
