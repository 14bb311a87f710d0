-- Names get numbers in order of first occurrence, and declarations in order.
use Rattle.std.specs.{Prelude.{ℕ, suc, Bool, List, [], ◌∷◌, ◌++◌, if◌then◌else◌, bytes_eq, Option, Some, None}, List.list_any}
use Rattle.file_words.specs.Lines.{Bytes}

abbrev pub is_listed : Bytes → List Bytes → Bool
is_listed n names = list_any (λ m. bytes_eq n m) names

-- the names with one more, unless it is there
abbrev pub noted : List Bytes → Bytes → List Bytes
noted names n = if is_listed n names then names else names ++ n ∷ []

-- the place of a name
abbrev pub number_of : List Bytes → Bytes → ℕ
number_of [] n = 0
number_of (m ∷ ms) n = if bytes_eq n m then 0 else suc (number_of ms n)

-- the place of a name, where it is listed
abbrev pub place_of : List Bytes → Bytes → Option ℕ
place_of names n = if is_listed n names then Some (number_of names n) else None
