-- The words of the command line: the name of a type, and the number of a version.
use Rattle.std.specs.Prelude.{ℕ, Bool, ◌&&◌, nat_lt, nat_le, List, [], ◌∷◌, Option, Some, None, if◌then◌else◌}
use Rattle.file_names.specs.ShortNames.{is_short_name}
use Rattle.file_words.specs.{Lines.Bytes, Numbers.{are_digits, value_from}}
use Rattle.log_fit.specs.declared.asking.Asked.{Asked}

pub record Question : Type 0 where
  pub name : Bytes
  pub number : ℕ

-- 1 to 256, in at most three digits
abbrev pub is_version_number : Bytes → Bool
is_version_number w = are_digits 3 w && nat_lt 0 (value_from 0 w) && nat_le (value_from 0 w) 256

abbrev pub two_words : Bytes → Bytes → Option Question
two_words w v = if is_short_name w && is_version_number v then Some (record { name = w; number = value_from 0 v }) else None

abbrev pub asked : List Bytes → Option Question
asked [] = None
asked (w ∷ []) = None
asked (w ∷ v ∷ []) = two_words w v
asked (w ∷ v ∷ u ∷ us) = None

-- a question that a call hands out, without where its name lies in memory
abbrev pub shown_question : Asked → Question
shown_question a = record { name = a.name.now; number = a.number }
