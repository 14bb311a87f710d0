-- What the words of a line ask for.
use Rattle.std.specs.{Prelude.{nat_le, List, [], ◌∷◌, length, Option, Some, None, option_map, if◌then◌else◌, codes}, Str.is_utf8}
use Rattle.file_limits.specs.declared.TheConstants.{MAX_NAME}
use Rattle.file_words.specs.{Lines.{Bytes, without_return}, Names.name, Words.{is, words_of}}

pub data Asked : Type 0 where
  report : Asked
  of_type : Bytes → Asked
  of_case : Bytes → Asked
  cases : Asked
  cases_of : Bytes → Asked
  items : Asked
  items_of : Bytes → Asked
  types : Asked
  actors : Asked
  count : Asked
  last : Asked
  lines : Asked

-- the one word of a list, where it is a name that is not too long
abbrev pub short_name : List Bytes → Option Bytes
short_name [] = None
short_name (w ∷ []) = if nat_le (length w) MAX_NAME then name w else None
short_name (w ∷ v ∷ ws) = None

-- a question of one word
abbrev pub plain : Bytes → Option Asked
plain k =
    if is (codes "report") k then Some report
    else (if is (codes "cases") k then Some cases
    else (if is (codes "items") k then Some items
    else (if is (codes "types") k then Some types
    else (if is (codes "actors") k then Some actors
    else (if is (codes "count") k then Some count
    else (if is (codes "last") k then Some last
    else (if is (codes "lines") k then Some lines
    else None)))))))

-- a question with a name behind its word
abbrev pub asked_of : Bytes → List Bytes → Option Asked
asked_of k ws =
    if is (codes "type") k then option_map of_type (short_name ws)
    else (if is (codes "case") k then option_map of_case (short_name ws)
    else (if is (codes "cases") k then option_map cases_of (short_name ws)
    else (if is (codes "items") k then option_map items_of (short_name ws)
    else None)))

-- what the words behind a question mark ask for
abbrev pub asked : List Bytes → Option Asked
asked [] = None
asked (k ∷ []) = plain k
asked (k ∷ w ∷ ws) = asked_of k (w ∷ ws)

abbrev pub question : List Bytes → Option Asked
question [] = None
question (w ∷ ws) = if is (codes "?") w then asked ws else None

-- what a line asks for
abbrev pub question_in : Bytes → Option Asked
question_in line = if is_utf8 line then question (words_of (without_return line)) else None
