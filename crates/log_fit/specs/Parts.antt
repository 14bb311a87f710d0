-- An input: a process file, a line `log`, and a log.
use Rattle.std.specs.Prelude.{List, [], ◌∷◌, ◌++◌, Option, Some, None, if◌then◌else◌, codes, option_map}
use Rattle.file_words.specs.{Lines.{Bytes, lines_of, without_return}, Words.is}
use Rattle.log_fit.specs.declared.parts.InputParts.{InputParts}

-- the bytes of the file, and those of the log where there is one
pub record Parts : Type 0 where
  pub file : Bytes
  pub log : Option Bytes

-- lines with their line feeds, and what stands behind the last one
abbrev pub joined : List Bytes → Bytes → Bytes
joined [] left = left
joined (l ∷ ls) left = l ++ 10 ∷ joined ls left

abbrev pub onto_file : Bytes → Parts → Parts
onto_file bytes p = record { file = bytes ++ p.file; log = p.log }

-- the first line `log` divides an input; it may also be the last, without a line feed
abbrev pub parts_from : List Bytes → Bytes → Parts
parts_from [] left = if is (codes "log") left then record { file = []; log = Some [] } else record { file = left; log = None }
parts_from (l ∷ ls) left =
    if is (codes "log") (without_return l) then record { file = []; log = Some (joined ls left) }
    else onto_file (l ++ 10 ∷ []) (parts_from ls left)

abbrev pub parts_of : Bytes → Parts
parts_of bytes = parts_from (lines_of bytes).ended (lines_of bytes).left

-- parts that a call hands out, without where they lie in memory
abbrev pub shown_parts : InputParts → Parts
shown_parts p = record { file = p.file.now; log = option_map (λ l. l.now) p.log }
