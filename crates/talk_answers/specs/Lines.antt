-- The last line of an answer, and bytes that are told as they are.
use Rattle.std.specs.Prelude.{ℕ, ◌++◌, flat_map, codes, decimal}
use Rattle.file_words.specs.Lines.{Bytes, lines_of}

-- all is well, and so many units are held
abbrev pub ok_line : ℕ → Bytes
ok_line count = codes "ok " ++ (decimal count ++ codes "\n")

-- a line is refused, for this reason
abbrev pub no_line : ℕ → Bytes → Bytes
no_line k text = codes "no " ++ (decimal k ++ (codes " " ++ (text ++ codes "\n")))

-- lines that end, each behind a bar
abbrev pub quoted_line : Bytes → Bytes
quoted_line line = codes "| " ++ (line ++ codes "\n")

abbrev pub quoted : Bytes → Bytes
quoted bytes = flat_map quoted_line (lines_of bytes).ended
