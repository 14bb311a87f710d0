-- The words of a line, wherever their list lies.
use Rattle.std.specs.{Prelude.{List, [], ◌∷◌}, Borrow.Bor}
use Rattle.file_words.specs.Lines.{Bytes}
use Rattle.line_words.specs.declared.lists.LineWords.{LineWords}

-- the longer list, where there is one
abbrev pub either : List (Bor Bytes) → List (Bor Bytes) → List (Bor Bytes)
either few [] = few
either few (w ∷ ws) = w ∷ ws

abbrev pub listed : LineWords → List (Bor Bytes)
listed ws = either ws.few.items ws.many.items
