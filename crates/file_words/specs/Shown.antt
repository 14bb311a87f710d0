-- Words as contracts see them: without where they lie in memory.
use Rattle.std.specs.{Prelude.{List, map}, Borrow.Bor}
use Rattle.wsm_lists.specs.declared.values.Value.{Value}
use Rattle.wsm_lists.specs.declared.values.Value.TheVariants as value
use Rattle.file_words.specs.{Lines.Bytes, declared.names.NameWord.NameWord, declared.pairs.Literal.Literal}
use Rattle.file_words.specs.declared.pairs.Literal.TheVariants.{Int, Text}

abbrev pub shown : List (Bor Bytes) → List Bytes
shown ws = map (λ w. w.now) ws

abbrev pub shown_name : NameWord → Bytes
shown_name w = w.bytes.now

abbrev pub shown_parts : Bor Bytes × Bor Bytes → Bytes × Bytes
shown_parts p = (p.0.now, p.1.now)

abbrev pub shown_literal : Literal → Value
shown_literal (Int n) = value.Int n
shown_literal (Text t) = value.Text t.items

abbrev pub shown_pair : NameWord × Literal → Bytes × Value
shown_pair p = (p.0.bytes.now, shown_literal p.1)
