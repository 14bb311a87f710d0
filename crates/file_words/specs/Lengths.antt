-- Names and texts that are too long. In a right line a word of more than 64 bytes is a name of more than 64 bytes, or a pair.
use Rattle.std.specs.{Prelude.{Bool, false, nat_lt, List, [], ◌∷◌, length, Option, Some, None, if◌then◌else◌}, Option.option_or}
use Rattle.file_limits.specs.declared.TheConstants.{MAX_NAME, MAX_TEXT}
use Rattle.file_words.specs.{Lines.Bytes, Texts.text, Pairs.parts_at_equals, declared.lengths.TooLong.TooLong}
use Rattle.file_words.specs.declared.lengths.TooLong.TheVariants.{Name, Text}

abbrev pub is_longer : Bool → TooLong → Option TooLong
is_longer test long = if test then Some long else None

abbrev pub has_long_text : Option Bytes → Bool
has_long_text None = false
has_long_text (Some t) = nat_lt MAX_TEXT (length t)

abbrev pub long_part : Bytes → Option (Bytes × Bytes) → Option TooLong
long_part w None = is_longer (nat_lt MAX_NAME (length w)) Name
long_part w (Some p) = option_or (is_longer (nat_lt MAX_NAME (length p.0)) Name) (is_longer (has_long_text (text p.1)) Text)

-- what a word has that is too long
abbrev pub long : Bytes → Option TooLong
long w = long_part w (parts_at_equals w)

-- what the first such word has
abbrev pub first_long : List Bytes → Option TooLong
first_long [] = None
first_long (w ∷ ws) = option_or (long w) (first_long ws)
