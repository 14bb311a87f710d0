-- Words that are quoted texts.
use Rattle.std.specs.Prelude.{ℕ, Bool, true, false, ◌&&◌, ◌||◌, not, nat_le, [], ◌∷◌, length, ◌==◌, if◌then◌else◌, Option, Some, None, option_map}
use Rattle.file_words.specs.{Lines.Bytes, declared.texts.TextStep.TextStep}
use Rattle.file_words.specs.declared.texts.TextStep.TheVariants.{Stands, Escapes, Ends, Wrong}

-- a byte that stands for itself in a text: no control, no quotation mark and no backslash
abbrev pub is_plain : ℕ → Bool
is_plain b = nat_le 32 b && not (b == 127) && not (b == 34) && not (b == 92)

-- what a byte of a text is, where `is_escaped` says that a backslash stands before it, and `is_last` that nothing follows
abbrev pub text_step : (is_escaped : Bool) → ℕ → (is_last : Bool) → TextStep
text_step true b is_last = if b == 34 || b == 92 then Stands else Wrong
text_step false b true = if b == 34 then Ends else Wrong
text_step false b false = if b == 92 then Escapes else (if is_plain b then Stands else Wrong)

abbrev pub stepped : TextStep → ℕ → Option Bytes → Option Bytes
stepped Stands b rest = option_map (λ t. b ∷ t) rest
stepped Escapes b rest = rest
stepped Ends b rest = Some []
stepped Wrong b rest = None

-- the value of what stands behind a text's first quotation mark, up to the last one, which ends the word
abbrev pub unquoted : (is_escaped : Bool) → Bytes → Option Bytes
unquoted is_escaped [] = None
unquoted is_escaped (b ∷ bs) = stepped (text_step is_escaped b (length bs == 0)) b (unquoted (not is_escaped && b == 92) bs)

abbrev pub text : Bytes → Option Bytes
text [] = None
text (b ∷ bs) = if b == 34 then unquoted false bs else None
