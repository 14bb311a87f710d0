-- The words of a line, on bytes alone.
use Rattle.std.specs.{Prelude.{ℕ, suc, Bool, true, false, ◌||◌, not, List, [], ◌∷◌, ◌==◌, if◌then◌else◌, filter, bytes_eq}, List.onto_first}
use Rattle.file_words.specs.{Lines.Bytes, declared.words.Quote.Quote}
use Rattle.file_words.specs.declared.words.Quote.TheVariants.{Outside, Inside, Escaped}

-- where the byte behind b stands
abbrev pub behind : Quote → ℕ → Quote
behind Outside b = if b == 34 then Inside else Outside
behind Inside b = if b == 92 then Escaped else (if b == 34 then Outside else Inside)
behind Escaped b = Inside

abbrev pub is_blank : ℕ → Bool
is_blank b = b == 32 || b == 9

-- a blank separates words, but not in a quoted text
abbrev pub cuts : Quote → ℕ → Bool
cuts Outside b = is_blank b
cuts Inside b = false
cuts Escaped b = false

abbrev pub onto_fields : (is_cut : Bool) → ℕ → List Bytes → List Bytes
onto_fields true b ws = [] ∷ ws
onto_fields false b ws = onto_first b ws

-- what stands between blanks, where nothing may stand between two of them
abbrev pub fields : Quote → Bytes → List Bytes
fields q [] = [] ∷ []
fields q (b ∷ bs) = onto_fields (cuts q b) b (fields (behind q b) bs)

abbrev pub is_word : Bytes → Bool
is_word [] = false
is_word (b ∷ bs) = true

abbrev pub words_of : Bytes → List Bytes
words_of line = filter is_word (fields Outside line)

-- a line without words, or with # as its first byte that is no blank
abbrev pub is_comment : Bytes → Bool
is_comment [] = false
is_comment (b ∷ bs) = b == 35

abbrev pub is_skipped : List Bytes → Bool
is_skipped [] = true
is_skipped (w ∷ ws) = is_comment w

abbrev pub is : Bytes → Bytes → Bool
is keyword w = bytes_eq w keyword

-- how many bytes stand before the first blank that cuts
abbrev pub word_end : Quote → Bytes → ℕ
word_end q [] = 0
word_end q (b ∷ bs) = if cuts q b then 0 else suc (word_end (behind q b) bs)

-- a byte that neither separates words nor begins a quoted text, and how many stand before the first other one
abbrev pub is_bare : ℕ → Bool
is_bare b = not (is_blank b || b == 34)

abbrev pub bare_end : Bytes → ℕ
bare_end [] = 0
bare_end (b ∷ bs) = if is_bare b then suc (bare_end bs) else 0

-- nothing, or no blank at the front
abbrev pub begins_word : Bytes → Bool
begins_word [] = true
begins_word (b ∷ bs) = not (is_blank b)
