-- A line as it is cut into words, byte by byte.
use Rattle.std.specs.Prelude.{◌≡◌, ℕ, List, [], ◌∷◌, ◌++◌, filter, map, take, if◌then◌else◌}
use Rattle.file_words.specs.{Lines.Bytes, Words.{behind, cuts, is_word}, declared.words.Quote.Quote}
use Rattle.file_words.specs.declared.words.Quote.TheVariants as quotes
use Rattle.talk_items.specs.{Keywords.keyword, declared.keywords.Keyword.Keyword}

-- the words that have ended, what the one that goes on has, and where the next byte stands
pub record Cut : Type 0 where
  pub words : List Bytes
  pub word : Bytes
  pub quote : Quote

-- the words with the one that goes on, where it has a byte
abbrev pub with_last : Cut → List Bytes
with_last c = c.words ++ filter is_word (c.word ∷ [])

abbrev pub cut_more : Cut → ℕ → Cut
cut_more c b =
    if cuts c.quote b
    then record { words = with_last c; word = []; quote = behind c.quote b }
    else record { words = c.words; word = c.word ++ b ∷ []; quote = behind c.quote b }

abbrev pub cut_from : Cut → Bytes → Cut
cut_from c [] = c
cut_from c (b ∷ bs) = cut_from (cut_more c b) bs

abbrev pub cut : Bytes → Cut
cut line = cut_from (record { words = []; word = []; quote = quotes.Outside }) line

-- as much of words, and of one word, as is kept
abbrev pub first_words : List Bytes → List Keyword
first_words ws = take 4 (map keyword ws)

abbrev pub first_letters : Bytes → Bytes
first_letters w = take 8 w

-- so much of a line that was cut so far is kept
abbrev pub IsKept : Cut → List Keyword → Bytes → Type 0
IsKept c words word = (words ≡ first_words c.words) × (word ≡ first_letters c.word)
