-- How much of a unit a line takes.
use Rattle.file_units.proofs.Common.{[], ℕ, ◌+◌, ◌-◌, ◌==◌, ◌∙◌, ◌∷◌, ◌≡◌, ◌≤◌, ap, arith, Bool, Bor, Bytes, CutLines, cuts, false, fields, filter, front_line, if◌then◌else◌, is_word, length, length-map, length-take, lines_of, List}
use Rattle.file_units.proofs.Common.{onto_fields, onto_first, onto_lines, put_first, shown, slice_index, subst, sym, take, true, without_return, words_of}
use Rattle.file_words.specs.{Words.behind, declared.words.Quote.Quote}
use Rattle.file_words.specs.declared.words.Quote.TheVariants.{Outside}

-- ---- a line has no more words than bytes
one-more : (b : ℕ) (ws : List Bytes) → length (filter is_word (onto_first b ws)) ≤ length (filter is_word ws) + 1
one-more b [] = omega arith
one-more b ([] ∷ ws) = omega arith
one-more b ((c ∷ w) ∷ ws) = omega arith

cut-more : (is_cut : Bool) (b : ℕ) (ws : List Bytes) → length (filter is_word (onto_fields is_cut b ws)) ≤ length (filter is_word ws) + 1
cut-more true b ws = omega arith
cut-more false b ws = one-more b ws

few-fields : (q : Quote) (bs : Bytes) → length (filter is_word (fields q bs)) ≤ length bs
few-fields q [] = omega arith
few-fields q (b ∷ bs) = omega (arith, cut-more (cuts q b) b (fields (behind q b) bs), few-fields (behind q b) bs)

few-words : (line : Bytes) → length (words_of line) ≤ length line
few-words line = few-fields Outside line

shorter-line : (line : Bytes) → length (without_return line) ≤ length line
shorter-line line = by (slice_index line (length line - 1) == 13)
  where
    by : (test : Bool) → length (if test then take (length line - 1) line else line) ≤ length line
    by true = omega (arith, length-take (length line - 1) line)
    by false = omega arith

-- ---- lines, their line feeds, and what is left are all bytes
abbrev all-lines : List Bytes → ℕ
all-lines [] = 0
all-lines (l ∷ ls) = length l + 1 + all-lines ls

abbrev size : CutLines → ℕ
size ls = all-lines ls.ended + length ls.left

put-size : (b : ℕ) (ls : List Bytes) (left : Bytes) → size (put_first b ls left) ≡ all-lines ls + length left + 1
put-size b [] left = omega arith
put-size b (l ∷ ls) left = omega arith

onto-size : (b : ℕ) (ls : CutLines) → size (onto_lines b ls) ≡ size ls + 1
onto-size b ls = by (b == 10)
  where
    by : (test : Bool) → size (if test then record { ended = [] ∷ ls.ended; left = ls.left } else put_first b ls.ended ls.left) ≡ size ls + 1
    by true = omega arith
    by false = put-size b ls.ended ls.left

all-size : (bs : Bytes) → size (lines_of bs) ≡ length bs
all-size [] = omega arith
all-size (b ∷ bs) = omega (arith, onto-size b (lines_of bs), all-size bs)

-- the words of the first line, its line feed, and the bytes behind
pub line_takes : (rest line more : Bytes) → lines_of rest ≡ front_line line (lines_of more) → length (words_of (without_return line)) + 1 + length more ≤ length rest
line_takes rest line more is =
    let whole : size (front_line line (lines_of more)) ≡ length rest = subst (λ (ls : CutLines). size ls ≡ length rest) is (all-size rest) in
    omega (arith, whole, all-size more, few-words (without_return line), shorter-line line)

-- the same, for the words as they lie in memory
pub words_take : (words : List (Bor Bytes)) (rest line more : Bytes) → shown words ≡ words_of (without_return line) → lines_of rest ≡ front_line line (lines_of more) →
    length words + 1 + length more ≤ length rest
words_take words rest line more are is =
    let same : length words ≡ length (words_of (without_return line)) = sym (length-map words (λ (w : Bor Bytes). w.now)) ∙ ap length are in
    omega (arith, same, line_takes rest line more is)
