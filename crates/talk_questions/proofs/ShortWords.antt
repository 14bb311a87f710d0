-- No word of a line is longer than the line.
use Rattle.std.proofs.{Common.{◌≡◌, ◌==◌, ◌≤◌, ◌-◌, ℕ, suc, Bool, true, false, List, [], ◌∷◌, length, filter, take, arith, ap, sym, if◌then◌else◌}, lemmas.List.length-take}
use Rattle.std.specs.{Prelude.slice_index, List.onto_first}
use Rattle.file_words.specs.{Lines.{Bytes, without_return}, Words.{behind, cuts, fields, is_word, onto_fields, words_of}, declared.words.Quote.Quote}
use Rattle.file_words.specs.declared.words.Quote.TheVariants.{Outside}
use Rattle.talk_questions.specs.Trials.{AreShort}

pub longer : (m n : ℕ) (ws : List Bytes) → m ≤ n → AreShort m ws → AreShort n ws
longer m n [] within short = tt
longer m n (w ∷ ws) within short = (omega (arith, within, short.0), longer m n ws within short.1)

onto-short : (is_cut : Bool) (b n : ℕ) (ws : List Bytes) → AreShort n ws → AreShort (suc n) (onto_fields is_cut b ws)
onto-short true b n ws short = (omega arith, longer n (suc n) ws (omega arith) short)
onto-short false b n [] short = (omega arith, tt)
onto-short false b n (w ∷ ws) short = (omega (arith, short.0), longer n (suc n) ws (omega arith) short.1)

fields-short : (q : Quote) (bs : Bytes) → AreShort (length bs) (fields q bs)
fields-short q [] = (omega arith, tt)
fields-short q (b ∷ bs) = onto-short (cuts q b) b (length bs) (fields (behind q b) bs) (fields-short (behind q b) bs)

kept-short : (n : ℕ) (ws : List Bytes) → AreShort n ws → AreShort n (filter is_word ws)
kept-short n [] short = tt
kept-short n ([] ∷ ws) short = kept-short n ws short.1
kept-short n ((b ∷ w) ∷ ws) short = (short.0, kept-short n ws short.1)

shorter-line : (line : Bytes) → length (without_return line) ≤ length line
shorter-line line = by (slice_index line (length line - 1) == 13)
  where
    by : (test : Bool) → length (if test then take (length line - 1) line else line) ≤ length line
    by true = omega (arith, length-take (length line - 1) line)
    by false = omega arith

pub words-short : (n : ℕ) (line : Bytes) → length line ≤ n → AreShort n (words_of (without_return line))
words-short n line within =
    let own = without_return line in
    longer (length own) n (words_of own) (omega (arith, within, shorter-line line)) (kept-short (length own) (fields Outside own) (fields-short Outside own))
