-- A line that is cut byte by byte has its words.
use Rattle.talk_items.proofs.Common.{[], ℕ, ◌++◌, ◌∙◌, ◌∷◌, ◌≡◌, ap, append-nil, append_assoc, behind, Bool, Bytes, Cut, cut, cut_from, cut_more, cuts, false, fields, filter, if◌then◌else◌, is_word, List, onto_fields, onto_first, refl, sym}
use Rattle.talk_items.proofs.Common.{true, with_last, words_of}
use Rattle.file_words.specs.declared.words.Quote.{Quote}
use Rattle.file_words.specs.declared.words.Quote.TheVariants as quotes

pub cut-more : (c : Cut) (bs : Bytes) (b : ℕ) → cut_from c (bs ++ b ∷ []) ≡ cut_more (cut_from c bs) b
cut-more c [] b = refl
cut-more c (x ∷ bs) b = cut-more (cut_more c x) bs b

-- bytes in front of the first field
pub onto : Bytes → List Bytes → List Bytes
onto word [] = word ∷ []
onto word (f ∷ fs) = (word ++ f) ∷ fs

onto-none : (q : Quote) (bs : Bytes) → onto [] (fields q bs) ≡ fields q bs
unfolding onto
onto-none q [] = refl
onto-none q (b ∷ bs) = chosen (cuts q b) (fields (behind q b) bs)
  where
    chosen : (is : Bool) (fs : List Bytes) → onto [] (onto_fields is b fs) ≡ onto_fields is b fs
    chosen true fs = refl
    chosen false [] = refl
    chosen false (f ∷ fs) = refl

onto-byte : (word : Bytes) (b : ℕ) (fs : List Bytes) → onto word (onto_first b fs) ≡ onto (word ++ b ∷ []) fs
unfolding onto
onto-byte word b [] = refl
onto-byte word b (f ∷ fs) = ap (λ w. w ∷ fs) (sym (append_assoc word (b ∷ []) f))

word-first : (word : Bytes) (fs : List Bytes) → filter is_word (word ∷ fs) ≡ filter is_word (word ∷ []) ++ filter is_word fs
word-first [] fs = refl
word-first (b ∷ word) fs = refl

pub words-cut : (c : Cut) (bs : Bytes) → c.words ++ filter is_word (onto c.word (fields c.quote bs)) ≡ with_last (cut_from c bs)
unfolding onto
words-cut c [] = ap (λ w. c.words ++ filter is_word (w ∷ [])) (append-nil c.word)
words-cut c (b ∷ bs) = chosen (cuts c.quote b) (words-cut (record { words = with_last c; word = []; quote = behind c.quote b }) bs) (words-cut (record { words = c.words; word = c.word ++ b ∷ []; quote = behind c.quote b }) bs)
  where
    chosen : (is : Bool)
        → with_last c ++ filter is_word (onto [] (fields (behind c.quote b) bs)) ≡ with_last (cut_from (record { words = with_last c; word = []; quote = behind c.quote b }) bs)
        → c.words ++ filter is_word (onto (c.word ++ b ∷ []) (fields (behind c.quote b) bs)) ≡ with_last (cut_from (record { words = c.words; word = c.word ++ b ∷ []; quote = behind c.quote b }) bs)
        → c.words ++ filter is_word (onto c.word (onto_fields is b (fields (behind c.quote b) bs)))
        ≡ with_last (cut_from (if is then record { words = with_last c; word = []; quote = behind c.quote b } else record { words = c.words; word = c.word ++ b ∷ []; quote = behind c.quote b }) bs)
    chosen true anew on =
        ap (λ w. c.words ++ filter is_word (w ∷ fields (behind c.quote b) bs)) (append-nil c.word)
        ∙ ap (λ ws. c.words ++ ws) (word-first c.word (fields (behind c.quote b) bs))
        ∙ sym (append_assoc c.words (filter is_word (c.word ∷ [])) (filter is_word (fields (behind c.quote b) bs)))
        ∙ ap (λ fs. with_last c ++ filter is_word fs) (sym (onto-none (behind c.quote b) bs))
        ∙ anew
    chosen false anew on = ap (λ fs. c.words ++ filter is_word fs) (onto-byte c.word b (fields (behind c.quote b) bs)) ∙ on

pub words-of-cut : (line : Bytes) → words_of line ≡ with_last (cut line)
words-of-cut line = ap (filter is_word) (sym (onto-none quotes.Outside line)) ∙ words-cut (record { words = []; word = []; quote = quotes.Outside }) line

pub cut-once-more : (line : Bytes) (b : ℕ) → cut (line ++ b ∷ []) ≡ cut_more (cut line) b
cut-once-more line b = cut-more (record { words = []; word = []; quote = quotes.Outside }) line b
