-- The first word of a line, and those behind it.
use Rattle.std.proofs.{Common.{◌≡◌, ℕ, suc, ◌+◌, true, false, List, [], ◌∷◌, filter, take, drop, length, refl, ap, sym, ◌∙◌, IsTrue, inl, inr, arith, ◌<◌, ◌==◌, get_or, rules}, lemmas.Bool.cases_Bool}
use Rattle.file_words.specs.{Lines.Bytes, Words.{cuts, behind, fields, is_word, words_of, word_end, is_bare, bare_end, begins_word}, declared.words.Quote.Quote}
use Rattle.file_words.specs.declared.words.Quote.TheVariants.{Outside, Inside, Escaped}

-- a blank that cuts stands outside, and so does what follows it
pub cut_is_outside : (q : Quote) (b : ℕ) → cuts q b ≡ true → q ≡ Outside
cut_is_outside Outside b is_cut = refl
cut_is_outside Inside b is_cut = cc
cut_is_outside Escaped b is_cut = cc

-- a blank in front changes nothing
pub words_past_blank : (b : ℕ) (bs : Bytes) → cuts Outside b ≡ true → words_of (b ∷ bs) ≡ filter is_word (fields (behind Outside b) bs)
words_past_blank b bs is_cut = rw is_cut refl

-- the first field is what stands before the first cut, and the rest are those behind it
pub fields_split : (q : Quote) (bs : Bytes) → (tail : List Bytes) × (fields q bs ≡ take (word_end q bs) bs ∷ tail) × (filter is_word tail ≡ words_of (drop (word_end q bs) bs))
fields_split q [] = ([], refl, refl)
fields_split q (b ∷ bs) =
    let goes_on = fields_split (behind q b) bs in
    elim (cases_Bool (cuts q b)) [
      | inl is_cut ↦
          let here : q ≡ Outside = cut_is_outside q b is_cut in
          let cut_here : cuts Outside b ≡ true = rw here at is_cut in
          let same : filter is_word (fields (behind q b) bs) ≡ words_of (b ∷ bs) = rw here (sym (words_past_blank b bs cut_here)) in
          (fields (behind q b) bs, rw is_cut refl, rw is_cut same)
      | inr other ↦ (goes_on.0, rw (other, goes_on.1) refl, rw other goes_on.2)
    ]

-- a word that is not empty, where no blank stands in front
pub begun : (b : ℕ) (bs : Bytes) → IsTrue (begins_word (b ∷ bs)) → cuts Outside b ≡ false
begun b bs w = search rules

-- the first word, and the words behind it
pub first_word_split : (bs : Bytes) → IsTrue (begins_word bs) → 0 < length bs → words_of bs ≡ take (word_end Outside bs) bs ∷ words_of (drop (word_end Outside bs) bs)
first_word_split [] w more = absurd (omega (arith, more))
first_word_split (b ∷ bs) w more =
    let split = fields_split Outside (b ∷ bs) in
    let no_cut : cuts Outside b ≡ false = begun b bs w in
    let behind_it : filter is_word split.0 ≡ words_of (drop (suc (word_end (behind Outside b) bs)) (b ∷ bs)) = rw no_cut at split.2 in
    ap (filter is_word) split.1 ∙ rw no_cut (ap (λ ws. (b ∷ take (word_end (behind Outside b) bs) bs) ∷ ws) behind_it)

-- a bare byte cuts nothing, and what follows it stands outside as well
pub bare_is_no_blank : (b : ℕ) → is_bare b ≡ true → cuts Outside b ≡ false
bare_is_no_blank b is = grind arith

pub bare_is_no_quote : (b : ℕ) → is_bare b ≡ true → (b == 34) ≡ false
bare_is_no_quote b is = grind arith

-- behind its bare bytes the word goes on as from its front
pub bare_first : (bs : Bytes) → bare_end bs + word_end Outside (drop (bare_end bs) bs) ≡ word_end Outside bs
bare_first [] = refl
bare_first (b ∷ bs) =
    elim (cases_Bool (is_bare b)) [
      | inl is ↦
          let rest : suc (bare_end bs) + word_end Outside (drop (bare_end bs) bs) ≡ suc (word_end Outside bs) = omega (arith, bare_first bs) in
          rw (is, bare_is_no_blank b is, bare_is_no_quote b is) rest
      | inr other ↦ rw other (omega arith)
    ]

-- any other byte but a quotation mark cuts
pub other_cuts : (b : ℕ) → is_bare b ≡ false → (b ≡ 34 → ⊥) → cuts Outside b ≡ true
other_cuts b other no_quote = grind arith

-- where no quotation mark stands behind them, they are the word
pub bare_whole : (bs : Bytes) → (bare_end bs < length bs → get_or bs (bare_end bs) 0 ≡ 34 → ⊥) → word_end Outside bs ≡ bare_end bs
bare_whole [] no_quote = refl
bare_whole (b ∷ bs) no_quote =
    elim (cases_Bool (is_bare b)) [
      | inl is ↦
          let further : bare_end bs < length bs → get_or bs (bare_end bs) 0 ≡ 34 → ⊥ = λ lt same. (rw is at no_quote) (omega arith) same in
          rw (is, bare_is_no_blank b is, bare_is_no_quote b is) (ap suc (bare_whole bs further))
      | inr other ↦
          let cut_here : cuts Outside b ≡ true = other_cuts b other (λ same. (rw other at no_quote) (omega arith) same) in
          rw (other, cut_here) refl
    ]
