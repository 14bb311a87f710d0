-- Words between which single spaces stand.
use Rattle.std.proofs.{Common.{◌≡◌, ℕ, ◌+◌, ◌<◌, ◌≤◌, Bool, true, false, List, [], ◌∷◌, length, filter, sum_by, nat_eq, refl, sym, ap, ◌∙◌, arith, inl, inr, Bor, eq-eqb}, lemmas.List.Sums.sum_by-cons, lemmas.Bool.{cases_Bool, eqb-true}}
use Rattle.std.specs.{List.{list_all, list_any}, Str.is_utf8}
use Rattle.file_words.specs.{Lines.Bytes, Shown.shown, Words.{behind, cuts, fields, is_word, onto_fields, words_of}, declared.words.Quote.Quote}
use Rattle.file_words.specs.declared.words.Quote.TheVariants.{Outside}
use Rattle.log_records.specs.Forms.{is_spaced}

-- how long words are with a byte behind each
abbrev pub spread : List Bytes → ℕ
spread [] = 0
spread (w ∷ ws) = length w + 1 + spread ws

pub spread_shown : (ws : List (Bor Bytes)) → sum_by (λ w. length w.now + 1) ws ≡ spread (shown ws)
spread_shown [] = refl
spread_shown (w ∷ ws) = sum_by-cons (λ w. length w.now + 1) w ws ∙ ap (λ n. length w.now + 1 + n) (spread_shown ws)

-- a byte more, in the first field or as a field of its own
one_longer : (b : ℕ) (is_cut : Bool) (ws : List Bytes) → 0 < length ws → spread (onto_fields is_cut b ws) ≡ spread ws + 1
one_longer b true ws some = omega arith
one_longer b false [] some = absurd (omega arith)
one_longer b false (w ∷ ws) some = omega arith

some_field : (b : ℕ) (is_cut : Bool) (ws : List Bytes) → 0 < length (onto_fields is_cut b ws)
some_field b true ws = omega arith
some_field b false [] = omega arith
some_field b false (w ∷ ws) = omega arith

has_fields : (q : Quote) (bytes : Bytes) → 0 < length (fields q bytes)
has_fields q [] = omega arith
has_fields q (b ∷ bs) = some_field b (cuts q b) (fields (behind q b) bs)

spread_fields : (q : Quote) (bytes : Bytes) → spread (fields q bytes) ≡ length bytes + 1
spread_fields q [] = refl
spread_fields q (b ∷ bs) =
    let rest = spread_fields (behind q b) bs in
    let more = one_longer b (cuts q b) (fields (behind q b) bs) (has_fields (behind q b) bs) in
    omega arith

-- what is left where empty fields are left out
less : (ws : List Bytes) → spread (filter is_word ws) ≤ spread ws
less [] = omega arith
less ([] ∷ ws) = let rest = less ws in omega arith
less ((b ∷ bs) ∷ ws) = let rest = less ws in omega arith

none_empty : (ws : List Bytes) → spread (filter is_word ws) ≡ spread ws → list_all is_word ws ≡ true
none_empty [] same = refl
none_empty ([] ∷ ws) same = let rest = less ws in absurd (omega arith)
none_empty ((b ∷ bs) ∷ ws) same = none_empty ws (omega arith)

all_kept : (ws : List Bytes) → list_all is_word ws ≡ true → spread (filter is_word ws) ≡ spread ws
all_kept [] all = refl
all_kept ([] ∷ ws) all = cc
all_kept ((b ∷ bs) ∷ ws) all = let rest = all_kept ws all in omega arith

pub short_spread : (line : Bytes) → spread (words_of line) ≤ length line + 1
short_spread line = let whole = spread_fields Outside line in let some = less (fields Outside line) in omega arith

test : (line : Bytes) → nat_eq (spread (words_of line)) (length line + 1) ≡ list_all is_word (fields Outside line)
test line =
    elim (cases_Bool (list_all is_word (fields Outside line))) [
      | inl all ↦
          let same : spread (words_of line) ≡ length line + 1 = all_kept (fields Outside line) all ∙ spread_fields Outside line in
          eq-eqb _ _ same ∙ sym all
      | inr some ↦
          elim (cases_Bool (nat_eq (spread (words_of line)) (length line + 1))) [
            | inl equal ↦
                let whole = spread_fields Outside line in
                let same : spread (words_of line) ≡ length line + 1 = eqb-true _ _ equal in
                let all : list_all is_word (fields Outside line) ≡ true = none_empty (fields Outside line) (same ∙ sym whole) in
                equal ∙ sym all
            | inr other ↦ other ∙ sym some
          ]
    ]

pub spaced : (line : Bytes) → is_utf8 line ≡ true → list_any (λ b. nat_eq b 9) line ≡ false → nat_eq (spread (words_of line)) (length line + 1) ≡ is_spaced line
spaced line utf8 tabs = rw (utf8, tabs) (test line)
