-- The first line, and the bytes behind it.
use Rattle.std.proofs.{Common.{◌≡◌, ℕ, suc, ◌-◌, false, [], ◌∷◌, take, drop, length, ◌++◌, ◌≤◌, append-nil, take_all, refl, ap, sym, ◌∙◌, inl, inr, arith, ◌<◌, ◌==◌}, lemmas.Bool.cases_Bool, lemmas.List.take-append-drop}
use Rattle.file_words.specs.Lines.{Bytes, CutLines, lines_of, onto_lines, one_left, front_line, line_end}

-- a line and what begins with its line feed, or what is left
abbrev pub after_feed : Bytes → Bytes → CutLines
after_feed line [] = one_left line
after_feed line (feed ∷ rest) = front_line line (lines_of rest)

pub onto_after_feed : (b : ℕ) (line rest : Bytes) → (b == 10) ≡ false → onto_lines b (after_feed line rest) ≡ after_feed (b ∷ line) rest
onto_after_feed b line [] other = rw other refl
onto_after_feed b line (feed ∷ rest) other = rw other refl

pub feed_split : (bs : Bytes) → lines_of bs ≡ after_feed (take (line_end bs) bs) (drop (line_end bs) bs)
feed_split [] = refl
feed_split (b ∷ bs) =
    elim (cases_Bool (b == 10)) [
      | inl is_feed ↦ rw is_feed refl
      | inr other ↦
          let here : onto_lines b (lines_of bs) ≡ after_feed (b ∷ take (line_end bs) bs) (drop (line_end bs) bs) =
          rw (feed_split bs) (onto_after_feed b (take (line_end bs) bs) (drop (line_end bs) bs) other) in
          rw other (rw other at here)
    ]

pub no_line : (bs rest : Bytes) → rest ≡ drop (line_end bs) bs → length rest < 1 → lines_of bs ≡ one_left bs
no_line bs [] is less =
    let whole : bs ≡ take (line_end bs) bs ++ drop (line_end bs) bs = sym (take-append-drop (line_end bs) bs) in
    let front : bs ≡ take (line_end bs) bs ++ [] = rw (sym is) at whole in
    let same : take (line_end bs) bs ≡ bs = sym (append-nil (take (line_end bs) bs)) ∙ sym front in
    feed_split bs ∙ (rw (sym is) (ap one_left same))
no_line bs (b ∷ rest) is less = absurd (omega (arith, less))

pub a_line : (bs line rest : Bytes) → line ≡ take (line_end bs) bs → rest ≡ drop (line_end bs) bs → 1 ≤ length rest →
    lines_of bs ≡ front_line line (lines_of (take (length rest - 1) (drop 1 rest)))
a_line bs line [] is_line is less = absurd (omega (arith, less))
a_line bs line (b ∷ rest) is_line is less =
    let all : take (suc (length rest) - 1) rest ≡ rest = take_all (suc (length rest) - 1) rest (omega arith) in
    let here : lines_of bs ≡ front_line line (lines_of rest) = feed_split bs ∙ rw (sym is, sym is_line) refl in
    here ∙ ap (λ r. front_line line (lines_of r)) (sym all)
