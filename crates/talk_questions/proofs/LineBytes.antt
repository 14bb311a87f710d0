-- The bytes of a line, its line feed, and what stands behind it.
use Rattle.std.proofs.{Common.{◌≡◌, ◌==◌, ◌≤◌, ◌+◌, ℕ, Bool, true, false, List, [], ◌∷◌, ◌++◌, length, drop, refl, ap, sym, ◌∙◌, arith, if◌then◌else◌}, lemmas.List.length-append, Math.Seq.drop-append-add}
use Rattle.file_words.specs.Lines.{Bytes, CutLines, front_line, lines_of, onto_lines, put_first}

-- lines with their line feeds, and what is left
abbrev whole : List Bytes → Bytes → Bytes
whole [] left = left
whole (l ∷ ls) left = l ++ 10 ∷ whole ls left

put-whole : (b : ℕ) (ls : List Bytes) (left : Bytes) → (let made = put_first b ls left in whole made.ended made.left) ≡ b ∷ whole ls left
put-whole b [] left = refl
put-whole b (l ∷ ls) left = refl

onto-whole : (b : ℕ) (is : Bool) (ls : List Bytes) (left : Bytes) → (b == 10) ≡ is
    → (let made : CutLines = if is then record { ended = [] ∷ ls; left = left } else put_first b ls left in whole made.ended made.left) ≡ b ∷ whole ls left
onto-whole b true ls left is =
    let feed : 10 ≡ b = grind (arith, is) in
    ap (λ n. n ∷ whole ls left) feed
onto-whole b false ls left is = put-whole b ls left

-- bytes are their lines
all-whole : (bs : Bytes) → whole (lines_of bs).ended (lines_of bs).left ≡ bs
all-whole [] = refl
all-whole (b ∷ bs) = onto-whole b (b == 10) (lines_of bs).ended (lines_of bs).left refl ∙ ap (λ rest. b ∷ rest) (all-whole bs)

pub line-bytes : (rest line more : Bytes) → lines_of rest ≡ front_line line (lines_of more) → rest ≡ line ++ 10 ∷ more
line-bytes rest line more is =
    sym (all-whole rest)
    ∙ (ap (λ (ls : CutLines). whole ls.ended ls.left) is ∙ ap (λ bs. line ++ 10 ∷ bs) (all-whole more))

pub behind-line : (rest line more : Bytes) → lines_of rest ≡ front_line line (lines_of more) → more ≡ drop (length line + 1) rest
behind-line rest line more is = sym (ap (drop (length line + 1)) (line-bytes rest line more is) ∙ drop-append-add line (10 ∷ more) 1)

pub line-within : (rest line more : Bytes) → lines_of rest ≡ front_line line (lines_of more) → length line ≤ length rest
line-within rest line more is = omega (arith, ap length (line-bytes rest line more is), length-append line (10 ∷ more))
