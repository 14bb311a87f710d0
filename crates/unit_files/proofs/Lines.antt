-- Bytes behind bytes that end with a line feed have their lines behind those.
use Rattle.unit_files.proofs.Common.{[], ℕ, ◌++◌, ◌==◌, ◌∙◌, ◌∷◌, ◌≡◌, ap, Bool, Bytes, CutLines, false, IsWhole, lines_of, List, onto_lines, put_first, refl, true}

-- what is left of the first bytes goes in front of the first line of the others
abbrev onto_left : Bytes → CutLines → CutLines
onto_left [] ls = ls
onto_left (b ∷ bs) ls = put_first b (onto_left bs ls).ended (onto_left bs ls).left

abbrev in_front : CutLines → CutLines → CutLines
in_front ls ms = record { ended = ls.ended ++ (onto_left ls.left ms).ended; left = (onto_left ls.left ms).left }

put-front : (b : ℕ) (ls : List Bytes) (left : Bytes) (ms : CutLines) → put_first b (ls ++ (onto_left left ms).ended) (onto_left left ms).left ≡ in_front (put_first b ls left) ms
put-front b [] left ms = refl
put-front b (l ∷ ls) left ms = refl

onto-front : (b : ℕ) (ls ms : CutLines) (test : Bool) → (b == 10) ≡ test → onto_lines b (in_front ls ms) ≡ in_front (onto_lines b ls) ms
onto-front b ls ms true is = rw is refl
onto-front b ls ms false is = rw is (put-front b ls.ended ls.left ms)

lines-behind : (a b : Bytes) → lines_of (a ++ b) ≡ in_front (lines_of a) (lines_of b)
lines-behind [] b = refl
lines-behind (x ∷ a) b = ap (onto_lines x) (lines-behind a b) ∙ onto-front x (lines_of a) (lines_of b) (x == 10) refl

pub whole-lines : (a b : Bytes) → IsWhole a → lines_of (a ++ b) ≡ record { ended = (lines_of a).ended ++ (lines_of b).ended; left = (lines_of b).left }
whole-lines a b whole =
    lines-behind a b ∙ ap (λ (left : Bytes). in_front (record { ended = (lines_of a).ended; left = left }) (lines_of b)) whole
