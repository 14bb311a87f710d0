-- Lines that line feeds end, put together and cut.
use Rattle.line_readers.proofs.Common.{[], ℕ, ◌++◌, ◌==◌, ◌∙◌, ◌∷◌, ◌≡◌, AllRows, ap, Bool, Bytes, CutLines, ending, eqb-true, false, front_line, IsOneLine, lines_of, List, onto_lines, put_first, refl, sym, true}

-- a line in front of others is cut off them
pub cut-line : (l rest : Bytes) → IsOneLine l → lines_of (l ++ 10 ∷ rest) ≡ front_line l (lines_of rest)
cut-line [] rest one = refl
cut-line (b ∷ l) rest (other, one) = ap (onto_lines b) (cut-line l rest one) ∙ rw other refl

pub cut-ending : (ls : List Bytes) → AllRows IsOneLine ls → lines_of (ending ls) ≡ record { ended = ls; left = [] }
cut-ending [] all = refl
cut-ending (l ∷ ls) (one, all) = cut-line l (ending ls) one ∙ ap (front_line l) (cut-ending ls all)

-- the lines that a text is cut into make it up
abbrev together : CutLines → Bytes
together cut = ending cut.ended ++ cut.left

put-together : (b : ℕ) (ls : List Bytes) (left : Bytes) → together (put_first b ls left) ≡ b ∷ (ending ls ++ left)
put-together b [] left = refl
put-together b (l ∷ ls) left = refl

onto-together : (b : ℕ) (cut : CutLines) (test : Bool) → (b == 10) ≡ test → together (onto_lines b cut) ≡ b ∷ together cut
onto-together b cut true is = let same : b ≡ 10 = eqb-true b 10 is in rw is (ap (λ x. x ∷ together cut) (sym same))
onto-together b cut false is = rw is (put-together b cut.ended cut.left)

pub cut-together : (bytes : Bytes) → ending (lines_of bytes).ended ++ (lines_of bytes).left ≡ bytes
cut-together [] = refl
cut-together (b ∷ bytes) = onto-together b (lines_of bytes) (b == 10) refl ∙ ap (λ bs. b ∷ bs) (cut-together bytes)
