-- Where a text ends, and where no line is wanted.
use Rattle.std.proofs.{Common.{◌≡◌, ℕ, ◌+◌, ◌≤◌, List, [], ◌∷◌, length, drop, refl, ap, ◌∙◌, arith}, lemmas.List.drop_all}
use Rattle.text_follower.specs.Followed.{behind_lines, same_front}

-- nothing is the same as what is not there
pub none-there : (piece : List ℕ) → same_front piece [] ≡ 0
none-there [] = refl
none-there (x ∷ xs) = refl

pub no_line : (bytes : List ℕ) → behind_lines 0 bytes ≡ 0
no_line [] = refl
no_line (b ∷ bs) = refl

-- the count of what is the same where the text is at its end
pub at_end : (n : ℕ) (piece text : List ℕ) → length text ≤ n → n + same_front (drop n piece) (drop n text) ≡ same_front piece text → n ≡ same_front piece text
at_end n piece text past same =
    let none : same_front (drop n piece) (drop n text) ≡ 0 = ap (same_front (drop n piece)) (drop_all n text past) ∙ none-there (drop n piece) in
    omega (arith, same, none)
