-- An input and what stands behind the lines that were passed.
use Rattle.log_fit.proofs.Common.{[], ℕ, ◌++◌, ◌-◌, ◌==◌, ◌∙◌, ◌∷◌, ◌≡◌, ◌≤◌, ap, append-nil, append_assoc, arith, Bool, Bytes, cases_Bool, codes, CutLines, eqb-true, false, front_line, if◌then◌else◌, inl, inr, is, length, length-append}
use Rattle.log_fit.proofs.Common.{lines_of, List, None, one_left, put_first, refl, Some, sym, take, true, without_return}
use Rattle.std.proofs.Math.Seq.{take-append_seam}
use Rattle.log_fit.specs.Parts.{joined, onto_file, parts_from, parts_of}

-- lines, joined again
join_put : (b : ℕ) (ls : List Bytes) (left : Bytes) → joined (put_first b ls left).ended (put_first b ls left).left ≡ b ∷ joined ls left
join_put b [] left = refl
join_put b (l ∷ ls) left = refl

pub joined_lines : (bytes : Bytes) → joined (lines_of bytes).ended (lines_of bytes).left ≡ bytes
joined_lines [] = refl
joined_lines (b ∷ bs) =
    elim (cases_Bool (b == 10)) [
      | inl newline ↦ let is : b ≡ 10 = eqb-true b 10 newline in rw newline (rw is (ap (λ rest. 10 ∷ rest) (joined_lines bs)))
      | inr other ↦ rw other (join_put b (lines_of bs).ended (lines_of bs).left ∙ ap (λ rest. b ∷ rest) (joined_lines bs))
    ]

-- what stands behind the lines that were passed, none of which is `log`
pub record IsBehind (input rest : Bytes) : Type 0 where
  pub front : Bytes
  pub whole : input ≡ front ++ rest
  pub parts : parts_of input ≡ onto_file front (parts_of rest)

line_of : (rest line more : Bytes) → lines_of rest ≡ front_line line (lines_of more) → rest ≡ line ++ 10 ∷ more
line_of rest line more cut = sym (joined_lines rest) ∙ ap (λ c. joined c.ended c.left) cut ∙ ap (λ bs. line ++ 10 ∷ bs) (joined_lines more)

module _ (input rest : Bytes) (b : IsBehind input rest) where
  -- so many bytes were passed
  front_is : take (length input - length rest) input ≡ b.front
  front_is =
      let many : length input - length rest ≡ length b.front = (let l = ap length b.whole ∙ length-append b.front rest in omega arith) in
      ap (λ n. take n input) many ∙ ap (take (length b.front)) b.whole ∙ take-append_seam b.front rest

  module _ (line more : Bytes) (cut : lines_of rest ≡ front_line line (lines_of more)) where
    at_line : (t : Bool) → is (codes "log") (without_return line) ≡ t
        → parts_of input ≡ onto_file b.front (if t then record { file = []; log = Some (joined (lines_of more).ended (lines_of more).left) } else onto_file (line ++ 10 ∷ []) (parts_of more))
    at_line t same = b.parts ∙ rw (cut, same) refl

    -- behind one line more
    pub passed : is (codes "log") (without_return line) ≡ false → IsBehind input more
    passed other = record {
      front = b.front ++ (line ++ 10 ∷ []);
      whole = b.whole ∙ ap (λ bs. b.front ++ bs) (line_of rest line more cut ∙ sym (append_assoc line (10 ∷ []) more)) ∙ sym (append_assoc b.front (line ++ 10 ∷ []) more);
      parts = at_line false other ∙ ap (λ f. record { file = f; log = (parts_of more).log }) (sym (append_assoc b.front (line ++ 10 ∷ []) (parts_of more).file));
    }

    -- the line `log`
    pub found : is (codes "log") (without_return line) ≡ true → record { file = take (length input - length rest) input; log = Some more } ≡ parts_of input
    found same =
        ap (λ f. record { file = f; log = Some more }) (front_is ∙ sym (append-nil b.front))
        ∙ ap (λ bs. record { file = b.front ++ []; log = Some bs }) (sym (joined_lines more)) ∙ sym (at_line true same)
