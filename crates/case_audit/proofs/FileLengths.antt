-- The length of a process file in front of a report, line by line.
use Rattle.case_audit.proofs.Common.{ℕ, ◌++◌, ◌+◌, ◌∙◌, ◌∷◌, ◌≡◌, ap, append_assoc, arith, before_report, begins_report, Bytes, CutLines, ending, file_length, front_line, if◌then◌else◌, length, length-append, lines_of, suc, sym}
use Rattle.line_readers.proofs.Lines.{cut-together}

abbrev before : CutLines → ℕ
before cut = before_report cut.ended cut.left

pub line-length : (rest line more : Bytes) → lines_of rest ≡ front_line line (lines_of more) → file_length rest ≡ (if begins_report line then 0 else length line + suc (file_length more))
line-length rest line more is = ap before is

-- the line, its line feed, and the rest
pub line-and-rest : (rest line more : Bytes) → lines_of rest ≡ front_line line (lines_of more) → length rest ≡ length line + 1 + length more
line-and-rest rest line more is =
    let there : rest ≡ line ++ 10 ∷ more =
    sym (cut-together rest) ∙ (ap (λ (cut : CutLines). ending cut.ended ++ cut.left) is ∙ append-behind) in
    ap length there ∙ (length-append line (10 ∷ more) ∙ omega arith)
  where
    append-behind : (line ++ 10 ∷ ending (lines_of more).ended) ++ (lines_of more).left ≡ line ++ 10 ∷ more
    append-behind = append_assoc line (10 ∷ ending (lines_of more).ended) (lines_of more).left ∙ ap (λ bs. line ++ 10 ∷ bs) (cut-together more)
