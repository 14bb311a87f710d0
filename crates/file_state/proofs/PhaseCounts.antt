-- The phases of a file with one more.
use Rattle.std.proofs.{Common.{◌≡◌, ℕ, ◌+◌, List, [], ◌∷◌, ◌++◌, length, ap, sym, ◌∙◌, arith}, lemmas.Bool.Decides.nat_tests, lemmas.List.length_push}
use Rattle.std.specs.Prelude.{nat_le}
use Rattle.file_model.specs.declared.files.Line.{Line}

one_more : (n : ℕ) → nat_le 255 n ≡ nat_le 256 (n + 1)
one_more n = grind (arith, nat_tests)

pub one_phase_more : (phases : List (List Line)) (lines : List Line) → nat_le 255 (length phases) ≡ nat_le 256 (length (phases ++ lines ∷ []))
one_phase_more phases lines = one_more (length phases) ∙ ap (nat_le 256) (sym (length_push phases lines))
