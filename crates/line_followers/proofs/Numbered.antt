-- Lines that are put at the end of what is owed, one after another, phase after phase.
use Rattle.line_followers.proofs.Common.{[], ℕ, ◌++◌, ◌+◌, ◌<◌, ◌==◌, ◌∙◌, ◌∷◌, ◌≡◌, ap, append-nil, append_assoc, arith, Bool, eq-eqb, false, filled, if◌then◌else◌, length, List, map, ne_eqb, refl, subst, suc, sym, true}
use Rattle.line_followers.specs.Numbered.{in_last, numbered_from, with_line, with_lines}

module _ {L : Type 0} where
  abbrev lines_in : ℕ × List L → List L
  lines_in q = q.1

  -- without their numbers they are the phases in which something is owed
  pub numbered-filled : (i : ℕ) (phases : List (List L)) → map lines_in (numbered_from i phases) ≡ filled phases
  numbered-filled i [] = refl
  numbered-filled i ([] ∷ phases) = numbered-filled (i + 1) phases
  numbered-filled i ((l ∷ ls) ∷ phases) = ap (λ ps. (l ∷ ls) ∷ ps) (numbered-filled (i + 1) phases)

  -- a phase begins
  pub numbered-begun : (i : ℕ) (phases : List (List L)) → numbered_from i (phases ++ [] ∷ []) ≡ numbered_from i phases
  numbered-begun i [] = refl
  numbered-begun i ([] ∷ phases) = numbered-begun (i + 1) phases
  numbered-begun i ((l ∷ ls) ∷ phases) = ap (λ ps. (i, l ∷ ls) ∷ ps) (numbered-begun (i + 1) phases)

  -- a phase in front takes no line of a later one
  front-stays : (p i : ℕ) (l : L) (ms : List L) (qs : List (ℕ × List L)) → i < p → with_line p l ((i, ms) ∷ qs) ≡ (i, ms) ∷ with_line p l qs
  front-stays p i l ms [] low = ap (λ test. if test then (i, ms ++ l ∷ []) ∷ [] else (i, ms) ∷ (p, l ∷ []) ∷ []) (ne_eqb i p (λ same. omega (arith, low, same)))
  front-stays p i l ms (q ∷ qs) low = refl

  -- the first line of the last phase, and one more
  last-line : (i : ℕ) (ls : List L) (l : L) → with_line i l (numbered_from i (ls ∷ [])) ≡ numbered_from i ((ls ++ l ∷ []) ∷ [])
  last-line i [] l = refl
  last-line i (m ∷ ms) l = ap (λ test. if test then (i, (m ∷ ms) ++ l ∷ []) ∷ [] else (i, m ∷ ms) ∷ (i, l ∷ []) ∷ []) (eq-eqb i i refl)

  pub numbered-line : (i : ℕ) (phases : List (List L)) (ls : List L) (l : L) → with_line (i + length phases) l (numbered_from i (phases ++ ls ∷ [])) ≡ numbered_from i (phases ++ (ls ++ l ∷ []) ∷ [])
  numbered-line i [] ls l = ap (λ n. with_line n l (numbered_from i (ls ∷ []))) (omega arith) ∙ last-line i ls l
  numbered-line i ([] ∷ phases) ls l =
      ap (λ n. with_line n l (numbered_from (i + 1) (phases ++ ls ∷ []))) (omega arith) ∙ numbered-line (i + 1) phases ls l
  numbered-line i ((m ∷ ms) ∷ phases) ls l =
      front-stays (i + length ((m ∷ ms) ∷ phases)) i l (m ∷ ms) (numbered_from (i + 1) (phases ++ ls ∷ [])) (omega arith)
      ∙ ap (λ qs. (i, m ∷ ms) ∷ qs) (ap (λ n. with_line n l (numbered_from (i + 1) (phases ++ ls ∷ []))) (omega arith) ∙ numbered-line (i + 1) phases ls l)

  -- all lines of a phase
  lines-more : (i : ℕ) (phases : List (List L)) (ms ls : List L) → with_lines (i + length phases) ls (numbered_from i (phases ++ ms ∷ [])) ≡ numbered_from i (phases ++ (ms ++ ls) ∷ [])
  lines-more i phases ms [] = ap (λ xs. numbered_from i (phases ++ xs ∷ [])) (sym (append-nil ms))
  lines-more i phases ms (l ∷ ls) =
      ap (with_lines (i + length phases) ls) (numbered-line i phases ms l)
      ∙ (lines-more i phases (ms ++ l ∷ []) ls ∙ ap (λ xs. numbered_from i (phases ++ xs ∷ [])) (append_assoc ms (l ∷ []) ls))

  pub numbered-lines : (phases : List (List L)) (ls : List L) → with_lines (length phases) ls (numbered_from 0 phases) ≡ numbered_from 0 (phases ++ ls ∷ [])
  numbered-lines phases ls =
      ap (with_lines (length phases) ls) (sym (numbered-begun 0 phases))
      ∙ (ap (λ n. with_lines n ls (numbered_from 0 (phases ++ [] ∷ []))) (omega arith) ∙ lines-more 0 phases [] ls)
