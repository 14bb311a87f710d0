-- The script's lines, phase by phase.
use Rattle.case_audit.proofs.Common.{[], ℕ, ◌++◌, ◌+◌, ◌<◌, ◌∙◌, ◌∷◌, ◌≡◌, ap, arith, asked_in, AskedLine, get_or, length, length-map, length-take-le, List, map-append, script_of, sym, take, take_more, Vec}

pub script-more : {A : Type 0} (phases : List (Vec AskedLine A)) (i : ℕ) (row : Vec AskedLine A) → i < length phases → row ≡ get_or phases i row → script_of (take (i + 1) phases) ≡ script_of (take i phases) ++ asked_in row.items ∷ []
script-more phases i row low is =
    ap script_of (take_more phases i row low ∙ ap (λ v. take i phases ++ v ∷ []) (sym is)) ∙ map-append (λ v. asked_in v.items) (take i phases) (row ∷ [])

pub script-length : {A : Type 0} (phases : List (Vec AskedLine A)) (i : ℕ) → i < length phases → i ≡ length (script_of (take i phases))
script-length phases i low = sym (length-map (take i phases) (λ v. asked_in v.items) ∙ length-take-le i phases (omega (arith, low)))
