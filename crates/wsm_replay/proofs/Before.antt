-- What the entries in front of an entry tell of the values before it.
use Rattle.wsm_replay.proofs.Common.{[], ℕ, ◌++◌, ◌+◌, ◌<◌, ◌∙◌, ◌∷◌, ◌≡◌, add-one, ap, drop, drop-cons, Entry, get_or, length, List, noted_entries, noted_entry, Rises, rises-parts, subst, suc, sym, take, value_before, value_below}
use Rattle.wsm_replay.proofs.Common.{value_noted}
use Rattle.std.proofs.{Math.Seq.take-suc, lemmas.List.take-append-drop}
use Rattle.wsm_trail.proofs.Cutting.{noted_entries-push}

split_at : (es : List (ℕ × Entry)) (i : ℕ) (e : ℕ × Entry) → i < length es → e ≡ get_or es i e → es ≡ take i es ++ e ∷ drop (suc i) es
split_at es i e lt is_there =
    sym (take-append-drop i es) ∙ ap (λ l. take i es ++ l) (drop-cons es i e lt ∙ ap (λ x. x ∷ drop (suc i) es) (sym is_there))

-- the rows of the entries in front tell the values at an entry's position
pub values_told : (entries es : List (ℕ × Entry)) (rows : List (ℕ × ℕ)) (i next : ℕ) (e : ℕ × Entry) → es ≡ entries → Rises 1 next es → i < length es → e ≡ get_or es i e →
    rows ≡ noted_entries (take i es) → (λ d. value_below d e.0 entries) ≡ value_noted entries rows
values_told entries es rows i next e same rises lt is_there told =
    ap (λ l. λ d. value_below d e.0 l) (sym same ∙ split)
    ∙ (λ j d. value_before d e.0 next (take i es) (e ∷ drop (suc i) es) parts.0 parts.1 j)
    ∙ ap (λ l. value_noted l (noted_entries (take i es))) (sym split ∙ same)
    ∙ ap (value_noted entries) (sym told)
  where
    split : es ≡ take i es ++ e ∷ drop (suc i) es
    split = split_at es i e lt is_there

    parts : Rises 1 e.0 (take i es) × Rises e.0 next (e ∷ drop (suc i) es)
    parts = rises-parts 1 next (take i es) (drop (suc i) es) e (subst (Rises 1 next) split rises)

pub noted_next : (es : List (ℕ × Entry)) (i : ℕ) (e : ℕ × Entry) → i < length es → e ≡ get_or es i e → noted_entry (noted_entries (take i es)) e ≡ noted_entries (take (i + 1) es)
noted_next es i e lt is_there =
    rw add-one (sym (noted_entries-push e.0 e.1 (take i es)) ∙ ap noted_entries (ap (λ x. take i es ++ x ∷ []) is_there ∙ sym (take-suc es i e lt)))
