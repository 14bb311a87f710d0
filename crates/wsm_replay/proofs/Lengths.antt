-- Lists of other lengths do not fit.
use Rattle.wsm_replay.proofs.Common.{[], ℕ, ◌∷◌, ◌≡◌, ◌≢◌, and_right, arith, Bool, false, fits_edges, fits_reads, length, List, Option, refl, Value}
use Rattle.wsm_lists.specs.declared.values.ElementKind.{ElementKind}

pub fits_edges_lengths : (elements : List (ℕ × ElementKind)) (ws : List (ℕ × Value)) (ds : List ℕ) → length ws ≢ length ds → fits_edges elements ws ds ≡ false
fits_edges_lengths elements [] [] h = absurd (h refl)
fits_edges_lengths elements [] (d ∷ ds) h = refl
fits_edges_lengths elements (w ∷ ws) [] h = refl
fits_edges_lengths elements (w ∷ ws) (d ∷ ds) h = and_right _ _ (fits_edges_lengths elements ws ds (λ e. h (omega arith)))

pub fits_reads_lengths : (value : ℕ → Option Value) (rs : List (ℕ × Option Value)) (es : List (ℕ × Bool)) → length rs ≢ length es → fits_reads value rs es ≡ false
fits_reads_lengths value [] [] h = absurd (h refl)
fits_reads_lengths value [] (e ∷ es) h = refl
fits_reads_lengths value (r ∷ rs) [] h = refl
fits_reads_lengths value (r ∷ rs) (e ∷ es) h = and_right _ _ (fits_reads_lengths value rs es (λ q. h (omega arith)))
