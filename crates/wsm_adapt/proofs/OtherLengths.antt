-- Lists of other lengths do not fit.
use Rattle.wsm_adapt.proofs.Common.{[], ℕ, ◌∷◌, ◌≡◌, ◌≢◌, and_right, arith, Bool, edges_fit, ElementKind, false, length, List, Option, reads_fit, refl, Value}

pub edges-lengths : (a b : List (ℕ × ElementKind)) (cs ds : List ℕ) → length cs ≢ length ds → edges_fit a b cs ds ≡ false
edges-lengths a b [] [] h = absurd (h refl)
edges-lengths a b [] (d ∷ ds) h = refl
edges-lengths a b (c ∷ cs) [] h = refl
edges-lengths a b (c ∷ cs) (d ∷ ds) h = and_right _ _ (edges-lengths a b cs ds (λ e. h (omega arith)))

pub reads-lengths : (rs : List (ℕ × Option Value)) (es : List (ℕ × Bool)) → length rs ≢ length es → reads_fit rs es ≡ false
reads-lengths [] [] h = absurd (h refl)
reads-lengths [] (e ∷ es) h = refl
reads-lengths (r ∷ rs) [] h = refl
reads-lengths (r ∷ rs) (e ∷ es) h = and_right _ _ (reads-lengths rs es (λ q. h (omega arith)))
