-- Lookups in the table of sync edges.
use Rattle.wsm_data.proofs.{Common.{[], ℕ, ◌&&◌, ◌||◌, ◌∷◌, ◌≡◌, both, cases_Bool, eqb, inl, inr, is_some, List, list_any, refl, row_at, true}, Elements.or_swap}

-- an edge either way is there
pub synced-is : (a b : ℕ) (edges : List (ℕ × ℕ)) →
    (is_some (row_at both (a, b) edges) || is_some (row_at both (b, a) edges)) ≡ list_any (λ e. (eqb e.0 a && eqb e.1 b) || (eqb e.0 b && eqb e.1 a)) edges
synced-is a b [] = refl
synced-is a b (e ∷ es) =
    elim (cases_Bool (eqb e.0 a && eqb e.1 b)) [
      | inl forth ↦ rw forth refl
      | inr not_forth ↦ elim (cases_Bool (eqb e.0 b && eqb e.1 a)) [
        | inl back ↦ rw (not_forth, back) (or_swap (is_some (row_at both (a, b) es)) true)
        | inr not_back ↦ rw (not_forth, not_back) (synced-is a b es)
      ]
    ]
