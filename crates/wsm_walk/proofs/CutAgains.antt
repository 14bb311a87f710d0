-- Which Agains a cut leaves.
use Rattle.wsm_walk.proofs.Common.{[], ℕ, ◌++◌, ◌∙◌, ◌∷◌, ◌≡◌, ap, Bool, both_ways, cases_Bool, cut_entries, Entries, Entry, eqb, eqb-true, false, find, if◌then◌else◌, inl, inr, is_again_of, is_one_of, List, None, Option, refl, Some, sym}
use Rattle.wsm_walk.proofs.Common.{true}
use Rattle.wsm_schema.specs.declared.entries.Entry.TheVariants as entry

abbrev again_in : ℕ → Entries → Option (ℕ × Entry)
again_in n es = find (λ x. is_again_of n x.1) es

-- nodes on two sides of the loop are two
sides : (body : List ℕ) (n k : ℕ) (b c : Bool) → is_one_of k body ≡ b → is_one_of n body ≡ c → (b ≡ c → ⊥) → eqb k n ≡ false
sides body n k b c at_k at_n apart =
    elim (cases_Bool (eqb k n)) [
      | inl same ↦ absurd (apart (sym at_k ∙ ap (λ j. is_one_of j body) (eqb-true k n same) ∙ at_n))
      | inr other ↦ other
    ]

module _ (body : List ℕ) (n : ℕ) where
  -- those of a node outside stay
  pub again-outside : is_one_of n body ≡ false → (es : Entries) → again_in n (cut_entries body es) ≡ again_in n es
  again-outside out [] = refl
  again-outside out ((q, entry.Start node user reads) ∷ es) = elim (cases_Bool (is_one_of node body)) [ inl it ↦ rw it (again-outside out es) | inr other ↦ rw other (again-outside out es) ]
  again-outside out ((q, entry.End node [] choice) ∷ es) = elim (cases_Bool (is_one_of node body)) [ inl it ↦ rw it (again-outside out es) | inr other ↦ rw other (again-outside out es) ]
  again-outside out ((q, entry.End node (w ∷ ws) choice) ∷ es) = elim (cases_Bool (is_one_of node body)) [ inl it ↦ rw it (again-outside out es) | inr other ↦ rw other (again-outside out es) ]
  again-outside out ((q, entry.Again node []) ∷ es) =
      elim (cases_Bool (is_one_of node body)) [
        | inl it ↦ rw (it, sides body n node true false it out (λ h. both_ways _ h refl)) (again-outside out es)
        | inr other ↦ rw other (ap (λ o. if eqb node n then Some (q, entry.Again node []) else o) (again-outside out es))
      ]
  again-outside out ((q, entry.Again node (w ∷ ws)) ∷ es) =
      elim (cases_Bool (is_one_of node body)) [
        | inl it ↦ rw (it, sides body n node true false it out (λ h. both_ways _ h refl)) (again-outside out es)
        | inr other ↦ rw other (ap (λ o. if eqb node n then Some (q, entry.Again node (w ∷ ws)) else o) (again-outside out es))
      ]
  again-outside out ((q, entry.Wrote writes) ∷ es) = again-outside out es

  -- those of a node of the loop go
  pub again-inside : is_one_of n body ≡ true → (es : Entries) → again_in n (cut_entries body es) ≡ None
  again-inside it [] = refl
  again-inside it ((q, entry.Start node user reads) ∷ es) = elim (cases_Bool (is_one_of node body)) [ inl in_k ↦ rw in_k (again-inside it es) | inr other ↦ rw other (again-inside it es) ]
  again-inside it ((q, entry.End node [] choice) ∷ es) = elim (cases_Bool (is_one_of node body)) [ inl in_k ↦ rw in_k (again-inside it es) | inr other ↦ rw other (again-inside it es) ]
  again-inside it ((q, entry.End node (w ∷ ws) choice) ∷ es) = elim (cases_Bool (is_one_of node body)) [ inl in_k ↦ rw in_k (again-inside it es) | inr other ↦ rw other (again-inside it es) ]
  again-inside it ((q, entry.Again node []) ∷ es) =
      elim (cases_Bool (is_one_of node body)) [
        | inl in_k ↦ rw in_k (again-inside it es)
        | inr other ↦ rw (other, sides body n node false true other it (λ h. both_ways _ (sym h) refl)) (again-inside it es)
      ]
  again-inside it ((q, entry.Again node (w ∷ ws)) ∷ es) =
      elim (cases_Bool (is_one_of node body)) [
        | inl in_k ↦ rw in_k (again-inside it es)
        | inr other ↦ rw (other, sides body n node false true other it (λ h. both_ways _ (sym h) refl)) (again-inside it es)
      ]
  again-inside it ((q, entry.Wrote writes) ∷ es) = again-inside it es

-- what is not found in a list is found behind it
pub find-after : {X : Type 0} (test : X → Bool) (xs ys : List X) → find test xs ≡ None → find test (xs ++ ys) ≡ find test ys
find-after test [] ys h = refl
find-after test (x ∷ xs) ys h =
    elim (cases_Bool (test x)) [
      | inl it ↦ let q : Some x ≡ None = rw it at h in absurd (cc)
      | inr other ↦ rw other (find-after test xs ys (rw other at h))
    ]
