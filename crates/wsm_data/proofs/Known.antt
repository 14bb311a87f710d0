-- What a lookup says of the cards and of the elements.
use Rattle.wsm_data.proofs.Common.{[], ℕ, ◌||◌, ◌∙◌, ◌∷◌, ◌≡◌, ap, Bool, both_ways, Card, card_at, cases_Bool, eqb, eqb-true, false, inl, inr, is_one_of, is_some, is_worked_on_in, kind_in, List, list_any, nodes_of, None, or_left, or_right}
use Rattle.wsm_data.proofs.Common.{refl, Some, sym, true, twice, works}
use Rattle.wsm_lists.specs.declared.values.ElementKind.{ElementKind}
use Rattle.wsm_schema.specs.Kinds.{worked_on}

-- a number that stood earlier stands nowhere later
none-later : (seen : List ℕ) (cards : List Card) (n : ℕ) → twice seen (nodes_of cards) ≡ None → is_one_of n seen ≡ true → is_worked_on_in cards n ≡ false
none-later seen [] n distinct old = refl
none-later seen (c ∷ cs) n distinct old =
    elim (cases_Bool (is_one_of c.node seen)) [
      | inl again ↦ let bad : Some c.node ≡ None = rw again at distinct in absurd (cc)
      | inr fresh ↦ elim (cases_Bool (eqb c.node n)) [
        | inl same ↦ absurd (both_ways _ fresh (ap (λ k. is_one_of k seen) (eqb-true c.node n same) ∙ old))
        | inr other ↦ rw other (none-later (c.node ∷ seen) cs n (rw fresh at distinct) (or_right (eqb c.node n) _ old))
      ]
    ]

first-works : (seen : List ℕ) (cards : List Card) (n : ℕ) → twice seen (nodes_of cards) ≡ None → works (card_at n cards) ≡ is_worked_on_in cards n
first-works seen [] n distinct = refl
first-works seen (c ∷ cs) n distinct =
    elim (cases_Bool (is_one_of c.node seen)) [
      | inl again ↦ let bad : Some c.node ≡ None = rw again at distinct in absurd (cc)
      | inr fresh ↦
          let later : twice (c.node ∷ seen) (nodes_of cs) ≡ None = rw fresh at distinct in
          elim (cases_Bool (eqb c.node n)) [
            | inl same ↦ rw (same, none-later (c.node ∷ seen) cs n later (or_left (eqb c.node n) _ same)) (sym (or-false' (worked_on c.kind)))
            | inr other ↦ rw other (first-works (c.node ∷ seen) cs n later)
          ]
    ]
  where
    or-false' : (b : Bool) → (b || false) ≡ b
    or-false' true = refl
    or-false' false = refl

-- where the numbers are distinct, the first card of a node decides whether it is worked on
pub works-is : (cards : List Card) (n : ℕ) → twice [] (nodes_of cards) ≡ None → works (card_at n cards) ≡ is_worked_on_in cards n
works-is cards n distinct = first-works [] cards n distinct

-- an element with a kind is listed
pub listed-is : (d : ℕ) (elements : List (ℕ × ElementKind)) → is_some (kind_in d elements) ≡ list_any (λ e. eqb e.0 d) elements
listed-is d [] = refl
listed-is d (e ∷ es) =
    elim (cases_Bool (eqb e.0 d)) [
      | inl same ↦ rw same refl
      | inr other ↦ rw other (listed-is d es)
    ]
