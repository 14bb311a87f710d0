-- The cards from a node's first one on.
use Rattle.wsm_schema.proofs.Common.{[], ℕ, ◌+◌, ◌∙◌, ◌∷◌, ◌≡◌, ◌≤◌, ◌⊎◌, ap, arith, Card, cases_Bool, drop, eqb, from_node, inl, inr, length, List, map, None, Option, position_from, refl, Some, subst, suc, sym, zero}

abbrev pub node_of : Card → ℕ
node_of c = c.node

found-from : (n start : ℕ) (cards : List Card) →
    ((position_from (λ c. eqb c.node n) start cards ≡ None) × (from_node n (map node_of cards) ≡ []))
    ⊎ ((k : ℕ) × (position_from (λ c. eqb c.node n) start cards ≡ Some (start + k)) × (k ≤ length cards) × (map node_of (drop k cards) ≡ from_node n (map node_of cards)))
found-from n start [] = inl (refl, refl)
found-from n start (c ∷ cs) =
    elim (cases_Bool (eqb c.node n)) [
      | inl here ↦ let place : start ≡ start + 0 = omega arith in inr (0, rw here (ap Some place), omega arith, rw here refl)
      | inr other ↦
          elim (found-from n (start + 1) cs) [
            | inl none ↦ inl (rw other none.0, rw other none.1)
            | inr found ↦
                let place : (start + 1) + found.0 ≡ start + suc found.0 = omega arith in
                let within = found.2 in
                inr (suc found.0, rw other (found.1 ∙ ap Some place), omega (arith, within), rw other found.3)
          ]
    ]

pub none-from : (n : ℕ) (cards : List Card) → position_from (λ c. eqb c.node n) 0 cards ≡ None → [] ≡ from_node n (map node_of cards)
none-from n cards none =
    elim (found-from n 0 cards) [
      | inl absent ↦ sym absent.1
      | inr found ↦ let bad : Some (0 + found.0) ≡ None = sym found.1 ∙ none in absurd (cc)
    ]

pub cards-from : (n : ℕ) (cards : List Card) (place : ℕ) → position_from (λ c. eqb c.node n) 0 cards ≡ Some place →
    (place ≤ length cards) × (map node_of (drop place cards) ≡ from_node n (map node_of cards))
cards-from n cards place some =
    elim (found-from n 0 cards) [
      | inl absent ↦ let bad : None ≡ Some place = sym absent.0 ∙ some in absurd (cc)
      | inr found ↦
          let same : Some (0 + found.0) ≡ Some place = sym found.1 ∙ some in
          let here : 0 + found.0 ≡ place = cc in
          let there : place ≡ found.0 = omega (arith, here) in
          let within = found.2 in
          (omega (arith, there, within), ap (λ k. map node_of (drop k cards)) there ∙ found.3)
    ]

pub there : (n place : ℕ) (cards items : List Card) → position_from (λ c. eqb c.node n) 0 cards ≡ Some place → items ≡ cards →
    (place ≤ length items) × (map node_of (drop place items) ≡ from_node n (map node_of cards))
there n place cards items some same =
    let found = cards-from n cards place some in
    (subst (λ cs. place ≤ length cs) (sym same) found.0, ap (λ cs. map node_of (drop place cs)) same ∙ found.1)
