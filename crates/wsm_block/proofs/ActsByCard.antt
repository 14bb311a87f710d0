-- Where nodes are distinct, the card of a node tells whether it is an activity.
use Rattle.wsm_block.proofs.Common.{[], ℕ, ◌||◌, ◌∙◌, ◌∷◌, ◌≡◌, AllRows, Bool, both_ways, Card, card_at, cases_Bool, eq-eqb, eqb, eqb-true, false, inl, inr, is_act_in, is_activity, is_one_of, List, nodes_of, None, Option, or_parts, refl}
use Rattle.wsm_block.proofs.{Common.{Some, subst, sym, true, twice}, CardRows.fresh-rows}

-- whether a card is an activity's
abbrev pub is_act : Option Card → Bool
is_act None = false
is_act (Some c) = is_activity c.kind

or_none : (a : Bool) → (a || false) ≡ a
or_none true = refl
or_none false = refl

-- a node that stood earlier is not there
absent : (n m : ℕ) (seen : List ℕ) (cs : List Card) → m ≡ n → AllRows (λ d. is_one_of d.node (m ∷ seen) ≡ false) cs → is_act_in cs n ≡ false
absent n m seen [] same h = refl
absent n m seen (d ∷ ds) same h =
    let parts = or_parts (eqb m d.node) (is_one_of d.node seen) h.0 in
    elim (cases_Bool (eqb d.node n)) [
      | inl here ↦ absurd (
          let at : d.node ≡ n = eqb-true d.node n here in
          let yes_it : eqb m d.node ≡ true = subst (λ x. eqb x d.node ≡ true) (at ∙ sym same) (eq-eqb d.node d.node refl) in
          both_ways _ parts.0 yes_it)
      | inr other ↦ rw other (absent n m seen ds same h.1)
    ]

by-card : (seen : List ℕ) (cards : List Card) (n : ℕ) → twice seen (nodes_of cards) ≡ None → is_act (card_at n cards) ≡ is_act_in cards n
by-card seen [] n h = refl
by-card seen (c ∷ cs) n h =
    elim (cases_Bool (is_one_of c.node seen)) [
      | inl old ↦ absurd (let bad : Some c.node ≡ None = rw old at h in cc)
      | inr new ↦
          let rest : twice (c.node ∷ seen) (nodes_of cs) ≡ None = rw new at h in
          elim (cases_Bool (eqb c.node n)) [
            | inl here ↦ rw (here, absent n c.node seen cs (eqb-true c.node n here) (fresh-rows (c.node ∷ seen) cs rest)) (sym (or_none (is_activity c.kind)))
            | inr other ↦ rw other (by-card (c.node ∷ seen) cs n rest)
          ]
    ]

pub act-by_card : (cards : List Card) (n : ℕ) → twice [] (nodes_of cards) ≡ None → is_act (card_at n cards) ≡ is_act_in cards n
act-by_card = by-card []
