-- Facts about the cards and the places of a net.
use Rattle.wsm_marks.proofs.Common.{[], ℕ, ◌++◌, ◌∙◌, ◌∷◌, ◌≡◌, all-rows-map, AllRows, ap, Bool, both_rows, both_ways, Card, card_at, card_of, cases_Bool, Distinct, eq-eqb, eqb, false, HasCard, inl, inr, is_one_of, List, map, None, on_card}
use Rattle.wsm_marks.proofs.Common.{Option, or_left, or_right, Place, refl, same_Some, SchemaModel, Some, sym, true}

-- a node has one card
pub same_card : (cards : List Card) (n : ℕ) (c d : Card) → card_at n cards ≡ Some c → card_at n cards ≡ Some d → c ≡ d
same_card cards n c d e h = same_Some c d (sym e ∙ h)

-- tests that agree on a card
pub on_card-same : (o : Option Card) (g h : Card → Bool) → ((c : Card) → o ≡ Some c → g c ≡ h c) → on_card o g ≡ on_card o h
on_card-same None g h e = refl
on_card-same (Some c) g h e = e c refl

-- a test that passes has a card
pub on_card-true : (o : Option Card) (test : Card → Bool) → on_card o test ≡ true → (c : Card) × (o ≡ Some c) × (test c ≡ true)
on_card-true None test h = absurd (both_ways _ refl h)
on_card-true (Some c) test h = (c, refl, h)

-- each card's node has a card
pub each_has_card : (cards : List Card) → AllRows (λ c. HasCard cards c.node) cards
each_has_card [] = tt
each_has_card (c ∷ cs) = ((c, rw (eq-eqb c.node c.node refl) refl), all-rows-map _ _ (λ x h. behind x.node h) cs (each_has_card cs))
  where
    behind : (n : ℕ) → HasCard cs n → HasCard (c ∷ cs) n
    behind n h =
        elim (cases_Bool (eqb c.node n)) [
          | inl same ↦ (c, rw same refl)
          | inr other ↦ (h.0, rw other h.1)
        ]

-- ---- places
abbrev pub nodes : List Place → List ℕ
nodes ps = map (λ p. p.node) ps

-- the nodes of two lists of places
pub nodes-append : (xs ys : List Place) → nodes (xs ++ ys) ≡ nodes xs ++ nodes ys
nodes-append [] ys = refl
nodes-append (x ∷ xs) ys = ap (λ ns. x.node ∷ ns) (nodes-append xs ys)

-- the cards of places have the places' nodes
pub card-nodes : (s : SchemaModel) (ps : List Place) → map (λ c. c.node) (map (card_of s) ps) ≡ nodes ps
card-nodes s [] = refl
card-nodes s (p ∷ ps) = ap (λ ns. p.node ∷ ns) (card-nodes s ps)

-- a node of none of the places
pub not_among : (n : ℕ) (ps : List Place) → AllRows (λ p. eqb p.node n ≡ false) ps → is_one_of n (nodes ps) ≡ false
not_among n [] h = refl
not_among n (p ∷ ps) h = rw h.0 (not_among n ps h.1)

-- each place's node is one of the nodes
pub self-among : (ps : List Place) → AllRows (λ p. is_one_of p.node (nodes ps) ≡ true) ps
self-among [] = tt
self-among (p ∷ ps) = (
  or_left (eqb p.node p.node) (is_one_of p.node (nodes ps)) (eq-eqb p.node p.node refl),
  all-rows-map _ _ (λ q h. or_right (eqb p.node q.node) (is_one_of q.node (nodes ps)) h) ps (self-among ps),
)

-- a place's node has a card
pub node-has_card : (s : SchemaModel) (n : ℕ) (ps : List Place) → is_one_of n (nodes ps) ≡ true → HasCard (map (card_of s) ps) n
node-has_card s n [] h = absurd (both_ways _ refl h)
node-has_card s n (p ∷ ps) h =
    elim (cases_Bool (eqb p.node n)) [
      | inl same ↦ (card_of s p, rw same refl)
      | inr other ↦ let r = node-has_card s n ps (rw other at h) in (r.0, rw other r.1)
    ]

-- where nodes are distinct, it is the card of that place
pub placed-rows : (s : SchemaModel) (ps : List Place) → Distinct ps → AllRows (λ p. card_at p.node (map (card_of s) ps) ≡ Some (card_of s p)) ps
placed-rows s [] d = tt
placed-rows s (p ∷ ps) d =
    (rw (eq-eqb p.node p.node refl) refl, both_rows (λ q. eqb p.node q.node ≡ false) (λ q. card_at q.node (map (card_of s) ps) ≡ Some (card_of s q)) _ (λ q a b. rw a b) ps d.0 (placed-rows s ps d.1))
