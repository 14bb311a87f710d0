-- The nodes that a cut takes are those of the loop in the tree.
use Rattle.wsm_marks.proofs.Common.{[], ℕ, ◌++◌, ◌∙◌, ◌∷◌, ◌≡◌, all-rows-map, AllRows, ap, append_assoc, both_ways, Card, card_at, card_of, cards_of, cases_Bool, Distinct, eq-eqb, eqb, eqb-false, eqb-true, false, from_node, inl, inr}
use Rattle.wsm_marks.proofs.{Common.{is_loop_end, is_one_of, List, loop_from, loop_nodes, loop_start, map, ne_eqb, Place, places, refl, same_Some, SchemaModel, Some, sym, true, up_to_node}, Cards.{card-nodes, node-has_card, nodes}}
use Rattle.wsm_marks.proofs.{Cards.nodes-append, Lists.one_of-middle, LoopInTree.{FoundIn, HasEnd, places-find}, LoopOfSchema.{body_nodes, end_place, inner_apart, inner_places, l_in, pre_away, tail_apart}}

-- the card of a loop's end comes from such a place
end-place : (s : SchemaModel) (e l : ℕ) (ps : List Place) (c : Card) → card_at e (map (card_of s) ps) ≡ Some c → is_loop_end c.kind ≡ true → c.partner ≡ Some l → HasEnd l e ps
end-place s e l [] c at ends partner = absurd (cc)
end-place s e l (p ∷ ps) c at ends partner =
    elim (cases_Bool (eqb p.node e)) [
      | inl same ↦
          let q : Some (card_of s p) ≡ Some c = rw same at at in
          let here : card_of s p ≡ c = same_Some _ c q in
          inl (eqb-true p.node e same, ap (λ d. is_loop_end d.kind) here ∙ ends, ap (λ d. d.partner) here ∙ partner)
      | inr other ↦ inr (end-place s e l ps c (rw other at at) ends partner)
    ]

from_node-behind : (n : ℕ) (ps : List Place) (rest : List ℕ) → AllRows (λ p. eqb p.node n ≡ false) ps → from_node n (nodes ps ++ (n ∷ rest)) ≡ n ∷ rest
from_node-behind n [] rest h = rw (eq-eqb n n refl) refl
from_node-behind n (p ∷ ps) rest h = rw h.0 (from_node-behind n ps rest h.1)

up_to_node-front : (n : ℕ) (ps : List Place) (rest : List ℕ) → AllRows (λ p. eqb p.node n ≡ false) ps → up_to_node n (nodes ps ++ (n ∷ rest)) ≡ nodes ps ++ (n ∷ [])
up_to_node-front n [] rest h = rw (eq-eqb n n refl) refl
up_to_node-front n (p ∷ ps) rest h = rw h.0 (ap (λ ns. p.node ∷ ns) (up_to_node-front n ps rest h.1))

module _ (s : SchemaModel) (distinct : Distinct (places s.start s.body s.finish)) (l e : ℕ) (found : FoundIn l e s.start s.body s.finish) where
  all_nodes : nodes (places s.start s.body s.finish) ≡ nodes found.pre ++ (l ∷ (nodes (inner_places s l e found) ++ (e ∷ nodes found.post)))
  all_nodes =
      ap nodes found.split ∙ nodes-append found.pre _
      ∙ ap (λ ns. nodes found.pre ++ (l ∷ ns)) (nodes-append (inner_places s l e found ++ end_place s l e found ∷ []) found.post
      ∙ ap (λ ns. ns ++ nodes found.post) (nodes-append (inner_places s l e found) (end_place s l e found ∷ []))
      ∙ append_assoc (nodes (inner_places s l e found)) (e ∷ []) (nodes found.post))

  own_nodes : body_nodes s l e found ≡ l ∷ (nodes (inner_places s l e found) ++ (e ∷ []))
  own_nodes = ap (λ ns. l ∷ ns) (nodes-append (inner_places s l e found) (end_place s l e found ∷ []))

  l_not_e : eqb l e ≡ false
  l_not_e = ne_eqb l e (λ h. eqb-false e l (last_row (inner_places s l e found) (tail_apart s l e found distinct)) (sym h))
    where
      last_row : (ps : List Place) → AllRows (λ p. eqb p.node l ≡ false) (ps ++ end_place s l e found ∷ []) → eqb e l ≡ false
      last_row [] h = h.0
      last_row (p ∷ ps) h = last_row ps h.1

  -- the nodes that the definition cuts are the loop's
  pub loop_nodes-are : (c : Card) → card_at e (cards_of s) ≡ Some c → is_loop_end c.kind ≡ true → c.partner ≡ Some l → loop_nodes (cards_of s) e ≡ body_nodes s l e found
  loop_nodes-are c at ends partner =
      let start : loop_start (card_at e (cards_of s)) ≡ Some l = rw (at, ends) partner in
      let apart : AllRows (λ p. eqb p.node l ≡ false) found.pre =
      all-rows-map _ _ (λ p away. ne_eqb p.node l (λ h. both_ways _ away (ap (λ k. is_one_of k (body_nodes s l e found)) h ∙ l_in s l e found distinct))) found.pre (pre_away s l e found distinct) in
      ap (λ o. loop_from o e (map (λ d. d.node) (cards_of s))) start
      ∙ ap (λ ns. up_to_node e (from_node l ns)) (card-nodes s (places s.start s.body s.finish) ∙ all_nodes)
      ∙ ap (up_to_node e) (from_node-behind l found.pre _ apart)
      ∙ (rw l_not_e (ap (λ ns. l ∷ ns) (up_to_node-front e (inner_places s l e found) (nodes found.post) (inner_apart s l e found distinct))))
      ∙ sym own_nodes

  -- the start of the loop is a node
  pub start_card : (d : Card) × (card_at l (cards_of s) ≡ Some d)
  start_card = node-has_card s l (places s.start s.body s.finish) (ap (is_one_of l) all_nodes ∙ one_of-middle l (nodes found.pre) _)

-- the loop that a card's end names is in the tree
pub found-of : (s : SchemaModel) (l e : ℕ) (c : Card) → card_at e (cards_of s) ≡ Some c → is_loop_end c.kind ≡ true → c.partner ≡ Some l → FoundIn l e s.start s.body s.finish
found-of s l e c at ends partner = places-find l e s.start s.finish s.body (end-place s e l (places s.start s.body s.finish) c at ends partner)
