-- The edges of a regular schema come from nodes of it.
use Rattle.wsm_marks.proofs.Common.{[], ℕ, ◌∷◌, ◌≡◌, all-rows-card_at, all-rows-map, AllRows, Bool, Card, card_at, card_of, cards_of, cases_Bool, eqb, filter, HasCard, inl, inr, is_one_of, List, parts_places, places, plain_end, Regular}
use Rattle.wsm_marks.proofs.{Common.{rows-append, rows-map, rows-parts, SchemaModel, Some, true}, Cards.{node-has_card, nodes, self-among}, LoopInTree.parts-closed}

-- the rows of one target
rows-filter : {X : Type 0} (P : X → Type 0) (test : X → Bool) (xs : List X) → AllRows P xs → AllRows P (filter test xs)
rows-filter P test [] h = tt
rows-filter P test (x ∷ xs) h =
    elim (cases_Bool (test x)) [
      | inl it ↦ rw it (h.0, rows-filter P test xs h.1)
      | inr other ↦ rw other (rows-filter P test xs h.1)
    ]

module _ (s : SchemaModel) (regular : Regular s) where
  -- whether a node is one of the places
  abbrev Among : ℕ → Bool
  Among n = is_one_of n (nodes (places s.start s.body s.finish))

  -- the control edges into each place
  control-sources : AllRows (λ p. AllRows (λ x. Among x.node ≡ true) p.ins) (places s.start s.body s.finish)
  control-sources =
      let among = self-among (places s.start s.body s.finish) in
      let body = rows-parts (λ p. Among p.node ≡ true) (parts_places s.body (plain_end s.start) s.finish) _ among.1 in
      let closed = parts-closed Among s.body (plain_end s.start) s.finish among.0 body.0 in
      (tt, rows-append _ (parts_places s.body (plain_end s.start) s.finish) _ closed.0 ((closed.1, tt), tt))

  -- the sources of all edges into a node are nodes
  pub sources-have_cards : (n : ℕ) (c : Card) → card_at n (cards_of s) ≡ Some c → AllRows (λ x. HasCard (cards_of s) x.node) c.ins × AllRows (HasCard (cards_of s)) c.syncs_in
  sources-have_cards n c at =
      all-rows-card_at (λ d. AllRows (λ x. HasCard (cards_of s) x.node) d.ins × AllRows (HasCard (cards_of s)) d.syncs_in) n (cards_of s) c
      (rows-map _ (card_of s) (places s.start s.body s.finish) (all-rows-map _ _ (λ p ins. (
        all-rows-map _ _ (λ x among. node-has_card s x.node (places s.start s.body s.finish) among) p.ins ins,
        rows-map _ (λ e. e.0) (filter (λ e. eqb e.1 p.node) s.syncs) (rows-filter (λ e. HasCard (cards_of s) e.0) (λ e. eqb e.1 p.node) s.syncs regular.sources),
      )) (places s.start s.body s.finish) control-sources))
      at
