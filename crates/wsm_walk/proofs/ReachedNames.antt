-- What is reached: whatever the cards of reached nodes name, and each node of a loop from its start.
use Rattle.wsm_walk.proofs.Common.{[], ℕ, ◌==◌, ◌∷◌, ◌≡◌, AllRows, Bool, both_ways, Card, card_at, cards_of, cases_Bool, End, eq-eqb, eqb, eqb-true, false, HasCard, inl, inr, is_loop_end, is_one_of, IsRank, Known, List, list_any}
use Rattle.wsm_walk.proofs.{Common.{loop-of_schema, loop_nodes, LoopOf, NamesInside, rank_induction, reached_from, refl, Regular, SchemaModel, Some, sources-have_cards, subst, sym, true}, Reached.{any-member, or-true, reached-closed}}
use Rattle.wsm_walk.proofs.{Reached.{reached-keeps, rows-member}, Regions.first-row, Targets.lead-enters}

module _ (s : SchemaModel) (regular : Regular s) (rank : List ℕ) (is : IsRank (cards_of s) rank) where
  module _ (seeds : List ℕ) where
    abbrev In : ℕ → Bool
    In n = is_one_of n (reached_from (cards_of s) rank seeds)

    -- what a card names is reached where its node is
    pub reached-names : NamesInside (cards_of s) In
    reached-names n c at_n in_n k d at_k leads =
        elim (cases_Bool (In k)) [
          | inl it ↦ it
          | inr out ↦
              let closed = reached-closed (cards_of s) rank is seeds k d at_k out in
              let source : (x : ℕ) → eqb x n ≡ true → In x ≡ true = λ x same. subst (λ y. In y ≡ true) (sym (eqb-true x n same)) in_n in
              elim (or-true (list_any (λ e. e.node == n) d.ins) (list_any (λ m. m == n) d.syncs_in) (lead-enters s regular n c at_n k leads d at_k)) [
                | inl control ↦
                    let x = any-member (λ e. e.node == n) d.ins control in
                    absurd (both_ways _ (rows-member (λ y. In y.node ≡ false) d.ins x.0 closed.0 x.1) (source x.0.node x.2))
                | inr sync ↦
                    let x = any-member (λ m. m == n) d.syncs_in sync in
                    absurd (both_ways _ (rows-member (λ y. In y ≡ false) d.syncs_in x.0 closed.1 x.1) (source x.0 x.2))
              ]
        ]

  -- each node of a loop is reached from its start
  pub body-reached : (l e : ℕ) (c : Card) → card_at e (cards_of s) ≡ Some c → is_loop_end c.kind ≡ true → c.partner ≡ Some l → (n : ℕ) (d : Card) → card_at n (cards_of s) ≡ Some d →
      is_one_of n (loop_nodes (cards_of s) e) ≡ true → is_one_of n (reached_from (cards_of s) rank (l ∷ [])) ≡ true
  body-reached l e c at ends partner =
      rank_induction (cards_of s) rank is (λ n. is_one_of n body ≡ true → In (l ∷ []) n ≡ true)
      (λ n d e_n ins syncs in_body. elim (cases_Bool (eqb n l)) [
        | inl same ↦ reached-keeps (cards_of s) rank (l ∷ []) n (rw (eq-eqb l n (sym (eqb-true n l same))) refl)
        | inr other ↦ elim (cases_Bool (In (l ∷ []) n)) [
          | inl it ↦ it
          | inr out ↦
              let outside = (reached-closed (cards_of s) rank is (l ∷ []) n d e_n out).0 in
              let within = loop.within n d e_n in_body other in
              let carded = (sources-have_cards s regular n d e_n).0 in
              first-row (In (l ∷ []) n ≡ true) d.kind (λ x. (Known (cards_of s) (λ k. is_one_of k body ≡ true → In (l ∷ []) k ≡ true) x.node × HasCard (cards_of s) x.node) × ((is_one_of x.node body ≡ true) × (In (l ∷ []) x.node ≡ false))) d.ins
              (loop.inner n d e_n in_body other) (all_four _ _ _ _ d.ins ins carded within outside) (λ x h. absurd (both_ways _ h.1.1 (h.0.0 h.0.1.0 h.0.1.1 h.1.0)))
        ]
      ])
    where
      body : List ℕ
      body = loop_nodes (cards_of s) e

      loop : LoopOf (cards_of s) body l e
      loop = (loop-of_schema s regular l e c at ends partner).0

      all_four : (P Q R S : End → Type 0) (xs : List End) → AllRows P xs → AllRows Q xs → AllRows R xs → AllRows S xs → AllRows (λ x. (P x × Q x) × (R x × S x)) xs
      all_four P Q R S [] p q r t = tt
      all_four P Q R S (x ∷ xs) p q r t = (((p.0, q.0), (r.0, t.0)), all_four P Q R S xs p.1 q.1 r.1 t.1)
