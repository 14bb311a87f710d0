-- How many reads a walk along a rank has made.
use Rattle.wsm_walk.proofs.Common.{[], ℕ, ◌++◌, ◌+◌, ◌<◌, ◌∙◌, ◌∷◌, ◌≡◌, ◌≤◌, ◌⊎◌, AllBehind, ap, arith, Bool, Card, card_at, cases_Bool, edges_into, eq-eqb, eqb, get_or, in_rank, inl, inr, is_one_of, IsRank, leads_to, length}
use Rattle.wsm_walk.proofs.{Common.{length-append, List, Named, NamesInside, None, Option, rank_place, reach_cost, refl, Some, Spent, subst, sym, true, visit_cost}, Stands.append_one, WalkSteps.{passed-to, place-behind, place-one}}

module _ (cards : List Card) (inside : ℕ → Bool) where
  pub cost-append : (ns ms : List ℕ) → reach_cost cards inside (ns ++ ms) ≡ reach_cost cards inside ns + reach_cost cards inside ms
  cost-append [] ms = omega arith
  cost-append (n ∷ ns) ms = omega (arith, cost-append ns ms)

  -- nodes that are passed with no look at them cost nothing
  pub cost-over : (base reads : ℕ) (front skipped : List ℕ) → reads ≤ base + reach_cost cards inside front → reads ≤ base + reach_cost cards inside (front ++ skipped)
  cost-over base reads front skipped h = omega (arith, h, cost-append front skipped)

  -- a visit may read the node's own mark, and one for each edge into it
  pub cost-here : (base reads more : ℕ) (front : List ℕ) (n : ℕ) (c : Card) → card_at n cards ≡ Some c → inside n ≡ true → more ≤ 1 + edges_into (Some c) →
      reads ≤ base + reach_cost cards inside front → reads + more ≤ base + reach_cost cards inside (front ++ n ∷ [])
  cost-here base reads more front n c at it few h =
      let one : reach_cost cards inside (n ∷ []) ≡ (1 + edges_into (Some c)) + 0 = rw (it, at) refl in
      omega (arith, h, few, cost-append front (n ∷ []), one)

  -- what was read so far is no more than the whole
  pub cost-part : (front rest : List ℕ) → reach_cost cards inside front ≤ reach_cost cards inside (front ++ rest)
  cost-part front rest = omega (arith, cost-append front rest)

  -- what is read at no more than a node's cost is within the cost of the nodes up to it
  cost-node : (base reads reads' : ℕ) (front : List ℕ) (n : ℕ) → ((c : Card) → card_at n cards ≡ Some c → inside n ≡ true) → reads' ≤ reads + visit_cost (card_at n cards) →
      reads ≤ base + reach_cost cards inside front → reads' ≤ base + reach_cost cards inside (front ++ n ∷ [])
  cost-node base reads reads' front n inner few h = go (card_at n cards) refl few
    where
      go : (o : Option Card) → card_at n cards ≡ o → reads' ≤ reads + visit_cost o → reads' ≤ base + reach_cost cards inside (front ++ n ∷ [])
      go None at f = cost-over base reads' front (n ∷ []) (omega (arith, f, h))
      go (Some c) at f =
          let one : reach_cost cards inside (n ∷ []) ≡ (1 + edges_into (Some c)) + 0 = rw (inner c at, at) refl in
          omega (arith, h, f, cost-append front (n ∷ []), one)

module _ (cards : List Card) (rank : List ℕ) (is : IsRank cards rank) (inside : ℕ → Bool) (closed : NamesInside cards inside) (base : ℕ) where
  abbrev At : ℕ → List ℕ → Type 0
  At reads places = Spent cards rank inside base reads places

  -- at the end of a walk no more was read than the whole
  pub spent-end : (reads : ℕ) → At reads [] → reads ≤ base + reach_cost cards inside rank
  spent-end reads sp =
      let part : reach_cost cards inside sp.front ≤ reach_cost cards inside rank = subst (λ l. reach_cost cards inside sp.front ≤ reach_cost cards inside l) (sym sp.split) (cost-part cards inside sp.front sp.rest) in
      let own = sp.cost in
      omega (arith, own, part)

  module _ (p n d : ℕ) (keys : List ℕ) (reads reads' : ℕ) (lt : p < length rank) (here : get_or rank p d ≡ n) (sp : At reads (p ∷ keys)) (few : reads' ≤ reads + visit_cost (card_at n cards)) where
    s : (skipped : List ℕ) × (more : List ℕ) × (rank ≡ sp.front ++ (skipped ++ (n ∷ more))) × (rank ≡ (sp.front ++ skipped) ++ (n ∷ more)) × (length (sp.front ++ skipped) ≡ p)
    s = passed-to rank sp.front sp.rest p n d sp.split (sp.low p (rw (eq-eqb p p refl) refl)) lt here

    own-place : rank_place n rank ≡ p
    own-place = ap (rank_place n) s.3 ∙ place-behind (sp.front ++ s.0) s.1 n (is.once (sp.front ++ s.0) s.1 n s.3) ∙ s.4

    inner : (c : Card) → card_at n cards ≡ Some c → inside n ≡ true
    inner c found = sp.pending n c found (subst (λ q. is_one_of q (p ∷ keys) ≡ true) (sym own-place) (rw (eq-eqb p p refl) refl))

    cost : reads' ≤ base + reach_cost cards inside ((sp.front ++ s.0) ++ n ∷ [])
    cost = cost-node cards inside base reads reads' (sp.front ++ s.0) n inner few (cost-over cards inside base reads sp.front s.0 sp.cost)

    -- what was read up to a visit is no more than the whole
    pub spent-whole : reads' ≤ base + reach_cost cards inside rank
    spent-whole =
        let part : reach_cost cards inside ((sp.front ++ s.0) ++ n ∷ []) ≤ reach_cost cards inside rank =
        subst (λ l. reach_cost cards inside ((sp.front ++ s.0) ++ n ∷ []) ≤ reach_cost cards inside l) (append_one (sp.front ++ s.0) n s.1 ∙ sym s.3) (cost-part cards inside ((sp.front ++ s.0) ++ n ∷ []) s.1) in
        omega (arith, cost, part)

    -- a visit that hands on to nodes that its card names
    pub spent-visit : AllBehind p keys → (places' : List ℕ) → ((q : ℕ) → is_one_of q places' ≡ true → (is_one_of q keys ≡ true) ⊎ ((c : Card) × (card_at n cards ≡ Some c) × Named rank (leads_to c) (p + 1) q)) → At reads' places'
    spent-visit behind places' only = record {
      front = (sp.front ++ s.0) ++ n ∷ [];
      rest = s.1;
      split = s.3 ∙ sym (append_one (sp.front ++ s.0) n s.1);
      low = λ q there. elim (only q there) [ inl old ↦ let less = behind q old in omega (arith, less, longer) | inr new ↦ let far = new.2.4 in omega (arith, far, longer) ];
      pending = λ k e at_k there. elim (only (rank_place k rank) there) [
        | inl old ↦ sp.pending k e at_k (kept-pending k old)
        | inr new ↦ closed n new.0 new.1 (inner new.0 new.1) k e at_k (subst (λ x. leads_to new.0 x ≡ true) (place-one rank new.2.0 k new.2.2 (in_rank cards rank is k e at_k) new.2.3) new.2.1)
      ];
      cost = cost;
    }
      where
        longer : length ((sp.front ++ s.0) ++ n ∷ []) ≡ p + 1
        longer = length-append (sp.front ++ s.0) (n ∷ []) ∙ ap (λ x. x + 1) s.4

        kept-pending : (k : ℕ) → is_one_of (rank_place k rank) keys ≡ true → is_one_of (rank_place k rank) (p ∷ keys) ≡ true
        kept-pending k old = elim (cases_Bool (eqb p (rank_place k rank))) [ inl same ↦ rw same refl | inr other ↦ rw other old ]
