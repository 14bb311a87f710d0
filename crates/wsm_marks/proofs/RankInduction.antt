-- Induction along a rank.
use Rattle.wsm_marks.proofs.Common.{ℕ, ◌++◌, ◌<◌, ◌∙◌, ◌∷◌, ◌≡◌, all-rows-card_at, all-rows-map, AllRows, ap, append_assoc, arith, Card, card_at, card_at-node, is_one_of, IsRank, length, length-append, List, member-splits, Some, subst, suc}
use Rattle.wsm_marks.proofs.Common.{true, zero}

-- P holds at a node, if that is one of the net
abbrev pub Known : List Card → (ℕ → Type 0) → ℕ → Type 0
Known cards P n = (c : Card) → card_at n cards ≡ Some c → P n

-- P holds at a node where it holds at the sources of the edges into it
abbrev pub Inherits : List Card → (ℕ → Type 0) → Type 0
Inherits cards P = (n : ℕ) (c : Card) → card_at n cards ≡ Some c → AllRows (λ e. Known cards P e.node) c.ins → AllRows (Known cards P) c.syncs_in → P n

-- each node of the net stands in the rank
pub in_rank : (cards : List Card) (rank : List ℕ) → IsRank cards rank → (n : ℕ) (c : Card) → card_at n cards ≡ Some c → is_one_of n rank ≡ true
in_rank cards rank is n c e = subst (λ m. is_one_of m rank ≡ true) (card_at-node n cards c e) (all-rows-card_at (λ d. is_one_of d.node rank ≡ true) n cards c is.all e)

module _ (cards : List Card) (rank : List ℕ) (is : IsRank cards rank) (P : ℕ → Type 0) (step : Inherits cards P) where
  by_length : (k : ℕ) (front rest : List ℕ) (n : ℕ) → rank ≡ front ++ (n ∷ rest) → length front < k → Known cards P n
  by_length zero front rest n at lt c e = absurd (omega arith)
  by_length (suc k) front rest n at lt c e =
      let earlier : (m : ℕ) → is_one_of m front ≡ true → Known cards P m =
      λ m in_front.
      let s = member-splits m front in_front in
      let where_m : rank ≡ s.0 ++ (m ∷ (s.1 ++ (n ∷ rest))) = at ∙ ap (λ f. f ++ (n ∷ rest)) s.2 ∙ append_assoc s.0 (m ∷ s.1) (n ∷ rest) in
      by_length k s.0 (s.1 ++ (n ∷ rest)) m where_m (omega (arith, ap length s.2, length-append s.0 (m ∷ s.1)))
      in
      let order = is.behind front rest n c at e in
      step n c e (all-rows-map _ _ (λ x. earlier x.node) c.ins order.0) (all-rows-map _ _ (λ m. earlier m) c.syncs_in order.1)

  -- what holds at a node where it holds at its sources holds at each node
  pub rank_induction : (n : ℕ) → Known cards P n
  rank_induction n c e =
      let s = member-splits n rank (in_rank cards rank is n c e) in
      by_length (suc (length s.0)) s.0 s.1 n s.2 (omega arith) c e
