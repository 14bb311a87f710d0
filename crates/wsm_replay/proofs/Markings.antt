-- A table that ascends, and has the rows of the settled net, is its marking.
use Rattle.wsm_replay.proofs.Common.{[], ℕ, ◌&&◌, ◌++◌, ◌||◌, ◌∙◌, ◌∷◌, ◌≡◌, all-rows-card_at, ap, Ascends, Bool, both_ways, by_node, Card, card_at, card_at-node, cases_Bool, eq_number, eqb, eqb-true, false, fold, inl, inr, is_begun}
use Rattle.wsm_replay.proofs.Common.{is_one_of, is_some, IsMarking, IsRank, List, marking_of, node_of-spot_in, None, Option, pass, put_row, refl, row_at, row_at-put, ruled_from, ruled_if, SameRows, settle, Some, Spot, spot_in, Spots, sym}
use Rattle.wsm_replay.proofs.{Common.true, Agreement.{spot_or, spot_in-row, settled-rows}, OneEntryMore.marking_of-spots, Replays.marking_of-same}
use Rattle.wsm_lists.proofs.{Ascending.ascending-same, Rows.ascends_put}

-- whether a table has a row of the node
abbrev has_row : ℕ → Spots → Bool
has_row n t = is_some (row_at by_node (n, 0) t)

or_none : (b : Bool) → (b || false) ≡ b
or_none true = refl
or_none false = refl

or_twice : (a b c : Bool) → ((a || b) || c) ≡ (a || (b || c))
or_twice true b c = refl
or_twice false b c = refl

absorbed : (a b : Bool) → (a || (b && a)) ≡ a
absorbed true b = refl
absorbed false true = refl
absorbed false false = refl

-- ---- the rows of a marking
module _ (t : Spots) where
  folded-ascends : (cs : List Card) (m : Spots) → Ascends by_node m → Ascends by_node (fold (λ m c. put_row by_node (spot_in c.node t) m) m cs)
  folded-ascends [] m up = up
  folded-ascends (c ∷ cs) m up = folded-ascends cs (put_row by_node (spot_in c.node t) m) (ascends_put by_node (spot_in c.node t) m up)

  folded-has : (n : ℕ) (cs : List Card) (m : Spots) → has_row n (fold (λ m c. put_row by_node (spot_in c.node t) m) m cs) ≡ (has_row n m || is_some (card_at n cs))
  folded-has n [] m = sym (or_none (has_row n m))
  folded-has n (c ∷ cs) m =
      folded-has n cs (put_row by_node (spot_in c.node t) m)
      ∙ ap (λ o. is_some o || is_some (card_at n cs)) (row_at-put by_node (n, 0) (spot_in c.node t) m)
      ∙ elim (cases_Bool (eqb c.node n)) [
        | inl same ↦ rw (eq_number (spot_in c.node t).node n, node_of-spot_in c.node t, same) (sym (or_true (has_row n m)))
        | inr other ↦ rw (eq_number (spot_in c.node t).node n, node_of-spot_in c.node t, other) refl
      ]
    where
      or_true : (b : Bool) → (b || true) ≡ true
      or_true true = refl
      or_true false = refl

-- ---- the rows of a pass
module _ (cards : List Card) (old : Spots) where
  node_of-ruled : (done : Spots) (c : Card) → (ruled_from cards old done c).node ≡ c.node
  node_of-ruled done c =
      elim (cases_Bool (is_begun c.kind (spot_in c.node old).state)) [
        | inl begun ↦ rw begun (node_of-spot_in c.node old)
        | inr other ↦ rw other refl
      ]

  appended-has : (n : ℕ) (done : Spots) (s : Spot) → has_row n (done ++ s ∷ []) ≡ (has_row n done || eqb s.node n)
  appended-has n [] s =
      elim (cases_Bool (eqb s.node n)) [
        | inl same ↦ rw (eq_number s.node n, same) refl
        | inr other ↦ rw (eq_number s.node n, other) refl
      ]
  appended-has n (x ∷ xs) s =
      elim (cases_Bool (eqb x.node n)) [
        | inl same ↦ rw (eq_number x.node n, same) refl
        | inr other ↦ rw (eq_number x.node n, other) (appended-has n xs s)
      ]

  ruled-has : (n m : ℕ) (done : Spots) (o : Option Card) → card_at m cards ≡ o → has_row n (ruled_if cards old done o) ≡ (has_row n done || (eqb m n && is_some o))
  ruled-has n m done None at =
      elim (cases_Bool (eqb m n)) [
        | inl same ↦ rw same (sym (or_none (has_row n done)))
        | inr other ↦ rw other (sym (or_none (has_row n done)))
      ]
  ruled-has n m done (Some c) at =
      let node : (ruled_from cards old done c).node ≡ m = node_of-ruled done c ∙ card_at-node m cards c at in
      appended-has n done (ruled_from cards old done c)
      ∙ ap (λ k. has_row n done || eqb k n) node
      ∙ elim (cases_Bool (eqb m n)) [
        | inl same ↦ rw same refl
        | inr other ↦ rw other refl
      ]

  pass-has : (n : ℕ) (ns : List ℕ) (done : Spots) → has_row n (pass cards old ns done) ≡ (has_row n done || (is_one_of n ns && is_some (card_at n cards)))
  pass-has n [] done = sym (or_none (has_row n done))
  pass-has n (m ∷ ms) done =
      pass-has n ms (ruled_if cards old done (card_at m cards))
      ∙ ap (λ b. b || (is_one_of n ms && is_some (card_at n cards))) (ruled-has n m done (card_at m cards) refl)
      ∙ or_twice (has_row n done) (eqb m n && is_some (card_at m cards)) (is_one_of n ms && is_some (card_at n cards))
      ∙ ap (λ b. has_row n done || b) here
    where
      here : ((eqb m n && is_some (card_at m cards)) || (is_one_of n ms && is_some (card_at n cards))) ≡ (is_one_of n (m ∷ ms) && is_some (card_at n cards))
      here =
          elim (cases_Bool (eqb m n)) [
            | inl same ↦ rw (same, ap (λ k. is_some (card_at k cards)) (eqb-true m n same)) (absorbed (is_some (card_at n cards)) (is_one_of n ms))
            | inr other ↦ rw other refl
          ]

-- ---- one row and the other
same-row : (n : ℕ) (o p : Option Spot) → is_some o ≡ is_some p → (is_some p ≡ true → spot_or n o ≡ spot_or n p) → o ≡ p
same-row n None None there same = refl
same-row n None (Some y) there same = absurd (both_ways false refl there)
same-row n (Some x) None there same = absurd (both_ways true there refl)
same-row n (Some x) (Some y) there same = ap Some (same refl)

-- ---- tables that are markings
module _ (cards : List Card) (rank : List ℕ) (is : IsRank cards rank) (old new : Spots) (rows : SameRows new (pass cards old rank [])) where
  in-rank : (n : ℕ) (o : Option Card) → card_at n cards ≡ o → (is_one_of n rank && is_some o) ≡ is_some o
  in-rank n None at = and_none (is_one_of n rank)
    where
      and_none : (b : Bool) → (b && false) ≡ false
      and_none true = refl
      and_none false = refl
  in-rank n (Some c) at =
      let there : is_one_of c.node rank ≡ true = all-rows-card_at (λ c. is_one_of c.node rank ≡ true) n cards c is.all at in
      let found : is_one_of n rank ≡ true = ap (λ k. is_one_of k rank) (sym (card_at-node n cards c at)) ∙ there in
      rw found refl

  has-rows : (n : ℕ) → has_row n new ≡ is_some (card_at n cards)
  has-rows n = ap is_some (rows n) ∙ pass-has cards old n rank [] ∙ in-rank n (card_at n cards) refl

  same-rows : (n : ℕ) → row_at by_node (n, 0) new ≡ row_at by_node (n, 0) (marking_of cards (settle cards old))
  same-rows n =
      let net = settle cards old in
      let marks : has_row n (marking_of cards net) ≡ is_some (card_at n cards) = folded-has net n cards [] in
      same-row n (row_at by_node (n, 0) new) (row_at by_node (n, 0) (marking_of cards net)) (has-rows n ∙ sym marks)
      (λ there. sym (spot_in-row n new) ∙ with-card (card_at n cards) refl (sym marks ∙ there) ∙ spot_in-row n (marking_of cards net))
    where
      with-card : (o : Option Card) → card_at n cards ≡ o → is_some o ≡ true → spot_in n new ≡ spot_in n (marking_of cards (settle cards old))
      with-card None at there = absurd (both_ways _ refl there)
      with-card (Some c) at there = settled-rows cards rank is old new rows n c at ∙ sym (marking_of-spots cards (settle cards old) n c at)

  pub settled-marking : Ascends by_node new → new ≡ marking_of cards (settle cards old)
  settled-marking up = ascending-same by_node new (marking_of cards (settle cards old)) up (folded-ascends (settle cards old) cards [] tt) (λ z. same-rows z.node)

-- what is a marking of some spots is the marking of its own
pub marking_of-twice : (cards : List Card) (t : Spots) → IsMarking cards (marking_of cards t)
marking_of-twice cards t = marking_of-same cards (marking_of cards t) t (marking_of-spots cards t)
