-- What is sure solves its rule at each node, and comes from nodes that stand before it in a rank.
use Rattle.wsm_data.proofs.Common.{[], ℕ, ◌&&◌, ◌++◌, ◌+◌, ◌||◌, ◌∙◌, ◌∷◌, ◌≡◌, ◌≤◌, all-rows-map, AllRows, ap, append-nil, append_assoc, arith, block_fault, Bool, both_ways, Card, card_at, card_at-node, card_of, cards_of, has_one_edge}
use Rattle.wsm_data.proofs.Common.{inl, inr, is_one_of, IsNext, IsRank, iterate-last, length, List, list_any, map, map-same, None, none_sure, one_of-last, Option, parts_bound, places, refl, rows-map, SchemaModel, Seen, Some, subst, suc}
use Rattle.wsm_data.proofs.Common.{Sure, sure_at, sure_behind, sure_by, sure_by_syncs, sure_of, sym, true, writes_of, zero}
use Rattle.std.specs.Fn.{iterate}
use Rattle.wsm_schema.specs.declared.cards.End.{End}
use Rattle.wsm_marks.specs.Schemas.{HasCard, Regular}
use Rattle.wsm_marks.proofs.{Cards.placed-rows, RankInduction.in_rank, SoundSchemas.sound-regular, Sources.sources-have_cards, Values.card-edged}

-- two tests that say the same of each row find the same
pub any-same : {X : Type 0} (f g : X → Bool) (xs : List X) → AllRows (λ x. f x ≡ g x) xs → list_any f xs ≡ list_any g xs
any-same f g [] h = refl
any-same f g (x ∷ xs) h = ap (λ b. b || list_any f xs) h.0 ∙ ap (λ b. g x || b) (any-same f g xs h.1)

rows-both : {X : Type 0} (P Q : X → Type 0) (xs : List X) → AllRows P xs → AllRows Q xs → AllRows (λ x. P x × Q x) xs
rows-both P Q [] p q = tt
rows-both P Q (x ∷ xs) p q = ((p.0, q.0), rows-both P Q xs p.1 q.1)

module _ (s : SchemaModel) where
  abbrev round : Sure → Sure
  round sure n d = sure_at s sure (card_at n (cards_of s)) d

  abbrev rounds : ℕ → Sure
  rounds k = iterate round k none_sure

  -- a round more is the rule of the node's card
  round-at : (k n d : ℕ) → rounds (suc k) n d ≡ sure_at s (rounds k) (card_at n (cards_of s)) d
  round-at k n d = ap (λ (g : Sure). g n d) (iterate-last round k none_sure)

  -- what is sure at these nodes is the same from round k on
  abbrev Settled : ℕ → List ℕ → Type 0
  Settled k seen = (n d j : ℕ) → is_one_of n seen ≡ true → k ≤ j → rounds (suc j) n d ≡ rounds j n d

  -- the rule of a card says the same where its sources say the same
  rule-same : (f g : Sure) (c : Card) (d : ℕ) → AllRows (λ e. f e.node d ≡ g e.node d) c.ins → AllRows (λ m. f m d ≡ g m d) c.syncs_in → sure_at s f (Some c) d ≡ sure_at s g (Some c) d
  rule-same f g c d ins syncs =
      ap (λ bs. sure_by c.kind bs || sure_by_syncs s f c d) (map-same (λ e. sure_behind s f e.node d) (λ e. sure_behind s g e.node d) c.ins (all-rows-map _ _ (λ e h. ap (λ b. b || writes_of s e.node d) h) c.ins ins))
      ∙ ap (λ b. sure_by c.kind (map (λ e. sure_behind s g e.node d) c.ins) || (has_one_edge c.kind && b))
      (any-same (λ m. parts_bound s.body m c.node && sure_behind s f m d) (λ m. parts_bound s.body m c.node && sure_behind s g m d) c.syncs_in
      (all-rows-map _ _ (λ m h. ap (λ b. parts_bound s.body m c.node && (b || writes_of s m d)) h) c.syncs_in syncs))

  module _ (rank : List ℕ) (is : IsRank (cards_of s) rank) where
    settled-next : (k : ℕ) (front rest : List ℕ) (n : ℕ) → rank ≡ front ++ n ∷ rest → Settled k front → Settled (suc k) (front ++ n ∷ [])
    settled-next k front rest n at settled o d zero there le = absurd (omega (arith, le))
    settled-next k front rest n at settled o d (suc j) there le =
        elim (one_of-last o front n there) [
          | inl before ↦ settled o d (suc j) before (omega (arith, le))
          | inr here ↦ subst (λ i. rounds (suc (suc j)) i d ≡ rounds (suc j) i d) here (go (card_at n (cards_of s)) refl)
        ]
      where
        go : (found : Option Card) → card_at n (cards_of s) ≡ found → rounds (suc (suc j)) n d ≡ rounds (suc j) n d
        go None none = round-at (suc j) n d ∙ ap (λ f. sure_at s (rounds (suc j)) f d) none ∙ sym (round-at j n d ∙ ap (λ f. sure_at s (rounds j) f d) none)
        go (Some c) found =
            let order = is.behind front rest n c at found in
            round-at (suc j) n d ∙ ap (λ f. sure_at s (rounds (suc j)) f d) found
            ∙ rule-same (rounds (suc j)) (rounds j) c d
            (all-rows-map _ _ (λ e in_front. settled e.node d j in_front (omega (arith, le))) c.ins order.0)
            (all-rows-map _ _ (λ m in_front. settled m d j in_front (omega (arith, le))) c.syncs_in order.1)
            ∙ sym (round-at j n d ∙ ap (λ f. sure_at s (rounds j) f d) found)

    settled-all : (k : ℕ) (front rest : List ℕ) → rank ≡ front ++ rest → Settled k front → Settled (k + length rest) (front ++ rest)
    settled-all k front [] at settled n d j there le = settled n d j (ap (is_one_of n) (sym (append-nil front)) ∙ there) (omega (arith, le))
    settled-all k front (m ∷ rest) at settled n d j there le =
        settled-all (suc k) (front ++ m ∷ []) rest (at ∙ sym (append_assoc front (m ∷ []) rest)) (settled-next k front rest m at settled) n d j
        (ap (is_one_of n) (append_assoc front (m ∷ []) rest) ∙ there) (omega (arith, le))

    -- so what is sure solves the rule of each node
    solved : (n : ℕ) (c : Card) → card_at n (cards_of s) ≡ Some c → (d : ℕ) → sure_of s n d ≡ sure_at s (sure_of s) (Some c) d
    solved n c at d =
        let many = length (cards_of s) in
        sym (settled-all 0 [] rank refl (λ k e j none le. absurd (both_ways _ refl none)) n d many (in_rank (cards_of s) rank is n c at) (omega (arith, is.size)))
        ∙ round-at many n d ∙ ap (λ f. sure_at s (rounds many) f d) at

    -- a node of the rank comes next when those before it were seen
    pub rank-next : block_fault s ≡ None → (front rest : List ℕ) (n : ℕ) (c : Card) → rank ≡ front ++ n ∷ rest → card_at n (cards_of s) ≡ Some c → IsNext s front c
    rank-next no_fault front rest n c split at =
        let regular : Regular s = sound-regular s no_fault in
        let order = is.behind front rest n c split at in
        let cards = sources-have_cards s regular n c at in
        let named : c.node ≡ n = card_at-node n (cards_of s) c at in
        record {
          edged = card-edged s regular n c at;
          behind = rows-both (λ (e : End). is_one_of e.node front ≡ true) (λ e. HasCard (cards_of s) e.node) c.ins order.0 cards.0;
          synced = rows-both (λ m. is_one_of m front ≡ true) (HasCard (cards_of s)) c.syncs_in order.1 cards.1;
          solved = λ d. ap (λ k. sure_of s k d) named ∙ solved n c at d;
        }

    -- behind the whole rank all cards may be looked at
    pub all-next : block_fault s ≡ None → AllRows (IsNext s rank) (cards_of s)
    all-next no_fault =
        let regular : Regular s = sound-regular s no_fault in
        let seen : (n : ℕ) → HasCard (cards_of s) n → Seen s rank n = λ n card. (in_rank (cards_of s) rank is n card.0 card.1, card) in
        let there : AllRows (λ c. card_at c.node (cards_of s) ≡ Some c) (cards_of s) = rows-map _ (card_of s) (places s.start s.body s.finish) (placed-rows s (places s.start s.body s.finish) regular.distinct) in
        all-rows-map _ _ (λ c at.
        let cards = sources-have_cards s regular c.node c at in
        record {
          edged = card-edged s regular c.node c at;
          behind = all-rows-map _ _ (λ e card. seen e.node card) c.ins cards.0;
          synced = all-rows-map _ _ (λ m card. seen m card) c.syncs_in cards.1;
          solved = solved c.node c at;
        }) (cards_of s) there
