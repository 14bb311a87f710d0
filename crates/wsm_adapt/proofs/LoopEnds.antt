-- The nodes that some nodes reach have with a node those that its card names, and with the start of a loop its end, which stands behind it.
use Rattle.wsm_adapt.proofs.Common.{[], ℕ, ◌++◌, ◌<◌, ◌∙◌, ◌∷◌, ◌≡◌, ◌⊎◌, all_rows, AllRows, ap, arith, both_ways, by_control, by_sync, Card, card_at, cards_of, cases_Bool, Closed, End, eq-eqb, eqb, eqb-true, false, here, in_rank, inl, inr}
use Rattle.wsm_adapt.proofs.Common.{is_loop_end, is_loop_start, is_one_of, is_reached, IsRank, length, List, loop_end, member-splits, NodeKind, None, or-true, place-behind, place-front, rank_place, reached-keeps, reached-least}
use Rattle.wsm_adapt.proofs.{Common.{reached-names, Reaches, refl, region-of, Regular, rows-member, same_card, SchemaModel, Some, subst, sym, true}, Partners.end-of_start}
use Rattle.wsm_schema.specs.declared.cards.NodeKind.TheVariants.{LoopEnd, LoopStart}

-- a card with the end of its loop is that of a loop's start
pub starts-loop : (c : Card) (e : ℕ) → loop_end c ≡ Some e → (is_loop_start c.kind ≡ true) × (c.partner ≡ Some e)
starts-loop c e h =
    elim (cases_Bool (is_loop_start c.kind)) [
      | inl starts ↦ (starts, rw starts at h)
      | inr other ↦ let q : None ≡ Some e = rw other at h in absurd (cc)
    ]

pub no-start_end : (k : NodeKind) → is_loop_start k ≡ true → is_loop_end k ≡ true → ⊥
no-start_end LoopStart starts ends = both_ways _ refl ends
no-start_end LoopEnd starts ends = both_ways _ refl starts
no-start_end k starts ends = both_ways _ refl starts

module _ (s : SchemaModel) (regular : Regular s) (rank : List ℕ) (is : IsRank (cards_of s) rank) where
  module _ (seeds : List ℕ) where
    -- where a loop's start is reached, so is its end
    end-reached : (l e : ℕ) (c : Card) → card_at l (cards_of s) ≡ Some c → loop_end c ≡ Some e → is_reached (cards_of s) rank seeds l ≡ true → is_reached (cards_of s) rank seeds e ≡ true
    end-reached l e c at ends reached =
        let starts = starts-loop c e ends in
        let d = end-of_start s regular e l c at starts.0 starts.1 in
        let region = region-of s s regular rank is seeds (λ n out. record { card = refl; kinds = λ b found. all_rows _ (λ x. refl) b.writes }) in
        elim (cases_Bool (is_reached (cards_of s) rank seeds e)) [
          | inl it ↦ it
          | inr out ↦ absurd (both_ways _ (region.partners e l d.0 d.1 out d.2 d.3) reached)
        ]

    pub reached-closed_in : Closed (cards_of s) (is_reached (cards_of s) rank seeds)
    reached-closed_in = record { names = reached-names s regular rank is seeds; loops = end-reached }

  -- a source stands before its target
  source-before : (n x : ℕ) (c : Card) → card_at n (cards_of s) ≡ Some c → ((front : List ℕ) → AllRows (λ e. is_one_of e.node front ≡ true) c.ins × AllRows (λ m. is_one_of m front ≡ true) c.syncs_in → is_one_of x front ≡ true) →
      rank_place x rank < rank_place n rank
  source-before n x c at source =
      let split = member-splits n rank (in_rank (cards_of s) rank is n c at) in
      let first : is_one_of x split.0 ≡ true = source split.0 (is.behind split.0 split.1 n c split.2 at) in
      let own : rank_place n rank ≡ length split.0 = ap (rank_place n) split.2 ∙ place-behind split.0 split.1 n (is.once split.0 split.1 n split.2) in
      let less : rank_place x (split.0 ++ (n ∷ split.1)) < length split.0 = place-front x split.0 (n ∷ split.1) first in
      let same : rank_place x rank ≡ rank_place x (split.0 ++ (n ∷ split.1)) = ap (rank_place x) split.2 in
      omega (arith, own, less, same)

  -- so what a node reaches is that node, or stands behind it
  reaches-behind : (m n : ℕ) → Reaches (cards_of s) m n → (m ≡ n) ⊎ (rank_place m rank < rank_place n rank)
  reaches-behind _ _ (here n) = inl refl
  reaches-behind _ _ (by_control x n c label at edge a reach) =
      let end : End = record { node = x; label = label } in
      let less = source-before n x c at (λ front rows. rows-member (λ y. is_one_of y.node front ≡ true) c.ins end rows.0 edge) in
      inr (elim (reaches-behind a x reach) [ inl same ↦ subst (λ y. rank_place y rank < rank_place n rank) (sym same) less | inr before ↦ omega (arith, before, less) ])
  reaches-behind _ _ (by_sync x n c at edge a reach) =
      let less = source-before n x c at (λ front rows. rows-member (λ y. is_one_of y front ≡ true) c.syncs_in x rows.1 edge) in
      inr (elim (reaches-behind a x reach) [ inl same ↦ subst (λ y. rank_place y rank < rank_place n rank) (sym same) less | inr before ↦ omega (arith, before, less) ])

  -- a loop's end stands behind its start
  pub end-behind : (l e : ℕ) (c : Card) → card_at l (cards_of s) ≡ Some c → loop_end c ≡ Some e → rank_place l rank < rank_place e rank
  end-behind l e c at ends =
      let starts = starts-loop c e ends in
      let d = end-of_start s regular e l c at starts.0 starts.1 in
      let own : is_reached (cards_of s) rank (l ∷ []) l ≡ true = reached-keeps (cards_of s) rank (l ∷ []) l (rw (eq-eqb l l refl) refl) in
      let reach = reached-least (cards_of s) (l ∷ []) rank (l ∷ []) (λ n h. (n, h, here n)) e (end-reached (l ∷ []) l e c at ends own) in
      let from : l ≡ reach.0 = elim (or-true (eqb l reach.0) false reach.1) [ inl same ↦ eqb-true l reach.0 same | inr none ↦ absurd (both_ways _ refl none) ] in
      elim (reaches-behind reach.0 e reach.2) [
        | inr less ↦ subst (λ x. rank_place x rank < rank_place e rank) (sym from) less
        | inl same ↦
            let one : c ≡ d.0 = same_card (cards_of s) e c d.0 (ap (λ x. card_at x (cards_of s)) (sym (from ∙ same)) ∙ at) d.1 in
            absurd (no-start_end c.kind starts.0 (ap (λ (x : Card). is_loop_end x.kind) one ∙ d.2))
      ]
