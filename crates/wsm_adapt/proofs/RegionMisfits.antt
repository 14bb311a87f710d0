-- The least misfit over touched and visited nodes is where the replay on the new schema fails.
use Rattle.wsm_adapt.proofs.Common.{[], ℕ, ◌∙◌, ◌∷◌, ◌≡◌, ap, Bool, both_ways, by_control, by_sync, Card, card_at, cards_of, cases_Bool, Changes, Confined, early_in, Ends, Entries, Entry, Facts, facts_of, false, fits, flat_of, Found, here}
use Rattle.wsm_adapt.proofs.Common.{inl, inr, is_one_of, is_reached, last_position, least, lesser, List, map, Mark, misfit_in, misfit_of, node_bad, None, not, Option, reached-keeps, reached-least, Reaches, refl, replay_of, SchemaModel}
use Rattle.wsm_adapt.proofs.{Common.{Some, Standing, subst, suc, sym, Timed, true, value_below}, EarlyMisfits.{early-below, steady-misfit, untouched-misfit}, KnownMisfits.{fit, gone-misfit, known-misfit}, Least.{Below, below-both}}
use Rattle.wsm_adapt.proofs.{Least.{below-eq, below-then, least-glb, least-member, lesser-glb, lesser-left, lesser-right}, NodeMisfits.misfit-is, OldMarks.{goal, kept, m1, m2}}
use Rattle.wsm_walk.specs.Reached.{reached_from}
use Rattle.wsm_walk.proofs.Adapts.{adapt-ends}

module _ (before_ after : SchemaModel) (rank touched : List ℕ) (es : Entries) (ch : Changes before_ after rank touched es) (found : Found)
    (st : Standing (cards_of after) rank (goal before_ after rank touched es ch) (kept before_ after rank touched es ch) touched [] found)
    (con : Confined (cards_of after) rank (is_reached (cards_of after) rank touched) [] found.nodes) where
  abbrev f : Facts
  f = facts_of es

  abbrev M2 : ℕ → Timed
  M2 = m2 before_ after rank touched es ch

  abbrev last : List (ℕ × Option Mark)
  last = found.known

  abbrev reached : List ℕ
  reached = reached_from (cards_of after) rank touched

  abbrev each : ℕ → Option ℕ
  each n = misfit_in (flat_of before_) (flat_of after) last es n

  abbrev early : ℕ → Option ℕ
  early n = early_in (flat_of after) last n

  abbrev whole_misfit : ℕ → Option ℕ
  whole_misfit n = misfit_of (flat_of before_) (flat_of after) f M2 es n

  -- a visited node is one of the schema
  not-gone : (n : ℕ) → card_at n (cards_of after) ≡ None → is_one_of n found.nodes ≡ false
  not-gone n at = elim (cases_Bool (is_one_of n found.nodes)) [
    | inr other ↦ other
    | inl it ↦ let has = (con.visited n it).1 in absurd (let q : None ≡ Some has.0 = sym at ∙ has.1 in cc)
  ]

  touched-misfit : (n : ℕ) → is_one_of n touched ≡ true → each n ≡ whole_misfit n
  touched-misfit n seed = go (card_at n (cards_of after)) refl
    where
      go : (o : Option Card) → card_at n (cards_of after) ≡ o → each n ≡ whole_misfit n
      go None at = gone-misfit before_ after rank touched es ch found st n seed (not-gone n at) at
      go (Some c) at = known-misfit before_ after rank touched es ch found st n c at (st.asked n seed)

  -- what is reached and no seed has a card
  reached-card : (n : ℕ) → is_one_of n reached ≡ true → is_one_of n touched ≡ false → (c : Card) × (card_at n (cards_of after) ≡ Some c)
  reached-card n among other =
      let r = reached-least (cards_of after) touched rank touched (λ k seed. (k, seed, here k)) n among in
      go r.0 n r.2 r.1 other
    where
      go : (m k : ℕ) → Reaches (cards_of after) m k → is_one_of m touched ≡ true → is_one_of k touched ≡ false → (c : Card) × (card_at k (cards_of after) ≡ Some c)
      go _ _ (here k) seed no_seed = absurd (both_ways _ no_seed seed)
      go _ _ (by_control x k c label at edge a reach) seed no_seed = (c, at)
      go _ _ (by_sync x k c at edge a reach) seed no_seed = (c, at)

  abbrev later : Option ℕ
  later = least (map early found.nodes)

  -- a node that is reached has nothing earlier than what was looked at
  looked-at : (n : ℕ) → is_one_of n reached ≡ true → Below (lesser (least (map each touched)) later) (whole_misfit n)
  looked-at n among =
      let L : Option ℕ = lesser (least (map each touched)) later in
      elim (cases_Bool (is_one_of n touched)) [
        | inl seed ↦
            below-then L (least (map each touched)) (whole_misfit n) (lesser-left (least (map each touched)) later)
            (below-then (least (map each touched)) (each n) (whole_misfit n) (least-member each touched n seed) (below-eq (each n) (whole_misfit n) (touched-misfit n seed)))
        | inr other ↦
            let has = reached-card n among other in
            elim (cases_Bool (is_one_of n found.nodes)) [
              | inl visited ↦
                  below-then L later (whole_misfit n) (lesser-right (least (map each touched)) later)
                  (below-then later (early n) (whole_misfit n) (least-member early found.nodes n visited)
                  (below-eq (early n) (whole_misfit n) (untouched-misfit before_ after rank touched es ch found st n has.0 has.1 other (st.visited n visited))))
              | inr away ↦
                  let none : whole_misfit n ≡ None = steady-misfit before_ after rank touched es ch found st n has.0 has.1 other away in
                  λ p at. absurd (let q : None ≡ Some p = sym none ∙ at in cc)
            ]
      ]

  all-misfit : least (map whole_misfit reached) ≡ lesser (least (map each touched)) later
  all-misfit =
      let R : Option ℕ = least (map whole_misfit reached) in
      below-both R (lesser (least (map each touched)) later)
      (lesser-glb R (least (map each touched)) later
      (least-glb R each touched (λ n seed. below-then R (whole_misfit n) (each n) (least-member whole_misfit reached n (reached-keeps (cards_of after) rank touched n seed)) (below-eq (whole_misfit n) (each n) (sym (touched-misfit n seed)))))
      (least-glb R early found.nodes (λ n among.
      let it = con.visited n among in
      below-then R (whole_misfit n) (early n) (least-member whole_misfit reached n it.0) (early-below before_ after rank touched es ch found st n it.1.0 it.1.1 (st.visited n among)))))
      (least-glb (lesser (least (map each touched)) later) whole_misfit reached looked-at)

  abbrev bad : ℕ × Entry → Bool
  bad e = not (fits (flat_of after) f M2 (λ d. value_below d e.0 es) e.0 e.1)

  same-all : (ns : List ℕ) → map (node_bad bad es) ns ≡ map whole_misfit ns
  same-all [] = refl
  same-all (n ∷ ns) =
      ap (λ x. x ∷ map (node_bad bad es) ns) (misfit-is (flat_of before_) (flat_of after) es ch.rises (m1 before_ after rank touched es ch) M2 (fit before_ after rank touched es ch) n)
      ∙ ap (λ l. whole_misfit n ∷ l) (same-all ns)

  -- the replay on the new schema fails at the least of what was looked at, or is whole
  pub region-ends : Ends (cards_of after) f M2 (suc (last_position 0 es)) (lesser (least (map each touched)) later) (replay_of (flat_of after) es)
  region-ends =
      subst (λ o. Ends (cards_of after) f M2 (suc (last_position 0 es)) o (replay_of (flat_of after) es)) (ap least (same-all reached) ∙ all-misfit)
      (adapt-ends before_ after ch.regular_after ch.rank_before rank ch.ranked_before ch.ranked_after touched ch.untouched es ch.marking ch.rises ch.replays)
