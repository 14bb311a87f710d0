-- The marking at the end of a trail that replays whole, read at a node.
use Rattle.wsm_marks.proofs.Common.{[], ℕ, ◌∙◌, ◌∷◌, ◌≡◌, ◌≤◌, AllRows, and_parts, ap, arith, before, Bool, both_ways, Card, card_at, cards_of, cases_Bool, early, Ends, Entries, Entry, facts_of, false, fits, flat_of, inl, inr, InTime}
use Rattle.wsm_marks.proofs.Common.{is_end_of, is_in_state, IsBelow, IsRank, last_position, List, lt-ltb, ltb-true, nat_lt, NodeKind, None, Option, Orderly, Outcome, position_of, refl, replay_of, RisesAfter, SchemaModel, solution, Some}
use Rattle.wsm_marks.proofs.{Common.{spot_in, Spots, state_by, subst, suc, sym, true, value_below, Verdict, verdict_of, whole, worked_on}, Causality.{TimedNet, solved_net, works_before}, EntrySteps.fresh-activated, FirstFailure.fits-rows}
use Rattle.wsm_marks.proofs.{MarksOfTrails.whole-fits, SaneTrails.{found-row, position-found}, Signals.is_yes-some, Telling.{AllBelow, trail-ends}, WholeTrails.whole-orderly}
use Rattle.wsm_schema.specs.declared.states.Flow.TheVariants.{Yes}
use Rattle.wsm_schema.specs.declared.states.State.TheVariants as state
use Rattle.wsm_schema.specs.declared.states.Verdict.TheVariants as verdict

-- all positions are up to the last one
positions-early : (last : ℕ) (es : Entries) → RisesAfter last es → AllBelow (suc (last_position last es)) es × (last ≤ last_position last es)
positions-early last [] rises = (tt, omega arith)
positions-early last (e ∷ es) rises =
    let r = positions-early e.0 es rises.1 in ((lt-ltb e.0 _ (omega (arith, r.1)), r.0), omega (arith, r.1, ltb-true last e.0 rises.0))

-- so each position that is told is early behind the last one
pub told-early : (test : Entry → Bool) (es : Entries) (p : ℕ) → RisesAfter 0 es → position_of test es ≡ Some p → nat_lt p (suc (last_position 0 es)) ≡ true
told-early test es p rises h =
    let x = position-found test es p h in
    (found-row (λ e. nat_lt e.0 (suc (last_position 0 es)) ≡ true) test es (p, x.0) (positions-early 0 es rises).0 x.1).0

-- what is not early behind the last position is never told
pub never-told : (test : Entry → Bool) (es : Entries) → RisesAfter 0 es → early (suc (last_position 0 es)) (position_of test es) ≡ false → position_of test es ≡ None
never-told test es rises late = go (position_of test es) refl
  where
    go : (o : Option ℕ) → position_of test es ≡ o → position_of test es ≡ None
    go None h = h
    go (Some p) h = absurd (both_ways _ late (ap (early (suc (last_position 0 es))) h ∙ told-early test es p rises h))

-- a node that was not begun is not Running
fresh-running : (k : NodeKind) (v : Verdict) → is_in_state (state_by k v) state.Running ≡ false
fresh-running k verdict.Waiting = refl
fresh-running k verdict.Skipped = refl
fresh-running k verdict.Ready = elim (cases_Bool (worked_on k)) [ inl works ↦ rw works refl | inr silent ↦ rw silent refl ]

module _ (s : SchemaModel) (rank : List ℕ) (es : Entries) (t : Spots) where
  -- a trail that replays whole, with the marking at its end
  pub record WholeTrail : Type 0 where
    pub net : TimedNet (cards_of s) rank (facts_of es) (solution (cards_of s) rank (facts_of es))
    pub orderly : Orderly es
    pub fit : AllRows (λ e. fits (flat_of s) (facts_of es) (solution (cards_of s) rank (facts_of es)) (λ d. value_below d e.0 es) e.0 e.1 ≡ true) es
    pub is_below : IsBelow (cards_of s) (suc (last_position 0 es)) (facts_of es) (solution (cards_of s) rank (facts_of es)) t
    pub in_time : InTime (cards_of s) (suc (last_position 0 es)) (facts_of es) (solution (cards_of s) rank (facts_of es))

  -- so each trail that replays whole is
  pub whole-trail : IsRank (cards_of s) rank → RisesAfter 0 es → replay_of (flat_of s) es ≡ whole t → WholeTrail
  whole-trail is rises is_whole =
      let f = facts_of es in
      let m = solution (cards_of s) rank f in
      let orderly : Orderly es = whole-orderly (flat_of s) es t rises is_whole in
      let net = solved_net (cards_of s) rank is f in
      let fit = whole-fits (flat_of s) rank es m net orderly t is_whole in
      let end = trail-ends (flat_of s) rank es m net orderly in
      let last = subst (λ o. Ends (cards_of s) f m (suc (last_position 0 es)) o (replay_of (flat_of s) es)) fit end in
      let same : t ≡ last.0 = same_whole t last.0 (sym is_whole ∙ last.1) in
      record {
        net = net;
        orderly = orderly;
        fit = fits-rows (flat_of s) f m (λ d q. value_below d q es) es fit;
        is_below = subst (IsBelow (cards_of s) (suc (last_position 0 es)) f m) (sym same) last.2;
        in_time = last.3;
      }
    where
      spots_of : Outcome → Spots
      spots_of (whole x) = x
      spots_of _ = []

      same_whole : (a b : Spots) → whole a ≡ whole b → a ≡ b
      same_whole a b h = ap spots_of h

  module _ (trail : WholeTrail) (n : ℕ) (c : Card) (at : card_at n (cards_of s) ≡ Some c) where
    -- a node that is Activated is worked on, and is ready
    pub activated-ready : is_in_state (spot_in n t).state state.Activated ≡ true →
        (worked_on c.kind ≡ true) × (before (suc (last_position 0 es)) (solution (cards_of s) rank (facts_of es) n) ≡ Some Yes)
    activated-ready h =
        let q : ℕ = suc (last_position 0 es) in
        elim (cases_Bool (early q ((facts_of es).ended n))) [
          | inl over ↦ absurd (both_ways _ refl (rw (trail.is_below.at n c at, over) at h))
          | inr open_yet ↦
              elim (cases_Bool (early q ((facts_of es).started n))) [
                | inl begun ↦ absurd (both_ways _ refl (rw (trail.is_below.at n c at, open_yet, begun) at h))
                | inr fresh ↦
                    let r = and_parts (worked_on c.kind) _ (sym (fresh-activated c.kind (before q (solution (cards_of s) rank (facts_of es) n))) ∙ (rw (trail.is_below.at n c at, open_yet, fresh) at h)) in
                    (r.0, is_yes-some _ r.1)
              ]
        ]

    -- a node that is Running is worked on, was ready, was started, and has no End
    pub running-held : is_in_state (spot_in n t).state state.Running ≡ true →
        (worked_on c.kind ≡ true) × (before (suc (last_position 0 es)) (solution (cards_of s) rank (facts_of es) n) ≡ Some Yes)
        × (early (suc (last_position 0 es)) ((facts_of es).started n) ≡ true) × ((facts_of es).ended n ≡ None)
    running-held h =
        let q : ℕ = suc (last_position 0 es) in
        elim (cases_Bool (early q ((facts_of es).ended n))) [
          | inl over ↦ absurd (both_ways _ refl (rw (trail.is_below.at n c at, over) at h))
          | inr open_yet ↦
              elim (cases_Bool (early q ((facts_of es).started n))) [
                | inl begun ↦
                    let w = works_before (cards_of s) q (facts_of es) (solution (cards_of s) rank (facts_of es)) trail.in_time n c at begun in
                    (w.0, w.1, begun, never-told (is_end_of n) es trail.orderly.rises open_yet)
                | inr fresh ↦
                    absurd (both_ways _ (fresh-running c.kind (verdict_of (before q (solution (cards_of s) rank (facts_of es) n)))) (rw (trail.is_below.at n c at, open_yet, fresh) at h))
              ]
        ]
