-- Of a node that is not touched only its Start and its Again can misfit, and only where it was visited.
use Rattle.wsm_adapt.proofs.Common.{[], ℕ, ◌&&◌, ◌∙◌, ◌≡◌, again_misfit, again_misfit_in, ap, before, Bool, both_ways, Card, card_at, cards_of, Changes, early_in, early_start, edges-fit, edges_fit, end_misfit, Entries, entry_at, Facts}
use Rattle.wsm_adapt.proofs.Common.{facts_of, false, fits_choice, fits_edges, flat_of, Found, is_again_of, is_known, is_loop_end, is_loop_start, is_one_of, is_yes, kinds-fit, lesser, List, loop_end, Mark, misfit_of, NodeKind, None, Option}
use Rattle.wsm_adapt.proofs.{Common.{partner_done, position_of, reads_fit, reads_in, refl, same_Some, SchemaModel, Some, Standing, start_misfit, sym, Timed, timed_of, timed_of-by, true, unless, worked_on}, Fitted.{again-fitted, end-fitted}}
use Rattle.wsm_adapt.proofs.{Fitted.start-fitted, KnownMisfits.{again-same, fit, kept-time, known-new}, Least.{Below, below-eq, below-then, lesser-glb, lesser-left, lesser-right}, LoopEnds.end-behind, OldMarks.{goal, kept, m1, m2}}
use Rattle.wsm_adapt.proofs.Partners.{start-of_end}
use Rattle.wsm_schema.specs.declared.cards.NodeKind.TheVariants.{Activity, LoopEnd, LoopStart, XorSplit}

and_true : (b t : Bool) → t ≡ true → (b && t) ≡ b
and_true true t h = h
and_true false t h = refl

-- nothing is asked where there is none
below-none : (a : Option ℕ) → Below a None
below-none a p h = absurd (let none : None ≡ Some p = h in cc)

-- a Start that is too early does not fit
start-below : (es : Entries) (c : Option Card) (x : Timed) (o : Option ℕ) → Below (start_misfit es c x o) (early_start c x o)
start-below es c x None = below-eq None None refl
start-below es None x (Some p) = below-eq (Some p) (Some p) refl
start-below es (Some c) x (Some p) = go (worked_on c.kind && is_yes (before p x)) (reads_fit (reads_in (entry_at p es)) c.reads)
  where
    go : (t r : Bool) → Below (unless (t && r) p) (unless t p)
    go true r = below-none (unless r p)
    go false r = below-eq (Some p) (Some p) refl

-- a loop's start is not worked on
silent-start : (k : NodeKind) → is_loop_start k ≡ true → worked_on k ≡ false
silent-start LoopStart starts = refl
silent-start Activity starts = absurd (both_ways _ refl starts)
silent-start XorSplit starts = absurd (both_ways _ refl starts)
silent-start LoopEnd starts = absurd (both_ways _ refl starts)
silent-start k starts = absurd (both_ways _ refl starts)

module _ (before_ after : SchemaModel) (rank touched : List ℕ) (es : Entries) (ch : Changes before_ after rank touched es) (found : Found)
    (st : Standing (cards_of after) rank (goal before_ after rank touched es ch) (kept before_ after rank touched es ch) touched [] found) where
  abbrev f : Facts
  f = facts_of es

  abbrev M1 : ℕ → Timed
  M1 = m1 before_ after rank touched es ch

  abbrev M2 : ℕ → Timed
  M2 = m2 before_ after rank touched es ch

  abbrev last : List (ℕ × Option Mark)
  last = found.known

  abbrev starts : ℕ → Option ℕ
  starts n = start_misfit es (card_at n (cards_of after)) (M2 n) (f.started n)

  abbrev ends : ℕ → Option ℕ
  ends n = end_misfit (flat_of before_) (flat_of after) (card_at n (cards_of before_)) (card_at n (cards_of after)) (f.ended n) (f.choice n)

  abbrev agains : ℕ → Option ℕ
  agains n = again_misfit (cards_of after) f M2 (card_at n (cards_of after)) (position_of (is_again_of n) es)

  -- what is looked at twice, over the new times
  early-is : (n : ℕ) (c : Card) → card_at n (cards_of after) ≡ Some c → is_known last n ≡ true → early_in (flat_of after) last n ≡ lesser (early_start (card_at n (cards_of after)) (M2 n) (f.started n)) (agains n)
  early-is n c at known =
      ap (λ (m : Mark). lesser (early_start (card_at n (cards_of after)) (timed_of m) m.started) (again_misfit_in (cards_of after) last (card_at n (cards_of after)) m.again)) (known-new before_ after rank touched es ch found st n c at known)
      ∙ ap (λ x. lesser (early_start (card_at n (cards_of after)) x (f.started n)) (again_misfit_in (cards_of after) last (card_at n (cards_of after)) (position_of (is_again_of n) es))) (timed_of-by M2 es n)
      ∙ ap (lesser (early_start (card_at n (cards_of after)) (M2 n) (f.started n))) (again-same before_ after rank touched es ch found st n)

  pub early-below : (n : ℕ) (c : Card) → card_at n (cards_of after) ≡ Some c → is_known last n ≡ true → Below (misfit_of (flat_of before_) (flat_of after) f M2 es n) (early_in (flat_of after) last n)
  early-below n c at known =
      let first : Option ℕ = early_start (card_at n (cards_of after)) (M2 n) (f.started n) in
      below-then _ (lesser first (agains n)) _
      (lesser-glb (lesser (starts n) (lesser (ends n) (agains n))) first (agains n)
      (below-then _ (starts n) first (lesser-left (starts n) (lesser (ends n) (agains n))) (start-below es (card_at n (cards_of after)) (M2 n) (f.started n)))
      (below-then _ (lesser (ends n) (agains n)) (agains n) (lesser-right (starts n) (lesser (ends n) (agains n))) (lesser-right (ends n) (agains n))))
      (below-eq (lesser first (agains n)) (early_in (flat_of after) last n) (sym (early-is n c at known)))

  module _ (n : ℕ) (c : Card) (at : card_at n (cards_of after) ≡ Some c) (same : is_one_of n touched ≡ false) where
    was : card_at n (cards_of before_) ≡ Some c
    was = (ch.untouched n same).card ∙ at

    same-start : starts n ≡ early_start (card_at n (cards_of after)) (M2 n) (f.started n)
    same-start = go (f.started n) refl
      where
        go : (o : Option ℕ) → f.started n ≡ o → start_misfit es (card_at n (cards_of after)) (M2 n) o ≡ early_start (card_at n (cards_of after)) (M2 n) o
        go None h = refl
        go (Some p) h =
            let s = start-fitted (flat_of before_) (m1 before_ after rank touched es ch) es ch.rises (fit before_ after rank touched es ch) n p h in
            let one : s.0 ≡ c = same_Some s.0 c (sym s.1 ∙ was) in
            let reads : reads_fit (reads_in (entry_at p es)) c.reads ≡ true = ap (λ (d : Card). reads_fit (reads_in (entry_at p es)) d.reads) (sym one) ∙ s.4 in
            ap (λ o. start_misfit es o (M2 n) (Some p)) at
            ∙ ap (λ t. unless t p) (and_true (worked_on c.kind && is_yes (before p (M2 n))) (reads_fit (reads_in (entry_at p es)) c.reads) reads)
            ∙ ap (λ o. early_start o (M2 n) (Some p)) (sym at)

    no-end : ends n ≡ None
    no-end = go (f.ended n) refl
      where
        go : (o : Option ℕ) → f.ended n ≡ o → end_misfit (flat_of before_) (flat_of after) (card_at n (cards_of before_)) (card_at n (cards_of after)) o (f.choice n) ≡ None
        go None h = refl
        go (Some p) h =
            let e = end-fitted (flat_of before_) (m1 before_ after rank touched es ch) es ch.rises (fit before_ after rank touched es ch) n p h in
            let one : e.0 ≡ c = same_Some e.0 c (sym e.2 ∙ was) in
            let edges : fits_edges before_.elements e.1 c.writes ≡ true = ap (λ (d : Card). fits_edges before_.elements e.1 d.writes) (sym one) ∙ e.3 in
            let chosen : fits_choice c (f.choice n) ≡ true = ap (λ (d : Card). fits_choice d (f.choice n)) (sym one) ∙ e.4 in
            let fits : edges_fit before_.elements after.elements c.writes c.writes ≡ true =
            sym (edges-fit before_.elements after.elements e.1 c.writes c.writes edges)
            ∙ sym (kinds-fit before_.elements after.elements e.1 c.writes ((ch.untouched n same).kinds c at))
            ∙ edges in
            ap (λ o. end_misfit (flat_of before_) (flat_of after) o (card_at n (cards_of after)) (Some p) (f.choice n)) was
            ∙ ap (λ o. end_misfit (flat_of before_) (flat_of after) (Some c) o (Some p) (f.choice n)) at
            ∙ ap (λ t. unless (t && fits_choice c (f.choice n)) p) fits
            ∙ ap (λ t. unless t p) chosen

    -- one that is known is looked at for these
    pub untouched-misfit : is_known last n ≡ true → early_in (flat_of after) last n ≡ misfit_of (flat_of before_) (flat_of after) f M2 es n
    untouched-misfit known =
        early-is n c at known
        ∙ ap (λ x. lesser x (agains n)) (sym same-start)
        ∙ ap (λ x. lesser (starts n) (lesser x (agains n))) (sym no-end)

    -- and one that was not visited fits, as it fitted
    module _ (away : is_one_of n found.nodes ≡ false) where
      no-start : early_start (card_at n (cards_of after)) (M2 n) (f.started n) ≡ None
      no-start = go (f.started n) refl
        where
          go : (o : Option ℕ) → f.started n ≡ o → early_start (card_at n (cards_of after)) (M2 n) o ≡ None
          go None h = refl
          go (Some p) h =
              let s = start-fitted (flat_of before_) M1 es ch.rises (fit before_ after rank touched es ch) n p h in
              let one : s.0 ≡ c = same_Some s.0 c (sym s.1 ∙ was) in
              let works : worked_on c.kind ≡ true = ap (λ (d : Card). worked_on d.kind) (sym one) ∙ s.2 in
              let ready : is_yes (before p (M2 n)) ≡ true = ap (λ x. is_yes (before p x)) (sym (kept-time before_ after rank touched es ch found st n c c was at (st.others n away))) ∙ s.3 in
              ap (λ o. early_start o (M2 n) (Some p)) at ∙ ap (λ t. unless (t && is_yes (before p (M2 n))) p) works ∙ ap (λ t. unless t p) ready

      no-again : agains n ≡ None
      no-again = go (position_of (is_again_of n) es) refl
        where
          go : (o : Option ℕ) → position_of (is_again_of n) es ≡ o → again_misfit (cards_of after) f M2 (card_at n (cards_of after)) o ≡ None
          go None h = refl
          go (Some p) h =
              let a = again-fitted (flat_of before_) M1 es ch.rises (fit before_ after rank touched es ch) n p h in
              let one : a.0 ≡ c = same_Some a.0 c (sym a.1 ∙ was) in
              let is_end : is_loop_end c.kind ≡ true = ap (λ (d : Card). is_loop_end d.kind) (sym one) ∙ a.2 in
              let done : partner_done (cards_of before_) f M1 p c.partner ≡ true = ap (λ (d : Card). partner_done (cards_of before_) f M1 p d.partner) (sym one) ∙ a.3 in
              ap (λ o. again_misfit (cards_of after) f M2 o (Some p)) at
              ∙ ap (λ t. unless (t && partner_done (cards_of after) f M2 p c.partner) p) is_end
              ∙ ap (λ t. unless t p) (loop-start-done p is_end c.partner refl done)
            where
              loop-start-done : (p : ℕ) → is_loop_end c.kind ≡ true → (o : Option ℕ) → c.partner ≡ o → partner_done (cards_of before_) f M1 p o ≡ true → partner_done (cards_of after) f M2 p o ≡ true
              loop-start-done p is_end None partner done = done
              loop-start-done p is_end (Some k) partner done =
                  let d = start-of_end after ch.regular_after n k c at is_end partner in
                  let e = start-of_end before_ ch.regular_before n k c was is_end partner in
                  let loop : loop_end d.0 ≡ Some n = starting d.0 d.2 d.3 in
                  let steady = st.loops k n d.0 c d.1 loop at (end-behind after ch.regular_after rank ch.ranked_after k n d.0 d.1 loop) away refl in
                  let time : M1 k ≡ M2 k = kept-time before_ after rank touched es ch found st k e.0 d.0 e.1 d.1 steady in
                  start-done d.0 d.1 d.2
                  (ap (λ x. is_yes (before p x)) (sym time) ∙ done-start e.0 e.1 e.2 done)
                where
                  starting : (x : Card) → is_loop_start x.kind ≡ true → x.partner ≡ Some n → loop_end x ≡ Some n
                  starting x is_start names = rw is_start names

                  start-done : (x : Card) → card_at k (cards_of after) ≡ Some x → is_loop_start x.kind ≡ true → is_yes (before p (M2 k)) ≡ true → partner_done (cards_of after) f M2 p (Some k) ≡ true
                  start-done x at_x is_start ready = rw (at_x, silent-start x.kind is_start) ready

                  done-start : (x : Card) → card_at k (cards_of before_) ≡ Some x → is_loop_start x.kind ≡ true → partner_done (cards_of before_) f M1 p (Some k) ≡ true → is_yes (before p (M1 k)) ≡ true
                  done-start x at_x is_start ready = rw (at_x, silent-start x.kind is_start) at ready

      pub steady-misfit : misfit_of (flat_of before_) (flat_of after) f M2 es n ≡ None
      steady-misfit =
          ap (λ x. lesser x (lesser (ends n) (agains n))) (same-start ∙ no-start)
          ∙ ap (λ x. lesser None (lesser x (agains n))) no-end
          ∙ no-again
