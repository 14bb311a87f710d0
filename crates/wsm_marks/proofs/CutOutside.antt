-- A cut changes no mark outside the loop's body, nor at its start.
use Rattle.wsm_marks.proofs.Common.{[], ℕ, ◌==◌, ◌∙◌, ◌∷◌, ◌≡◌, ◌⊎◌, AllRows, and_left, and_parts, ap, before, Bool, both_rows, both_ways, Card, card_at, cases_Bool, Cleared, cond, count_by, early, End, eqb, eqb-true, Facts, false, Flow}
use Rattle.wsm_marks.proofs.Common.{flow, inl, Inner, inr, InTime, is_no, is_one_of, is_ready, is_skipped, is_some, is_yes, IsRank, judge_of, List, list_all, LoopOf, map, Marking, nat_lt, NodeKind, None, Option, refl, rows-map, sig_at}
use Rattle.wsm_marks.proofs.{Common.{sig_by, sig_of, Solves, Some, subst, sym, Timed, timed_by, true, verdict_of, worked_on}, Causality.{TimedNet, not_ended-signal, works_before}, Lists.map-map, RankInduction.{Known, rank_induction}}
use Rattle.wsm_marks.proofs.{Signals.{before_none, is_yes-some}, Solutions.eq_of-same, Threshold.threshold}
use Rattle.wsm_schema.specs.declared.cards.NodeKind.TheVariants as kind
use Rattle.wsm_schema.specs.declared.states.Flow.TheVariants.{Yes, No}
use Rattle.wsm_schema.specs.declared.states.Verdict.TheVariants as verdict

-- a node that is not ended, and not skipped, says nothing, or that it is ready
no-signal : (k : NodeKind) (x : Timed) (choice label : Option ℕ) → worked_on k ≡ true → is_no (flow x) ≡ false → sig_of k x None choice label ≡ None
no-signal k None choice label works h = rw works refl
no-signal k (Some (t, Yes)) choice label works h = rw works refl
no-signal k (Some (t, No)) choice label works h = absurd (both_ways _ h refl)

not_no-signal : (k : NodeKind) (x : Timed) (choice label : Option ℕ) → is_no (flow x) ≡ false → is_no (flow (sig_of k x None choice label)) ≡ false
not_no-signal k None choice label h = elim (cases_Bool (worked_on k)) [ inl works ↦ rw works refl | inr silent ↦ rw silent refl ]
not_no-signal k (Some (t, Yes)) choice label h = elim (cases_Bool (worked_on k)) [ inl works ↦ rw works refl | inr silent ↦ rw silent refl ]
not_no-signal k (Some (t, No)) choice label h = absurd (both_ways _ h refl)

-- no False, no skip
not_skipped : {X : Type 0} (k : NodeKind) (g : X → Timed) (xs : List X) → Inner k xs → AllRows (λ x. is_no (flow (g x)) ≡ false) xs → is_skipped k (map flow (map g xs)) ≡ false
not_skipped kind.Start g xs i h = absurd i
not_skipped _ g [] i h = absurd i
not_skipped _ g (x ∷ xs) i h = and_left (is_no (flow (g x))) _ h.0

not_no-timed : (r s y : Bool) (a b : ℕ) → s ≡ false → is_no (flow (timed_by (cond r (cond y verdict.Ready verdict.Waiting) (cond s verdict.Skipped verdict.Waiting)) a b)) ≡ false
not_no-timed r true y a b h = absurd (both_ways _ h refl)
not_no-timed true false true a b h = refl
not_no-timed true false false a b h = refl
not_no-timed false false y a b h = refl

module _ (cards : List Card) (rank : List ℕ) (is : IsRank cards rank) (f f' : Facts) (m m' : Marking) (s : Solves cards f m) (s' : Solves cards f' m')
    (body : List ℕ) (l e : ℕ) (loop : LoopOf cards body l e) (cleared : Cleared body f f')
    (open_end : f.ended e ≡ None) (end_stays : is_no (flow (m e)) ≡ false) (start_stays : is_no (flow (m l)) ≡ false) where
  -- outside the loop, or its start
  abbrev Out : ℕ → Type 0
  Out n = (is_one_of n body ≡ false) ⊎ (n ≡ l)

  -- the mark outside is the same, and inside nothing is skipped
  abbrev Same : ℕ → Type 0
  Same n = (Out n → m n ≡ m' n) × (is_one_of n body ≡ true → is_no (flow (m' n)) ≡ false)

  out-signal : (label : Option ℕ) (n : ℕ) → is_one_of n body ≡ false → Known cards Same n → sig_at cards f m label n ≡ sig_at cards f' m' label n
  out-signal label n out known = go (card_at n cards) known
    where
      go : (o : Option Card) → ((c : Card) → o ≡ Some c → Same n) → sig_by o (m n) (f.ended n) (f.choice n) label ≡ sig_by o (m' n) (f'.ended n) (f'.choice n) label
      go None h = refl
      go (Some c) h = rw ((h c refl).0 (inl out), cleared.ended n out, cleared.choice n out) refl

  end-signal : (label : Option ℕ) → Known cards Same e → sig_at cards f m label e ≡ sig_at cards f' m' label e
  end-signal label known = go (card_at e cards) refl
    where
      go : (o : Option Card) → card_at e cards ≡ o → sig_by o (m e) (f.ended e) (f.choice e) label ≡ sig_by o (m' e) (f'.ended e) (f'.choice e) label
      go None h = refl
      go (Some c) h =
          ap (λ x. sig_of c.kind (m e) x (f.choice e) label) open_end ∙ no-signal c.kind (m e) (f.choice e) label (loop.works c h) end_stays
          ∙ sym (ap (λ x. sig_of c.kind (m' e) x (f'.choice e) label) (cleared.no_end e loop.has_end) ∙ no-signal c.kind (m' e) (f'.choice e) label (loop.works c h) ((known c h).1 loop.has_end))

  in-signal : (label : Option ℕ) (n : ℕ) → is_one_of n body ≡ true → Known cards Same n → is_no (flow (sig_at cards f' m' label n)) ≡ false
  in-signal label n inside known = go (card_at n cards) known
    where
      go : (o : Option Card) → ((c : Card) → o ≡ Some c → Same n) → is_no (flow (sig_by o (m' n) (f'.ended n) (f'.choice n) label)) ≡ false
      go None h = refl
      go (Some c) h =
          ap (λ x. is_no (flow (sig_of c.kind (m' n) x (f'.choice n) label))) (cleared.no_end n inside)
          ∙ not_no-signal c.kind (m' n) (f'.choice n) label ((h c refl).1 inside)

  same-step : (n : ℕ) (c : Card) → card_at n cards ≡ Some c → AllRows (λ x. Known cards Same x.node) c.ins → AllRows (Known cards Same) c.syncs_in → Same n
  same-step n c at ins syncs =
      let outside : Out n → m n ≡ m' n =
      λ out.
      s.meets n c at
      ∙ eq_of-same c _ _ _ _
      (both_rows (λ x. Known cards Same x.node) (λ x. (is_one_of x.node body ≡ false) ⊎ (x.node ≡ e)) (λ x. sig_at cards f m x.label x.node ≡ sig_at cards f' m' x.label x.node)
      (λ x known where_x. elim where_x [
        | inl out_x ↦ out-signal x.label x.node out_x known
        | inr is_e ↦ ap (sig_at cards f m x.label) is_e ∙ end-signal x.label (subst (Known cards Same) is_e known) ∙ ap (sig_at cards f' m' x.label) (sym is_e)
      ]) c.ins ins (loop.ins n c at out))
      (both_rows (Known cards Same) (λ x. is_one_of x body ≡ false) (λ x. sig_at cards f m None x ≡ sig_at cards f' m' None x) (λ x known out_x. out-signal None x out_x known) c.syncs_in syncs (loop.syncs n c at out))
      ∙ sym (s'.meets n c at)
      in (
        outside,
        λ inside. elim (cases_Bool (eqb n l)) [
          | inl same ↦
              let is_l : n ≡ l = eqb-true n l same in
              ap (λ x. is_no (flow x)) (sym (outside (inr is_l)) ∙ ap m is_l) ∙ start_stays
          | inr other ↦
              ap (λ x. is_no (flow x)) (s'.meets n c at)
              ∙ not_no-timed (is_ready c.kind (map flow (map (λ x. sig_at cards f' m' x.label x.node) c.ins))) (is_skipped c.kind (map flow (map (λ x. sig_at cards f' m' x.label x.node) c.ins)))
              (list_all is_some (map flow (map (sig_at cards f' m' None) c.syncs_in))) _ _
              (not_skipped c.kind (λ x. sig_at cards f' m' x.label x.node) c.ins (loop.inner n c at inside other)
              (both_rows (λ x. Known cards Same x.node) (λ x. is_one_of x.node body ≡ true) _ (λ x known in_x. in-signal x.label x.node in_x known) c.ins ins (loop.within n c at inside other)))
        ],
      )

  -- a cut changes no mark outside the loop, nor at its start
  pub cut_outside : (n : ℕ) (c : Card) → card_at n cards ≡ Some c → (is_one_of n body ≡ false) ⊎ (n ≡ l) → m n ≡ m' n
  cut_outside n c at out = (rank_induction cards rank is Same same-step n c at).0 out

-- ---- a node of the body that is ready before q stands behind a loop start that is
some-yes : (G : Type 0) (os : List (Option Flow)) → AllRows (λ o. is_yes o ≡ true → G) os → (count_by is_yes os == 1) ≡ true → G
some-yes G [] h r = absurd (both_ways _ refl r)
some-yes G (Some Yes ∷ os) h r = h.0 refl
some-yes G (Some No ∷ os) h r = some-yes G os h.1 r
some-yes G (None ∷ os) h r = some-yes G os h.1 r

ready-some : {X : Type 0} (G : Type 0) (k : NodeKind) (g : X → Option Flow) (xs : List X) → Inner k xs → AllRows (λ x. is_yes (g x) ≡ true → G) xs → is_ready k (map g xs) ≡ true → G
ready-some G kind.Start g xs i h r = absurd i
ready-some G kind.XorJoin g xs i h r = some-yes G (map g xs) (rows-map _ g xs h) (and_parts (list_all is_some (map g xs)) _ r).1
ready-some G _ g [] i h r = absurd i
ready-some G _ g (x ∷ xs) i h r = h.0 (and_parts (is_yes (g x)) _ r).0

open-source : (k : NodeKind) (q : ℕ) (x : Timed) (en choice label : Option ℕ) → early q en ≡ false → before q (sig_of k x en choice label) ≡ Some Yes → before q x ≡ Some Yes
open-source k q (Some (t, No)) en choice label h y = y
open-source k q (Some (t, Yes)) en choice label h y =
    elim (cases_Bool (worked_on k)) [
      | inl works ↦ let p : None ≡ Some Yes = sym (not_ended-signal k q en choice label h) ∙ (rw works at y) in absurd (cc)
      | inr silent ↦ rw silent at y
    ]
open-source k q None en choice label h y =
    elim (cases_Bool (worked_on k)) [
      | inl works ↦ let p : None ≡ Some Yes = sym (not_ended-signal k q en choice label h) ∙ (rw works at y) in absurd (cc)
      | inr silent ↦ rw silent at y
    ]

judged-ready : (r s y : Bool) → cond r (cond y verdict.Ready verdict.Waiting) (cond s verdict.Skipped verdict.Waiting) ≡ verdict.Ready → r ≡ true
judged-ready true s y h = refl
judged-ready false true y h = absurd (cc)
judged-ready false false y h = absurd (cc)

module _ (cards : List Card) (rank : List ℕ) (f : Facts) (m : Marking) (net : TimedNet cards rank f m) (q : ℕ) (pos : nat_lt 0 q ≡ true) (in_time : InTime cards q f m) (body : List ℕ) (l e : ℕ) (loop : LoopOf cards body l e) where
  yes-source : (n : ℕ) (c : Card) → card_at n cards ≡ Some c → (label : Option ℕ) → before q (sig_of c.kind (m n) (f.ended n) (f.choice n) label) ≡ Some Yes → before q (m n) ≡ Some Yes
  yes-source n c at label h =
      elim (cases_Bool (early q (f.ended n))) [
        | inl over ↦ (works_before cards q f m in_time n c at (in_time.end n over)).1
        | inr open_yet ↦ open-source c.kind q (m n) (f.ended n) (f.choice n) label open_yet h
      ]

  ready-source : (label : Option ℕ) (n : ℕ) → is_yes (before q (sig_at cards f m label n)) ≡ true → (c : Card) × (card_at n cards ≡ Some c) × (before q (m n) ≡ Some Yes)
  ready-source label n h = go (card_at n cards) refl h
    where
      go : (o : Option Card) → card_at n cards ≡ o → is_yes (before q (sig_by o (m n) (f.ended n) (f.choice n) label)) ≡ true → (c : Card) × (card_at n cards ≡ Some c) × (before q (m n) ≡ Some Yes)
      go None e h = absurd (both_ways _ (ap is_yes (before_none q)) h)
      go (Some c) e h = (c, e, yes-source n c e label (is_yes-some _ h))

  -- a node of the body that is ready stands behind a loop start that is
  pub ready-back : (n : ℕ) (c : Card) → card_at n cards ≡ Some c → is_one_of n body ≡ true → before q (m n) ≡ Some Yes → before q (m l) ≡ Some Yes
  ready-back = rank_induction cards rank net.ranked (λ n. is_one_of n body ≡ true → before q (m n) ≡ Some Yes → before q (m l) ≡ Some Yes) step
    where
      step : (n : ℕ) (c : Card) → card_at n cards ≡ Some c →
          AllRows (λ x. Known cards (λ k. is_one_of k body ≡ true → before q (m k) ≡ Some Yes → before q (m l) ≡ Some Yes) x.node) c.ins →
          AllRows (Known cards (λ k. is_one_of k body ≡ true → before q (m k) ≡ Some Yes → before q (m l) ≡ Some Yes)) c.syncs_in →
          is_one_of n body ≡ true → before q (m n) ≡ Some Yes → before q (m l) ≡ Some Yes
      step n c at ins syncs inside ready =
          elim (cases_Bool (eqb n l)) [
            | inl same ↦ ap (λ k. before q (m k)) (sym (eqb-true n l same)) ∙ ready
            | inr other ↦
                let sig : End → Timed = λ x. sig_at cards f m x.label x.node in
                let v : judge_of c.kind (map (before q) (map sig c.ins)) (map (before q) (map (sig_at cards f m None) c.syncs_in)) ≡ verdict.Ready =
                threshold q pos c.kind (map sig c.ins) (map (sig_at cards f m None) c.syncs_in)
                ∙ ap (λ x. verdict_of (before q x)) (sym (net.solves.meets n c at)) ∙ ap verdict_of ready in
                let r : is_ready c.kind (map (before q) (map sig c.ins)) ≡ true = judged-ready _ _ _ v in
                ready-some (before q (m l) ≡ Some Yes) c.kind (λ x. before q (sig x)) c.ins (loop.inner n c at inside other)
                (both_rows (λ x. Known cards (λ k. is_one_of k body ≡ true → before q (m k) ≡ Some Yes → before q (m l) ≡ Some Yes) x.node) (λ x. is_one_of x.node body ≡ true)
                (λ x. is_yes (before q (sig x)) ≡ true → before q (m l) ≡ Some Yes)
                (λ x known in_x y. let so = ready-source x.label x.node y in known so.0 so.1 in_x so.2) c.ins ins (loop.within n c at inside other))
                (ap (is_ready c.kind) (map-map (before q) sig c.ins) ∙ r)
          ]
