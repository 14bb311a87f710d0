-- One entry of a replay, and the numbers between two entries.
use Rattle.wsm_marks.proofs.Common.{ℕ, ◌&&◌, ◌||◌, ◌∙◌, ◌∷◌, ◌≡◌, ◌≤◌, after, and_parts, ap, applicable, arith, before, begun_or, both_ways, Card, card_at, cases_Bool, cond, early, Entry, eqb, eqb-true, Facts, false, fits, fits_choice}
use Rattle.wsm_marks.proofs.Common.{fits_edges, fits_reads, FlatModel, Flow, if◌then◌else◌, inl, InOrder, inr, InTime, is_begun, is_end_of, is_in_state, is_loop_end, is_start_of, is_yes, IsBelow, KeptSpots, List, lt-ltb, ltb-true, Marking}
use Rattle.wsm_marks.proofs.Common.{nat_lt, NodeKind, None, Option, or-false, or_cases, or_left, partner_completed, partner_done, Quiet, refl, Some, Spot, spot, spot_in, Spots, state_by, suc, sym, Tells, true, Value, verdict_of, worked_on}
use Rattle.wsm_marks.proofs.{Cards.{on_card-same, on_card-true}, Causality.{TimedNet, causality, kept-below, works_before}, Lists.{lt-suc_self, not_before_itself}, Signals.{before-later, is_yes-some}}
use Rattle.wsm_schema.specs.declared.entries.Entry.TheVariants as entry
use Rattle.wsm_schema.specs.declared.states.Flow.TheVariants.{Yes, No}
use Rattle.wsm_schema.specs.declared.states.State.TheVariants as state

begun_or-quiet : (f : Facts) (a b : ℕ) → Quiet f a b → (n : ℕ) (s : Spot) → begun_or b f n s ≡ begun_or a f n s
begun_or-quiet f a b quiet n s = rw (quiet.ends n, quiet.starts n) refl

-- what was done in time before a was so before b, where nothing is told between
pub in_time-later : (cards : List Card) (f : Facts) (m : Marking) (a b : ℕ) → a ≤ b → Quiet f a b → InTime cards a f m → InTime cards b f m
in_time-later cards f m a b le quiet in_time = record {
  start = λ n h. let s = in_time.start n (sym (quiet.starts n) ∙ h) in (s.0, s.1, s.2, before-later a b le (m n) Yes s.3);
  end = λ n h. quiet.starts n ∙ in_time.end n (sym (quiet.ends n) ∙ h);
}

-- a node that was not begun is Activated where it is worked on and ready
pub fresh-activated : (k : NodeKind) (o : Option Flow) → is_in_state (state_by k (verdict_of o)) state.Activated ≡ (worked_on k && is_yes o)
fresh-activated k None = elim (cases_Bool (worked_on k)) [ inl works ↦ rw works refl | inr silent ↦ rw silent refl ]
fresh-activated k (Some No) = elim (cases_Bool (worked_on k)) [ inl works ↦ rw works refl | inr silent ↦ rw silent refl ]
fresh-activated k (Some Yes) = elim (cases_Bool (worked_on k)) [ inl works ↦ rw works refl | inr silent ↦ rw silent refl ]

fresh-completed : (k : NodeKind) (o : Option Flow) → is_in_state (state_by k (verdict_of o)) state.Completed ≡ cond (worked_on k) false (is_yes o)
fresh-completed k None = elim (cases_Bool (worked_on k)) [ inl works ↦ rw works refl | inr silent ↦ rw silent refl ]
fresh-completed k (Some No) = elim (cases_Bool (worked_on k)) [ inl works ↦ rw works refl | inr silent ↦ rw silent refl ]
fresh-completed k (Some Yes) = elim (cases_Bool (worked_on k)) [ inl works ↦ rw works refl | inr silent ↦ rw silent refl ]

-- a Start that fits is of a node that is worked on and ready
pub started-by : (g : FlatModel) (f : Facts) (m : Marking) (value : ℕ → Option Value) (p : ℕ) (x : Entry) (n : ℕ) → fits g f m value p x ≡ true → is_start_of n x ≡ true →
    (c : Card) × (card_at n g.cards ≡ Some c) × (worked_on c.kind ≡ true) × (before p (m n) ≡ Some Yes)
started-by g f m value p (entry.Start node user reads) n h same =
    let at_n : node ≡ n = eqb-true node n same in
    let s = on_card-true _ _ h in
    let t = and_parts (worked_on s.0.kind && is_yes (before p (m node))) _ s.2 in
    let u = and_parts (worked_on s.0.kind) (is_yes (before p (m node))) t.0 in
    (s.0, ap (λ k. card_at k g.cards) (sym at_n) ∙ s.1, u.0, ap (λ k. before p (m k)) (sym at_n) ∙ is_yes-some _ u.1)
started-by g f m value p (entry.End node writes choice) n h same = absurd (both_ways _ refl same)
started-by g f m value p (entry.Again node writes) n h same = absurd (both_ways _ refl same)
started-by g f m value p (entry.Wrote writes) n h same = absurd (both_ways _ refl same)

-- an End in order stands behind its Start
pub ended-by : (f : Facts) (p : ℕ) (x : Entry) (n : ℕ) → InOrder f p x → is_end_of n x ≡ true → early p (f.started n) ≡ true
ended-by f p (entry.End node writes choice) n order same = ap (λ k. early p (f.started k)) (sym (eqb-true node n same)) ∙ order.2
ended-by f p (entry.Start node user reads) n order same = absurd (both_ways _ refl same)
ended-by f p (entry.Again node writes) n order same = absurd (both_ways _ refl same)
ended-by f p (entry.Wrote writes) n order same = absurd (both_ways _ refl same)

module _ (g : FlatModel) (rank : List ℕ) (f : Facts) (m : Marking) (net : TimedNet g.cards rank f m) where
  -- where nothing is told between, what was begun stays
  pub kept-later : (a b : ℕ) → Quiet f a b → (t : Spots) → KeptSpots g.cards a f t → KeptSpots g.cards b f t
  kept-later a b quiet t kept = record { is = λ n c e s. kept.is n c e s ∙ sym (begun_or-quiet f a b quiet n s) }

  -- between two numbers with the same facts before them the marking is one
  pub slide : (a b : ℕ) → nat_lt 0 a ≡ true → a ≤ b → Quiet f a b → InTime g.cards a f m → (t : Spots) → IsBelow g.cards a f m t → IsBelow g.cards b f m t
  slide a b pos le quiet in_time t is_below =
      let kept = kept-below g.cards rank f m net a in_time t is_below in
      let now = causality g.cards rank f m net a pos in_time t kept in
      let then_on = causality g.cards rank f m net b (lt-ltb 0 b (omega (arith, ltb-true 0 a pos))) (in_time-later g.cards f m a b le quiet in_time) t (kept-later a b quiet t kept) in
      record { at = λ n c e. is_below.at n c e ∙ sym (now.at n c e) ∙ then_on.at n c e }

  module _ (p : ℕ) (pos : nat_lt 0 p ≡ true) (t : Spots) (is_below : IsBelow g.cards p f m t) (in_time : InTime g.cards p f m) where
    not_over : (n : ℕ) → early p (f.started n) ≡ false → early p (f.ended n) ≡ false
    not_over n h = elim (cases_Bool (early p (f.ended n))) [ inl over ↦ absurd (both_ways _ h (in_time.end n over)) | inr open_yet ↦ open_yet ]

    own_start : (n : ℕ) → f.started n ≡ Some p → early p (f.started n) ≡ false
    own_start n e = ap (early p) e ∙ not_before_itself p

    own_end : (n : ℕ) → f.ended n ≡ Some p → early p (f.ended n) ≡ false
    own_end n e = ap (early p) e ∙ not_before_itself p

    start-test : (n : ℕ) (c : Card) → card_at n g.cards ≡ Some c → f.started n ≡ Some p → is_in_state (spot_in n t).state state.Activated ≡ (worked_on c.kind && is_yes (before p (m n)))
    start-test n c e own =
        rw (is_below.at n c e, not_over n (own_start n own), own_start n own) (fresh-activated c.kind (before p (m n)))

    end-test : (n : ℕ) (c : Card) → card_at n g.cards ≡ Some c → f.ended n ≡ Some p → early p (f.started n) ≡ true → is_in_state (spot_in n t).state state.Running ≡ true
    end-test n c e own begun = rw (is_below.at n c e, own_end n own, begun) refl

    again-test : (n : ℕ) (c : Card) → card_at n g.cards ≡ Some c → is_in_state (spot_in n t).state state.Completed ≡ cond (worked_on c.kind) (early p (f.ended n)) (is_yes (before p (m n)))
    again-test n c e =
        elim (cases_Bool (early p (f.ended n))) [
          | inl over ↦ rw (is_below.at n c e, over, (works_before g.cards p f m in_time n c e (in_time.end n over)).0) refl
          | inr open_yet ↦
              elim (cases_Bool (early p (f.started n))) [
                | inl begun ↦ rw (is_below.at n c e, open_yet, begun, (works_before g.cards p f m in_time n c e begun).0) refl
                | inr fresh ↦ rw (is_below.at n c e, open_yet, fresh) (fresh-completed c.kind (before p (m n)))
              ]
        ]

    partner-test : (o : Option ℕ) → partner_completed g.cards t o ≡ partner_done g.cards f m p o
    partner-test None = refl
    partner-test (Some n) = on_card-same (card_at n g.cards) _ _ (λ c e. again-test n c e)

    -- an entry is applicable exactly where it fits
    pub applicable-fits : (value : ℕ → Option Value) (x : Entry) → InOrder f p x → applicable g t value x ≡ fits g f m value p x
    applicable-fits value (entry.Start node user reads) order =
        on_card-same (card_at node g.cards) _ _ (λ c e. ap (λ b. b && fits_reads value reads c.reads) (start-test node c e order))
    applicable-fits value (entry.End node writes choice) order =
        on_card-same (card_at node g.cards) _ _ (λ c e. ap (λ b. b && fits_edges g.elements writes c.writes && fits_choice c choice) (end-test node c e order.0 order.2))
    applicable-fits value (entry.Again node writes) order =
        on_card-same (card_at node g.cards) _ _ (λ c e. ap (λ b. is_loop_end c.kind && b) (partner-test c.partner))
    applicable-fits value (entry.Wrote writes) order = refl

    module _ (value : ℕ → Option Value) (last : ℕ) where
      -- behind an entry that fits, all was done in time
      pub in_time-after : (x : Entry) → Tells f last p x → fits g f m value p x ≡ true → InTime g.cards (suc p) f m
      in_time-after x tells fit = record {
        start = λ n h. elim (or_cases (early p (f.started n)) (is_start_of n x) (sym (tells.starts n) ∙ h)) [
          | inl before_it ↦ let s = in_time.start n before_it in (s.0, s.1, s.2, before-later p (suc p) (omega arith) (m n) Yes s.3)
          | inr by_it ↦ let s = started-by g f m value p x n fit by_it in (s.0, s.1, s.2, before-later p (suc p) (omega arith) (m n) Yes s.3)
        ];
        end = λ n h. tells.starts n ∙ or_left (early p (f.started n)) (is_start_of n x)
            (elim (or_cases (early p (f.ended n)) (is_end_of n x) (sym (tells.ends n) ∙ h)) [
              | inl before_it ↦ in_time.end n before_it
              | inr by_it ↦ ended-by f p x n tells.order by_it
            ]);
      }

      -- what another node's entry leaves
      other-kept : (x : Entry) → Tells f last p x → (k : ℕ) (c : Card) → card_at k g.cards ≡ Some c → is_start_of k x ≡ false → is_end_of k x ≡ false → (s : Spot) →
          (if is_begun c.kind (spot_in k t).state then spot_in k t else s) ≡ begun_or (suc p) f k s
      other-kept x tells k c e no_start no_end s =
          let st : early (suc p) (f.started k) ≡ early p (f.started k) = tells.starts k ∙ ap (λ b. early p (f.started k) || b) no_start ∙ or-false _ in
          let en : early (suc p) (f.ended k) ≡ early p (f.ended k) = tells.ends k ∙ ap (λ b. early p (f.ended k) || b) no_end ∙ or-false _ in
          let kept = kept-below g.cards rank f m net p in_time t is_below in
          rw (en, st) (kept.is k c e s)

      start-kept : (node user : ℕ) (reads : List (ℕ × Option Value)) → Tells f last p (entry.Start node user reads) → KeptSpots g.cards (suc p) f (spot node state.Running None ∷ t)
      start-kept node user reads tells = record {
        is = λ k c e s. elim (cases_Bool (eqb node k)) [
          | inl same ↦
              let at_k : node ≡ k = eqb-true node k same in
              let own : f.started k ≡ Some p = ap f.started (sym at_k) ∙ tells.order in
              let st : early (suc p) (f.started k) ≡ true = ap (early (suc p)) own ∙ lt-suc_self p in
              let en : early (suc p) (f.ended k) ≡ false = tells.ends k ∙ or-false _ ∙ not_over k (own_start k own) in
              rw (same, en, st) (ap (λ j. spot j state.Running None) at_k)
          | inr other ↦ rw other (other-kept (entry.Start node user reads) tells k c e other refl s)
        ];
      }

      end-kept : (node : ℕ) (writes : List (ℕ × Value)) (choice : Option ℕ) → Tells f last p (entry.End node writes choice) → KeptSpots g.cards (suc p) f (spot node state.Completed choice ∷ t)
      end-kept node writes choice tells = record {
        is = λ k c e s. elim (cases_Bool (eqb node k)) [
          | inl same ↦
              let at_k : node ≡ k = eqb-true node k same in
              let own : f.ended k ≡ Some p = ap f.ended (sym at_k) ∙ tells.order.0 in
              let works = (works_before g.cards p f m in_time k c e (ap (λ j. early p (f.started j)) (sym at_k) ∙ tells.order.2)).0 in
              let en : early (suc p) (f.ended k) ≡ true = ap (early (suc p)) own ∙ lt-suc_self p in
              rw (same, works, en) (ap (λ j. spot j state.Completed choice) at_k ∙ ap (spot k state.Completed) (sym (ap f.choice (sym at_k) ∙ tells.order.1)))
          | inr other ↦ rw other (other-kept (entry.End node writes choice) tells k c e refl other s)
        ];
      }

      -- behind an entry that fits stands the marking behind its position
      pub below-after : (x : Entry) → Tells f last p x → fits g f m value p x ≡ true → IsBelow g.cards (suc p) f m (after g.cards x t)
      below-after (entry.Start node user reads) tells fit =
          causality g.cards rank f m net (suc p) (lt-ltb 0 (suc p) (omega arith)) (in_time-after _ tells fit) _ (start-kept node user reads tells)
      below-after (entry.End node writes choice) tells fit =
          causality g.cards rank f m net (suc p) (lt-ltb 0 (suc p) (omega arith)) (in_time-after _ tells fit) _ (end-kept node writes choice tells)
      below-after (entry.Again node writes) tells fit =
          slide p (suc p) pos (omega arith) (record { starts = λ n. tells.starts n ∙ or-false _; ends = λ n. tells.ends n ∙ or-false _ }) in_time t is_below
      below-after (entry.Wrote writes) tells fit =
          slide p (suc p) pos (omega arith) (record { starts = λ n. tells.starts n ∙ or-false _; ends = λ n. tells.ends n ∙ or-false _ }) in_time t is_below
