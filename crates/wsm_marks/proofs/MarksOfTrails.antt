-- The timed marks of a trail that replays whole are the solution and the facts.
use Rattle.wsm_marks.proofs.Common.{[], ℕ, ◌+◌, ◌<◌, ◌∙◌, ◌∷◌, ◌≡◌, ◌≤◌, after, ap, arith, before, Bool, both_ways, Card, card_at, cases_Bool, early, Ends, Entries, Facts, facts_of, fails, false, first_at, first_misfit, fits, FlatModel}
use Rattle.wsm_marks.proofs.Common.{Flow, Fresh, history_from, history_of, if◌then◌else◌, inl, inr, InTime, is_again_of, is_no, is_out, is_up, is_yes, IsBelow, IsRank, last_position, le-ltb, List, list_marks, lt-ltb, ltb-false, ltb-true}
use Rattle.wsm_marks.proofs.Common.{mark_by, mark_key, mark_of, Marking, marks_of, nat_lt, NodeKind, None, Option, Orderly, position_of, put_row, Quiet, refl, replay_of, RisesAfter, says_something, settle, since, solution, Some, spot_in}
use Rattle.wsm_marks.proofs.{Common.{Spots, State, state_by, suc, sym, Tells, Timed, Told, true, Value, value_below, verdict_of, whole, worked_on}, Cards.each_has_card, Causality.{TimedNet, solved_net, works_before}, EntrySteps.below-after}
use Rattle.wsm_marks.proofs.{EntrySteps.{in_time-after, in_time-later, slide}, FirstFailure.{below-first, in_time-first}, Lists.fold-same, Signals.before_none, Telling.{orderly-fresh, orderly-told, trail-ends}, WholeTrails.whole-orderly}
use Rattle.wsm_schema.specs.declared.states.Flow.TheVariants.{Yes, No}
use Rattle.wsm_schema.specs.declared.states.State.TheVariants as state

-- which test of a state belongs to which flow
abbrev pub shows : Flow → State → Bool
shows Yes s = is_up s
shows No s = is_out s

-- whether a signal is this flow
abbrev pub is_flow : Flow → Option Flow → Bool
is_flow Yes o = is_yes o
is_flow No o = is_no o

fresh-shows : (y : Flow) (k : NodeKind) (o : Option Flow) → shows y (state_by k (verdict_of o)) ≡ is_flow y o
fresh-shows Yes k None = refl
fresh-shows Yes k (Some No) = refl
fresh-shows Yes k (Some Yes) = elim (cases_Bool (worked_on k)) [ inl works ↦ rw works refl | inr silent ↦ rw silent refl ]
fresh-shows No k None = refl
fresh-shows No k (Some No) = refl
fresh-shows No k (Some Yes) = elim (cases_Bool (worked_on k)) [ inl works ↦ rw works refl | inr silent ↦ rw silent refl ]

flow_since : (y : Flow) (q : ℕ) (x : Timed) → is_flow y (before q x) ≡ early q (since y x)
flow_since Yes q None = ap is_yes (before_none q)
flow_since No q None = ap is_no (before_none q)
flow_since Yes q (Some (t, Yes)) = elim (cases_Bool (nat_lt t q)) [ inl soon ↦ rw soon refl | inr late ↦ rw late refl ]
flow_since Yes q (Some (t, No)) = elim (cases_Bool (nat_lt t q)) [ inl soon ↦ rw soon refl | inr late ↦ rw late refl ]
flow_since No q (Some (t, Yes)) = elim (cases_Bool (nat_lt t q)) [ inl soon ↦ rw soon refl | inr late ↦ rw late refl ]
flow_since No q (Some (t, No)) = elim (cases_Bool (nat_lt t q)) [ inl soon ↦ rw soon refl | inr late ↦ rw late refl ]

is_flow-of_yes : (y : Flow) (o : Option Flow) → o ≡ Some Yes → is_flow y o ≡ shows y state.Completed
is_flow-of_yes Yes o h = ap is_yes h
is_flow-of_yes No o h = ap is_no h

running-shows : (y : Flow) → shows y state.Running ≡ shows y state.Completed
running-shows Yes = refl
running-shows No = refl

module _ (g : FlatModel) (rank : List ℕ) (f : Facts) (m : Marking) (net : TimedNet g.cards rank f m) (y : Flow) (n : ℕ) (c : Card) (is_card : card_at n g.cards ≡ Some c) where
  -- a node shows ready, or skipped, before q exactly where it is since an earlier time
  shows-since : (q : ℕ) → InTime g.cards q f m → (t : Spots) → IsBelow g.cards q f m t → shows y (spot_in n t).state ≡ early q (since y (m n))
  shows-since q in_time t is_below =
      elim (cases_Bool (early q (f.ended n))) [
        | inl over ↦
            let w = works_before g.cards q f m in_time n c is_card (in_time.end n over) in
            rw (is_below.at n c is_card, over) (sym (is_flow-of_yes y (before q (m n)) w.1) ∙ flow_since y q (m n))
        | inr open_yet ↦
            elim (cases_Bool (early q (f.started n))) [
              | inl begun ↦
                  let w = works_before g.cards q f m in_time n c is_card begun in
                  rw (is_below.at n c is_card, open_yet, begun) (running-shows y ∙ sym (is_flow-of_yes y (before q (m n)) w.1) ∙ flow_since y q (m n))
              | inr no_start ↦ rw (is_below.at n c is_card, open_yet, no_start) (fresh-shows y c.kind (before q (m n)) ∙ flow_since y q (m n))
            ]
      ]

  -- nothing comes between two numbers with the same facts before them
  since-quiet : (a b : ℕ) → nat_lt 0 a ≡ true → a ≤ b → Quiet f a b → InTime g.cards a f m → (t : Spots) → IsBelow g.cards a f m t → early b (since y (m n)) ≡ early a (since y (m n))
  since-quiet a b pos le quiet in_time t is_below =
      sym (shows-since b (in_time-later g.cards f m a b le quiet in_time) t (slide g rank f m net a b pos le quiet in_time t is_below)) ∙ shows-since a in_time t is_below

  -- between two neighbouring numbers there is one time
  only_time : (o : Option ℕ) (p : ℕ) → early p o ≡ false → early (suc p) o ≡ true → o ≡ Some p
  only_time None p before_p at_p = absurd (both_ways _ refl at_p)
  only_time (Some t) p before_p at_p = let t_is : t ≡ p = omega (arith, ltb-false t p before_p, ltb-true t (suc p) at_p) in ap (λ x. Some x) t_is

  never : (o : Option ℕ) (p : ℕ) → ((q : ℕ) → nat_lt p q ≡ true → early q o ≡ false) → o ≡ None
  never None p h = refl
  never (Some t) p h = absurd (both_ways _ (h (suc (t + p)) (lt-ltb p (suc (t + p)) (omega arith))) (lt-ltb t (suc (t + p)) (omega arith)))

  -- the first position at which a node shows ready, or skipped, is the time of its mark
  pub first-since : (value : ℕ → ℕ → Option Value) (last : ℕ) (es : Entries) → Told f last es → (t : Spots) → IsBelow g.cards (suc last) f m t → InTime g.cards (suc last) f m →
      first_misfit g f m value es ≡ None → early last (since y (m n)) ≡ false → first_at (shows y) n (history_from g.cards es last t) ≡ since y (m n)
  first-since value last [] told t is_below in_time fit none =
      let pos : nat_lt 0 (suc last) ≡ true = lt-ltb 0 (suc last) (omega arith) in
      elim (cases_Bool (shows y (spot_in n t).state)) [
        | inl here ↦ rw here (sym (only_time _ last none (sym (shows-since (suc last) in_time t is_below) ∙ here)))
        | inr other ↦ rw other (sym (never _ last (λ q lt. let less : last < q = ltb-true last q lt in
            since-quiet (suc last) q pos (omega arith) (told q lt) in_time t is_below ∙ sym (shows-since (suc last) in_time t is_below) ∙ other)))
      ]
  first-since value last (e ∷ es) told t is_below in_time fit none =
      let tells : Tells f last e.0 e.1 = told.0 in
      let later : last < e.0 = ltb-true last e.0 tells.later in
      let le : suc last ≤ e.0 = omega arith in
      let pos : nat_lt 0 (suc last) ≡ true = lt-ltb 0 (suc last) (omega arith) in
      let pos_e : nat_lt 0 e.0 ≡ true = lt-ltb 0 e.0 (omega arith) in
      let here : IsBelow g.cards e.0 f m t = slide g rank f m net (suc last) e.0 pos le tells.quiet in_time t is_below in
      let timely : InTime g.cards e.0 f m = in_time-later g.cards f m (suc last) e.0 le tells.quiet in_time in
      elim (cases_Bool (shows y (spot_in n t).state)) [
        | inl now ↦ rw now (sym (only_time _ last none (sym (shows-since (suc last) in_time t is_below) ∙ now)))
        | inr other ↦
            elim (cases_Bool (fits g f m (λ d. value d e.0) e.0 e.1)) [
              | inl fine ↦
                  let next : early e.0 (since y (m n)) ≡ false =
                  since-quiet (suc last) e.0 pos le tells.quiet in_time t is_below ∙ sym (shows-since (suc last) in_time t is_below) ∙ other in
                  let rest : first_misfit g f m value es ≡ None = rw fine at fit in
                  rw other (first-since value e.0 es told.1 (after g.cards e.1 t)
                  (below-after g rank f m net e.0 pos_e t here timely (λ d. value d e.0) last e.1 tells fine)
                  (in_time-after g rank f m net e.0 pos_e t here timely (λ d. value d e.0) last e.1 tells fine)
                  rest next)
              | inr misfit ↦ let p : Some e.0 ≡ None = rw misfit at fit in absurd (cc)
            ]
      ]

not_before_zero : (o : Option ℕ) → early 0 o ≡ false
not_before_zero None = refl
not_before_zero (Some t) = le-ltb t 0 (omega arith)

module _ (g : FlatModel) (rank : List ℕ) (es : Entries) (m : Marking) (net : TimedNet g.cards rank (facts_of es) m) (orderly : Orderly es) where
  -- each entry of a trail that replays whole fits
  pub whole-fits : (t : Spots) → replay_of g es ≡ whole t → first_misfit g (facts_of es) m (λ d p. value_below d p es) es ≡ None
  whole-fits t w = go (first_misfit g (facts_of es) m (λ d p. value_below d p es) es) (trail-ends g rank es m net orderly)
    where
      go : (o : Option ℕ) → Ends g.cards (facts_of es) m (suc (last_position 0 es)) o (replay_of g es) → o ≡ None
      go None h = refl
      go (Some p) h = let q : whole t ≡ fails p = sym w ∙ h in absurd (cc)

  -- the timed marks of a node are the solution and the facts
  pub marks-are : (t : Spots) → replay_of g es ≡ whole t → (n : ℕ) (c : Card) → card_at n g.cards ≡ Some c → mark_of g es n ≡ mark_by m es n
  marks-are t w n c e =
      let f : Facts = facts_of es in
      let is_first : Fresh f = orderly-fresh es orderly in
      let at : (y : Flow) → first_at (shows y) n (history_of g es) ≡ since y (m n) =
      λ y. first-since g rank f m net y n c e (λ d p. value_below d p es) 0 es (orderly-told es orderly) (settle g.cards []) (below-first g rank f m net is_first) (in_time-first g rank f m net is_first)
      (whole-fits t w) (not_before_zero (since y (m n))) in
      let r : first_at is_up n (history_of g es) ≡ since Yes (m n) = at Yes in
      let s : first_at is_out n (history_of g es) ≡ since No (m n) = at No in
      λ i. record { ready_at = r i; skipped_at = s i; started = f.started n; ended = f.ended n; choice = f.choice n; again = position_of (is_again_of n) es }

  -- the listed marks of a trail that replays whole are the solution and the facts
  pub marks-listed : (t : Spots) → replay_of g es ≡ whole t → marks_of g es ≡ list_marks (mark_by m es) g.cards
  marks-listed t w =
      fold-same (λ c. (d : Card) × (card_at c.node g.cards ≡ Some d)) _ _
      (λ ms c has. ap (λ k. if says_something k then put_row mark_key (c.node, k) ms else ms) (marks-are t w c.node has.0 has.1))
      g.cards (each_has_card g.cards) []

-- the same with no premise but that the trail replays whole
pub whole-marks : (g : FlatModel) (rank : List ℕ) → IsRank g.cards rank → (es : Entries) (t : Spots) → RisesAfter 0 es → replay_of g es ≡ whole t →
    marks_of g es ≡ list_marks (mark_by (solution g.cards rank (facts_of es)) es) g.cards
whole-marks g rank is es t rises is_whole =
    marks-listed g rank es (solution g.cards rank (facts_of es)) (solved_net g.cards rank is (facts_of es)) (whole-orderly g es t rises is_whole) t is_whole
