-- A trail that replays whole is orderly: at most one Start and one End for each node, in that order.
use Rattle.wsm_marks.proofs.Common.{[], ℕ, ◌&&◌, ◌++◌, ◌<◌, ◌||◌, ◌∙◌, ◌∷◌, ◌≡◌, after, AllRows, and_parts, ap, append_assoc, applicable, arith, below, Bool, both_ways, Card, card_at, cases_Bool, choice_of, Entries, Entry, eq-eqb, eqb}
use Rattle.wsm_marks.proofs.Common.{eqb-true, facts_of, fails, false, fits_choice, fits_edges, FlatModel, if◌then◌else◌, inl, InOrder, inr, is_begun, is_end_of, is_in_state, is_start_of, iterate, iterate-last, keeps_rounds, KeepsBegun}
use Rattle.wsm_marks.proofs.Common.{length, List, ltb-true, NodeKind, None, Option, or-false, or_cases, or_left, Orderly, position_of, refl, replay_from, replay_of, RisesAfter, round, ruled, settle, Some, Spot, spot, spot_in, spot_in-round}
use Rattle.wsm_marks.proofs.{Common.{Spots, State, state_by, subst, suc, sym, true, Value, value_below, Verdict, verdict_at, whole, worked_on, zero}, Cards.{on_card-true, same_card}, Lists.{lt-suc_self, rows-last}, Telling.AllBelow}
use Rattle.wsm_marks.proofs.Telling.{all_below-later, early-behind, find-behind, find-last, has-last, has_entry}
use Rattle.wsm_schema.specs.declared.entries.Entry.TheVariants as entry
use Rattle.wsm_schema.specs.declared.states.State.TheVariants as state
use Rattle.wsm_schema.specs.declared.states.Verdict.TheVariants as verdict

is_activated : (s : State) → is_in_state s state.Activated ≡ true → s ≡ state.Activated
is_activated state.Activated h = refl
is_activated _ h = absurd (both_ways _ refl h)

is_running : (s : State) → is_in_state s state.Running ≡ true → s ≡ state.Running
is_running state.Running h = refl
is_running _ h = absurd (both_ways _ refl h)

-- ---- what a trail has begun
abbrev begun_in : Entries → ℕ → Spot → Spot
begun_in es n s =
    if has_entry (is_end_of n) es then spot n state.Completed ((facts_of es).choice n)
    else (if has_entry (is_start_of n) es then spot n state.Running None else s)

begun_in-last : (es : Entries) (e : ℕ × Entry) (n : ℕ) (s : Spot) → is_start_of n e.1 ≡ false → is_end_of n e.1 ≡ false → begun_in (es ++ e ∷ []) n s ≡ begun_in es n s
begun_in-last es e n s no_start no_end =
    let st : has_entry (is_start_of n) (es ++ e ∷ []) ≡ has_entry (is_start_of n) es = has-last (is_start_of n) es e ∙ ap (λ b. has_entry (is_start_of n) es || b) no_start ∙ or-false _ in
    let en : has_entry (is_end_of n) (es ++ e ∷ []) ≡ has_entry (is_end_of n) es = has-last (is_end_of n) es e ∙ ap (λ b. has_entry (is_end_of n) es || b) no_end ∙ or-false _ in
    rw (en, st, find-last (is_end_of n) es e no_end) refl

module _ (cards : List Card) where
  -- a table that shows what a trail has begun
  record Shown (es : Entries) (t : Spots) : Type 0 where
    is : (n : ℕ) (c : Card) → card_at n cards ≡ Some c → (s : Spot) → (if is_begun c.kind (spot_in n t).state then spot_in n t else s) ≡ begun_in es n s
    works : (n : ℕ) (c : Card) → card_at n cards ≡ Some c → has_entry (is_start_of n) es ≡ true → worked_on c.kind ≡ true

  -- only worked-on nodes are activated
  abbrev Calm : Spots → Type 0
  Calm t = (n : ℕ) (c : Card) → card_at n cards ≡ Some c → (spot_in n t).state ≡ state.Activated → worked_on c.kind ≡ true

  shown-settle : (es : Entries) (old : Spots) → Shown es old → Shown es (settle cards old)
  shown-settle es old shown =
      let kept : KeepsBegun cards old (settle cards old) = keeps_rounds cards old (length cards) in
      record {
        is = λ n c e s. elim (cases_Bool (is_begun c.kind (spot_in n old).state)) [
          | inl begun ↦ rw (kept.begun n c e, begun) (kept.same n c e begun ∙ (rw begun at (shown.is n c e s)))
          | inr no_begun ↦ rw (kept.begun n c e, no_begun) (rw no_begun at (shown.is n c e s))
        ];
        works = shown.works;
      }

  ruled-calm : (k : NodeKind) (v : Verdict) → state_by k v ≡ state.Activated → worked_on k ≡ true
  ruled-calm k verdict.Waiting h = absurd (cc)
  ruled-calm k verdict.Skipped h = absurd (cc)
  ruled-calm k verdict.Ready h =
      elim (cases_Bool (worked_on k)) [
        | inl yes_it ↦ yes_it
        | inr silent ↦ let p : state.Completed ≡ state.Activated = rw silent at h in absurd (cc)
      ]

  begun-calm : (k : NodeKind) (s : State) → is_begun k s ≡ true → s ≡ state.Activated → worked_on k ≡ true
  begun-calm k s b h = let p : is_begun k state.Activated ≡ true = subst (λ x. is_begun k x ≡ true) h b in absurd (both_ways _ refl p)

  calm-round : (t : Spots) → Calm (round cards t)
  calm-round t n c e h =
      let r : (ruled cards t c).state ≡ state.Activated = ap (λ s. s.state) (sym (spot_in-round cards t n c e)) ∙ h in
      elim (cases_Bool (is_begun c.kind (spot_in c.node t).state)) [
        | inl begun ↦ begun-calm c.kind (spot_in c.node t).state begun (rw begun at r)
        | inr no_begun ↦ ruled-calm c.kind (verdict_at cards t c) (rw no_begun at r)
      ]

  calm-settle : (old : Spots) → Calm (settle cards old)
  calm-settle old n c e h = go (length cards) (has_length cards e) h
    where
      has_length : (ds : List Card) → card_at n ds ≡ Some c → length ds ≡ 0 → ⊥
      has_length [] p l = cc
      has_length (d ∷ ds) p l = omega arith

      go : (k : ℕ) → (k ≡ 0 → ⊥) → (spot_in n (iterate (round cards) k old)).state ≡ state.Activated → worked_on c.kind ≡ true
      go zero no_zero p = absurd (no_zero refl)
      go (suc k) no_zero p = calm-round (iterate (round cards) k old) n c e (ap (λ x. (spot_in n x).state) (sym (iterate-last (round cards) k old)) ∙ p)

  -- a node that is Activated was not begun, one that is Running was started and not ended
  not_begun : (es : Entries) (t : Spots) → Shown es t → (n : ℕ) (c : Card) → card_at n cards ≡ Some c → (spot_in n t).state ≡ state.Activated →
      (has_entry (is_start_of n) es ≡ false) × (has_entry (is_end_of n) es ≡ false)
  not_begun es t shown n c e h =
      let s : Spot = spot n state.NotActivated None in
      let b : is_begun c.kind (spot_in n t).state ≡ false = ap (is_begun c.kind) h in
      let p : s ≡ begun_in es n s = rw b at (shown.is n c e s) in
      elim (cases_Bool (has_entry (is_end_of n) es)) [
        | inl over ↦ let q : state.NotActivated ≡ state.Completed = ap {A = Spot} (λ x. x.state) (rw over at p) in absurd (cc)
        | inr open_yet ↦
            elim (cases_Bool (has_entry (is_start_of n) es)) [
              | inl begun ↦ let q : state.NotActivated ≡ state.Running = ap {A = Spot} (λ x. x.state) (rw (open_yet, begun) at p) in absurd (cc)
              | inr fresh ↦ (fresh, open_yet)
            ]
      ]

  only_begun : (es : Entries) (t : Spots) → Shown es t → (n : ℕ) (c : Card) → card_at n cards ≡ Some c → (spot_in n t).state ≡ state.Running →
      (has_entry (is_start_of n) es ≡ true) × (has_entry (is_end_of n) es ≡ false)
  only_begun es t shown n c e h =
      let s : Spot = spot n state.NotActivated None in
      let b : is_begun c.kind (spot_in n t).state ≡ true = ap (is_begun c.kind) h in
      let p : spot_in n t ≡ begun_in es n s = rw b at (shown.is n c e s) in
      elim (cases_Bool (has_entry (is_end_of n) es)) [
        | inl over ↦ let q : state.Running ≡ state.Completed = sym h ∙ ap {A = Spot} (λ x. x.state) (rw over at p) in absurd (cc)
        | inr open_yet ↦
            elim (cases_Bool (has_entry (is_start_of n) es)) [
              | inl begun ↦ (begun, open_yet)
              | inr fresh ↦ let q : state.Running ≡ state.NotActivated = sym h ∙ ap {A = Spot} (λ x. x.state) (rw (open_yet, fresh) at p) in absurd (cc)
            ]
      ]

  -- an entry of neither kind leaves what was begun
  shown-other : (es : Entries) (e : ℕ × Entry) (t : Spots) → ((n : ℕ) → is_start_of n e.1 ≡ false) → ((n : ℕ) → is_end_of n e.1 ≡ false) → Shown es t → Shown (es ++ e ∷ []) t
  shown-other es e t no_start no_end shown = record {
    is = λ n c h s. shown.is n c h s ∙ sym (begun_in-last es e n s (no_start n) (no_end n));
    works = λ n c h b. shown.works n c h (sym (has-last (is_start_of n) es e ∙ ap (λ x. has_entry (is_start_of n) es || x) (no_start n) ∙ or-false _) ∙ b);
  }

  shown-start : (es : Entries) (p node user : ℕ) (reads : List (ℕ × Option Value)) (t : Spots) (d : Card) → card_at node cards ≡ Some d → worked_on d.kind ≡ true →
      has_entry (is_end_of node) es ≡ false → Shown es t → Shown (es ++ (p, entry.Start node user reads) ∷ []) (spot node state.Running None ∷ t)
  shown-start es p node user reads t d at_d works no_end shown =
      let e : ℕ × Entry = (p, entry.Start node user reads) in
      record {
        is = λ k c h s. elim (cases_Bool (eqb node k)) [
          | inl same ↦
              let at_k : node ≡ k = eqb-true node k same in
              let st : has_entry (is_start_of k) (es ++ e ∷ []) ≡ true = has-last (is_start_of k) es e ∙ ap (λ b. has_entry (is_start_of k) es || b) same ∙ or_true _ in
              let en : has_entry (is_end_of k) (es ++ e ∷ []) ≡ false = has-last (is_end_of k) es e ∙ or-false _ ∙ ap (λ j. has_entry (is_end_of j) es) (sym at_k) ∙ no_end in
              rw (same, en, st) (ap (λ j. spot j state.Running None) at_k)
          | inr other ↦ rw other (shown.is k c h s ∙ sym (begun_in-last es e k s other refl))
        ];
        works = λ k c h b. elim (or_cases (has_entry (is_start_of k) es) (eqb node k) (sym (has-last (is_start_of k) es e) ∙ b)) [
          | inl before_it ↦ shown.works k c h before_it
          | inr same ↦ subst (λ x. worked_on x.kind ≡ true) (same_card cards k d c (ap (λ j. card_at j cards) (sym (eqb-true node k same)) ∙ at_d) h) works
        ];
      }
    where
      or_true : (b : Bool) → (b || true) ≡ true
      or_true true = refl
      or_true false = refl

  shown-end : (es : Entries) (p node : ℕ) (writes : List (ℕ × Value)) (choice : Option ℕ) (t : Spots) →
      has_entry (is_start_of node) es ≡ true → has_entry (is_end_of node) es ≡ false → Shown es t → Shown (es ++ (p, entry.End node writes choice) ∷ []) (spot node state.Completed choice ∷ t)
  shown-end es p node writes choice t begun no_end shown =
      let e : ℕ × Entry = (p, entry.End node writes choice) in
      record {
        is = λ k c h s. elim (cases_Bool (eqb node k)) [
          | inl same ↦
              let at_k : node ≡ k = eqb-true node k same in
              let works : worked_on c.kind ≡ true = shown.works k c h (ap (λ j. has_entry (is_start_of j) es) (sym at_k) ∙ begun) in
              let no_end_k : has_entry (is_end_of k) es ≡ false = ap (λ j. has_entry (is_end_of j) es) (sym at_k) ∙ no_end in
              let en : has_entry (is_end_of k) (es ++ e ∷ []) ≡ true = has-last (is_end_of k) es e ∙ ap (λ b. b || eqb node k) no_end_k ∙ same in
              let ch : (facts_of (es ++ e ∷ [])).choice k ≡ choice = ap choice_of (find-behind (is_end_of k) es (e ∷ []) no_end_k) ∙ (rw same refl) in
              rw (same, works, en, ch) (ap (λ j. spot j state.Completed choice) at_k)
          | inr other ↦ rw other (shown.is k c h s ∙ sym (begun_in-last es e k s refl other))
        ];
        works = λ k c h b. shown.works k c h (sym (has-last (is_start_of k) es e ∙ or-false _) ∙ b);
      }

position-behind : (test : Entry → Bool) (es rest : Entries) (e : ℕ × Entry) → has_entry test es ≡ false → test e.1 ≡ true → position_of test (es ++ (e ∷ rest)) ≡ Some e.0
position-behind test es rest e h it = rw (find-behind test es (e ∷ rest) h, it) refl

module _ (g : FlatModel) (value : ℕ → ℕ → Option Value) where
  -- what an applicable entry tells, and what it leaves
  ordered-step : (es rest : Entries) (e : ℕ × Entry) (t : Spots) → AllBelow e.0 es → Shown g.cards es t → Calm g.cards t → applicable g t (λ d. value d e.0) e.1 ≡ true →
      InOrder (facts_of (es ++ (e ∷ rest))) e.0 e.1 × (Shown g.cards (es ++ e ∷ []) (after g.cards e.1 t) × Calm g.cards (after g.cards e.1 t))
  ordered-step es rest (p, entry.Start node user reads) t below shown calm fit =
      let s = on_card-true (card_at node g.cards) _ fit in
      let now = is_activated (spot_in node t).state (and_parts (is_in_state (spot_in node t).state state.Activated) _ s.2).0 in
      let no = not_begun g.cards es t shown node s.0 s.1 now in (
        position-behind (is_start_of node) es rest (p, entry.Start node user reads) no.0 (eq-eqb node node refl),
        (shown-settle g.cards _ _ (shown-start g.cards es p node user reads t s.0 s.1 (calm node s.0 s.1 now) no.1 shown), calm-settle g.cards _),
      )
  ordered-step es rest (p, entry.End node writes choice) t below shown calm fit =
      let s = on_card-true (card_at node g.cards) _ fit in
      let now = is_running (spot_in node t).state (and_parts (is_in_state (spot_in node t).state state.Running) _ (and_parts (is_in_state (spot_in node t).state state.Running && fits_edges g.elements writes s.0.writes) (fits_choice s.0 choice) s.2).0).0 in
      let so = only_begun g.cards es t shown node s.0 s.1 now in
      let own : is_end_of node (entry.End node writes choice) ≡ true = eq-eqb node node refl in (
        (
          position-behind (is_end_of node) es rest (p, entry.End node writes choice) so.1 own,
          ap choice_of (find-behind (is_end_of node) es ((p, entry.End node writes choice) ∷ rest) so.1) ∙ rw own refl,
          early-behind (is_start_of node) p es ((p, entry.End node writes choice) ∷ rest) below ∙ or_left (has_entry (is_start_of node) es) _ so.0,
        ),
        (shown-settle g.cards _ _ (shown-end g.cards es p node writes choice t so.0 so.1 shown), calm-settle g.cards _),
      )
  ordered-step es rest (p, entry.Again node writes) t below shown calm fit =
      (tt, (shown-other g.cards es (p, entry.Again node writes) t (λ n. refl) (λ n. refl) shown, calm))
  ordered-step es rest (p, entry.Wrote writes) t below shown calm fit =
      (tt, (shown-other g.cards es (p, entry.Wrote writes) t (λ n. refl) (λ n. refl) shown, calm))

  ordered : (es rest : Entries) (last : ℕ) (t end : Spots) → AllBelow (suc last) es → RisesAfter last rest → Shown g.cards es t → Calm g.cards t → replay_from g value rest t ≡ whole end →
      AllRows (λ e. InOrder (facts_of (es ++ rest)) e.0 e.1) rest
  ordered es [] last t end below rises shown calm w = tt
  ordered es (e ∷ rest) last t end below rises shown calm w =
      let lt : last < e.0 = ltb-true last e.0 rises.0 in
      let more : AllBelow e.0 es = all_below-later (suc last) e.0 (omega arith) es below in
      elim (cases_Bool (applicable g t (λ d. value d e.0) e.1)) [
        | inl fit ↦
            let s = ordered-step es rest e t more shown calm fit in
            let next : replay_from g value rest (after g.cards e.1 t) ≡ whole end = rw fit at w in
            let regroup : (es ++ e ∷ []) ++ rest ≡ es ++ (e ∷ rest) = append_assoc es (e ∷ []) rest in (
              s.0,
              subst (λ l. AllRows (λ d. InOrder (facts_of l) d.0 d.1) rest) regroup
                  (ordered (es ++ e ∷ []) rest e.0 (after g.cards e.1 t) end
                  (rows-last _ es e (all_below-later e.0 (suc e.0) (omega arith) es more) (lt-suc_self e.0))
                  rises.1 s.1.0 s.1.1 next),
            )
        | inr misfit ↦ let p : fails e.0 ≡ whole end = rw misfit at w in absurd (cc)
      ]

-- a trail that replays whole is orderly
pub whole-orderly : (g : FlatModel) (es : Entries) (t : Spots) → RisesAfter 0 es → replay_of g es ≡ whole t → Orderly es
whole-orderly g es t rises w = record {
  rises = rises;
  order = ordered g (λ d p. value_below d p es) [] es 0 (settle g.cards []) t tt rises
      (shown-settle g.cards [] [] (record { is = λ n c h s. refl; works = λ n c h b. absurd (both_ways _ refl b) })) (calm-settle g.cards []) w;
}
