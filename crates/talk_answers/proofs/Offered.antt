-- What is offered may be started, and what is held may be ended.
use Rattle.talk_answers.proofs.Common.{[], ℕ, ◌&&◌, ◌||◌, ◌∙◌, ◌∷◌, ◌≡◌, ◌⊎◌, and_parts, ap, Bool, both_ways, cases_Bool, eq-eqb, eqb, eqb-false, eqb-true, false, File, inl, inr, is_some, Item, item_node, List, list_any, None, not, Option}
use Rattle.talk_answers.proofs.Common.{option_or, refl, roles_of, Some, subst, sym, true}
use Rattle.std.proofs.{Common.flat_map, lemmas.List.Folds.list_any-append}
use Rattle.std.specs.Prelude.{◌==◌, if◌then◌else◌}
use Rattle.case_core.specs.{CaseModel.{CaseModel, LiveModel, replay_of_case, shown_after, shown_spots, state_of}, Kept.{Kept, KeptIn, marks_in}, Machine.{end_on, ended_reply, ended_trail, event_on, holder_of, may_work, or_reply, reads_now}}
use Rattle.case_core.specs.{Machine.{repeats, start_entry, start_on, when_reply, with_trail, wrong_reply}, Promises.{IsFairCase, goes_on}, Shown.{item_in, item_of, items_at, items_of, shown_live}}
use Rattle.case_core.specs.declared.events.Event.TheVariants as event
use Rattle.case_core.specs.declared.replies.Reply.TheVariants as reply
use Rattle.case_writes.specs.Writes.{by_element, wrong_elements}
use Rattle.case_core.proofs.{Fairness.{fair, never-stuck}, Keeping.{state-is, table-of}, Marked.spot-marked}
use Rattle.talk_answers.specs.Offers.{HoldsEnds, IsPromised, OffersStarts, has_not, holds, is_started, items_shown, offers}
use Rattle.wsm_items.specs.declared.work_items.Item.TheVariants as item
use Rattle.wsm_lists.specs.{ByNumber.item_at, Rows.AllRows, Values.Written, declared.values.Value.Value}
use Rattle.wsm_marks.proofs.LastMarking.{WholeTrail, running-held, whole-trail}
use Rattle.wsm_schema.proofs.Rounds.{card_at-node, node_of-spot_in}
use Rattle.wsm_schema.specs.{Flat.{card_at, cards_of}, Kinds.worked_on, Replay.{fits_choice, is_in_state, whole}, Rules.{Spots, marking_of, spot, spot_in, state_by}, Trail.pushed, declared.cards.Card.Card, declared.cards.NodeKind.NodeKind}
use Rattle.wsm_schema.specs.{declared.marks.Mark.Mark, declared.states.Spot.Spot, declared.states.State.State, declared.states.Verdict.Verdict}
use Rattle.wsm_schema.specs.declared.states.State.TheVariants as state
use Rattle.wsm_schema.specs.declared.states.Verdict.TheVariants as verdict
use Rattle.wsm_marks.specs.Timed.{flow, verdict_of}
use Rattle.wsm_steps.proofs.{Markings.{IsSpotOf, marking-rows, spot-among}, Positions.rises-after}
use Rattle.wsm_walk.specs.{Kept.{mark_or, timed_of}, MarkStates.mark_spot}

-- a test that only items of a node pass
abbrev OfNode : ℕ → (Item → Bool) → Type 0
OfNode n test = (i : Item) → test i ≡ true → item_node i ≡ n

or_same : (b c : Bool) → (c ≡ b) ⊎ (c ≡ false) → (b || c) ≡ b
or_same true c h = refl
or_same false c (inl same) = same
or_same false c (inr none) = none

-- ---- the items of a node are those of its spot
module _ (l : LiveModel) (n : ℕ) (test : Item → Bool) (only : OfNode n test) where
  abbrev cards : List Card
  cards = cards_of l.schema

  abbrev own : Spot → Bool
  own s = list_any test (item_of l s (card_at n cards))

  -- another node's item fails the test
  fails : (i : Item) → eqb (item_node i) n ≡ false → list_any test (i ∷ []) ≡ false
  fails i away =
      elim (cases_Bool (test i)) [
        | inl passes ↦ absurd (eqb-false (item_node i) n away (only i passes))
        | inr failed ↦ rw failed refl
      ]

  in-state : (c : Card) → eqb c.node n ≡ false → (x : State) → list_any test (item_in l c x) ≡ false
  in-state c away state.NotActivated = refl
  in-state c away state.Activated = fails (item.Offered c.node c.role) away
  in-state c away state.Running = fails (item.Held c.node (holder_of l c.node)) away
  in-state c away state.Completed = refl
  in-state c away state.Skipped = refl

  elsewhere : (s : Spot) → eqb s.node n ≡ false → (o : Option Card) → card_at s.node cards ≡ o → list_any test (item_of l s o) ≡ false
  elsewhere s away None at = refl
  elsewhere s away (Some c) at =
      elim (cases_Bool (worked_on c.kind)) [
        | inl works ↦ rw works (in-state c (ap (λ k. eqb k n) (card_at-node s.node cards c at) ∙ away) s.state)
        | inr silent ↦ rw silent refl
      ]

  idle : (o : Option Card) → list_any test (item_of l (spot n state.NotActivated None) o) ≡ false
  idle None = refl
  idle (Some c) =
      elim (cases_Bool (worked_on c.kind)) [
        | inl works ↦ rw works refl
        | inr silent ↦ rw silent refl
      ]

  -- a later spot of the node is the same, and where there is none there is no item
  later : (t : Spots) (s : Spot) (ss : Spots) → IsSpotOf t s → AllRows (IsSpotOf t) ss → s.node ≡ n → (own (spot_in n ss) ≡ own s) ⊎ (own (spot_in n ss) ≡ false)
  later t s ss its rows named =
      elim (spot-among (IsSpotOf t) ss rows n) [
        | inl again ↦ inl (ap own (again ∙ (ap (λ k. spot_in k t) (node_of-spot_in n ss ∙ sym named) ∙ sym its)))
        | inr none ↦ inr (ap own none ∙ idle (card_at n cards))
      ]

  one-more : (t : Spots) (s : Spot) (ss : Spots) → IsSpotOf t s → AllRows (IsSpotOf t) ss → (list_any test (item_of l s (card_at s.node cards)) || own (spot_in n ss)) ≡ own (spot_in n (s ∷ ss))
  one-more t s ss its rows =
      elim (cases_Bool (eqb s.node n)) [
        | inl here ↦
            let named : s.node ≡ n = eqb-true s.node n here in
            let first : list_any test (item_of l s (card_at s.node cards)) ≡ own s = ap (λ k. list_any test (item_of l s (card_at k cards))) named in
            let found : s ≡ spot_in n (s ∷ ss) = rw here refl in
            ap (λ b. b || own (spot_in n ss)) first ∙ (or_same (own s) (own (spot_in n ss)) (later t s ss its rows named) ∙ ap own found)
        | inr away ↦
            let found : spot_in n ss ≡ spot_in n (s ∷ ss) = rw away refl in
            ap (λ b. b || own (spot_in n ss)) (elsewhere s away (card_at s.node cards) refl) ∙ ap own found
      ]

  any-at : (t ss : Spots) → AllRows (IsSpotOf t) ss → list_any test (flat_map (λ z. item_of l z (card_at z.node cards)) ss) ≡ own (spot_in n ss)
  any-at t [] rows = sym (idle (card_at n cards))
  any-at t (s ∷ ss) rows =
      list_any-append test (item_of l s (card_at s.node cards)) (flat_map (λ z. item_of l z (card_at z.node cards)) ss)
      ∙ (ap (λ b. list_any test (item_of l s (card_at s.node cards)) || b) (any-at t ss rows.1) ∙ one-more t s ss rows.0 rows.1)

  pub any-of-node : Kept l → list_any test (items_of l) ≡ list_any test (items_at l n)
  any-of-node kept =
      let table : (t : Spots) × (replay_of_case l ≡ whole t) = table-of (replay_of_case l) kept.replays in
      let shown_is : shown_spots l ≡ marking_of cards table.0 = ap (shown_after cards) table.1 in
      any-at table.0 (shown_spots l) (subst (λ ss. AllRows (IsSpotOf table.0) ss) (sym shown_is) (marking-rows cards table.0))

-- ---- what is activated or running is worked on
ready-works : (kind : NodeKind) (v : Verdict) → is_in_state (state_by kind v) state.Activated ≡ true → worked_on kind ≡ true
ready-works kind verdict.Waiting h = absurd (cc (h))
ready-works kind verdict.Skipped h = absurd (cc (h))
ready-works kind verdict.Ready h =
    elim (cases_Bool (worked_on kind)) [
      | inl works ↦ works
      | inr silent ↦ let q : false ≡ true = rw silent at h in absurd (cc)
    ]

mark-works : (kind : NodeKind) (n : ℕ) (m : Mark) → is_in_state (mark_spot kind n m).state state.Activated ≡ true → worked_on kind ≡ true
mark-works kind n m h =
    elim (cases_Bool (is_some m.ended)) [
      | inl over ↦ let q : false ≡ true = rw over at h in absurd (cc)
      | inr yet ↦
          elim (cases_Bool (is_some m.started)) [
            | inl begun ↦ let q : false ≡ true = rw (yet, begun) at h in absurd (cc)
            | inr fresh ↦ ready-works kind (verdict_of (flow (timed_of m))) (rw (yet, fresh) at h)
          ]
    ]

module _ (l : LiveModel) (kept : Kept l) (n : ℕ) (c : Card) (at : card_at n (cards_of l.schema) ≡ Some c) where
  activated-works : is_in_state (state_of l n) state.Activated ≡ true → worked_on c.kind ≡ true
  activated-works ready =
      mark-works c.kind n (mark_or (item_at n (marks_in l)))
      (ap (λ (s : Spot). is_in_state s.state state.Activated) (spot-marked l kept (marks_in l) refl n c at) ∙ ready)

  running-works : is_in_state (state_of l n) state.Running ≡ true → worked_on c.kind ≡ true
  running-works running =
      let table : (t : Spots) × (replay_of_case l ≡ whole t) = table-of (replay_of_case l) kept.replays in
      let trail : WholeTrail l.schema kept.checked.rank l.trail.entries table.0 =
      whole-trail l.schema kept.checked.rank l.trail.entries table.0 kept.checked.ranked (rises-after 0 l.trail.next l.trail.entries kept.rises) table.1 in
      let there = subst (λ x. is_in_state x state.Running ≡ true) (state-is l table.0 table.1 n c at) running in
      (running-held l.schema kept.checked.rank l.trail.entries table.0 trail n c at there).0

-- ---- a start, by the state of its node
allowed-start : (l m : LiveModel) (role : ℕ) (reads : List (ℕ × Option Value)) (here may : Bool) → here ≡ true → ((here && may) || false) ≡ is_started (or_reply (when_reply (not may) (reply.NotAllowed role)) l (m, reply.Started reads)).1
allowed-start l m role reads true true h = refl
allowed-start l m role reads true false h = refl
allowed-start l m role reads false may h = absurd (cc (h))

start-by : (f : File) (l m : LiveModel) (a n : ℕ) (c : Card) (reads : List (ℕ × Option Value)) → c.node ≡ n → (x : State) (works : Bool) → (is_in_state x state.Activated ≡ true → works ≡ true) →
    list_any (offers f a n) (if works then item_in l c x else [])
    ≡ is_started (or_reply (option_or (when_reply (not (is_in_state x state.Activated)) (reply.NotReady x)) (when_reply (not (may_work c.role (roles_of f a))) (reply.NotAllowed c.role))) l (m, reply.Started reads)).1
start-by f l m a n c reads named state.Activated true h = allowed-start l m c.role reads (c.node == n) (may_work c.role (roles_of f a)) (eq-eqb c.node n named)
start-by f l m a n c reads named state.Activated false h = absurd (both_ways false refl (h refl))
start-by f l m a n c reads named state.NotActivated true h = refl
start-by f l m a n c reads named state.NotActivated false h = refl
start-by f l m a n c reads named state.Running true h = refl
start-by f l m a n c reads named state.Running false h = refl
start-by f l m a n c reads named state.Completed true h = refl
start-by f l m a n c reads named state.Completed false h = refl
start-by f l m a n c reads named state.Skipped true h = refl
start-by f l m a n c reads named state.Skipped false h = refl

-- ---- an end, by the state of its node
ended-held : (l m : LiveModel) (u : ℕ) (wrong : List ℕ) (choice : Option ℕ) (misfits again here holder : Bool) → here ≡ true →
    ((here && holder) || false)
    ≡ not (has_not (or_reply (option_or (when_reply (not holder) (reply.NotHolder u)) (option_or (wrong_reply wrong) (when_reply misfits (reply.NoBranch choice)))) l (m, ended_reply again)).1)
ended-held l m u wrong choice misfits again false holder h = absurd (cc (h))
ended-held l m u wrong choice misfits again true false h = refl
ended-held l m u (d ∷ ds) choice misfits again true true h = refl
ended-held l m u [] choice true again true true h = refl
ended-held l m u [] choice false true true true h = refl
ended-held l m u [] choice false false true true h = refl

end-by : (l m : LiveModel) (a n : ℕ) (c : Card) (wrong : List ℕ) (choice : Option ℕ) (misfits again : Bool) → c.node ≡ n → (x : State) (works : Bool) → (is_in_state x state.Running ≡ true → works ≡ true) →
    list_any (holds a n) (if works then item_in l c x else [])
    ≡ not (has_not (or_reply (option_or (option_or (when_reply (not (is_in_state x state.Running)) (reply.NotRunning x)) (when_reply (not (holder_of l n == a)) (reply.NotHolder (holder_of l n)))) (option_or (wrong_reply wrong) (when_reply misfits (reply.NoBranch choice)))) l (m, ended_reply again)).1)
end-by l m a n c wrong choice misfits again named state.Running true h =
    ap (λ k. (c.node == n && holder_of l k == a) || false) named
    ∙ ended-held l m (holder_of l n) wrong choice misfits again (c.node == n) (holder_of l n == a) (eq-eqb c.node n named)
end-by l m a n c wrong choice misfits again named state.Running false h = absurd (both_ways false refl (h refl))
end-by l m a n c wrong choice misfits again named state.Activated true h = refl
end-by l m a n c wrong choice misfits again named state.Activated false h = refl
end-by l m a n c wrong choice misfits again named state.NotActivated true h = refl
end-by l m a n c wrong choice misfits again named state.NotActivated false h = refl
end-by l m a n c wrong choice misfits again named state.Completed true h = refl
end-by l m a n c wrong choice misfits again named state.Completed false h = refl
end-by l m a n c wrong choice misfits again named state.Skipped true h = refl
end-by l m a n c wrong choice misfits again named state.Skipped false h = refl

-- ---- the laws
offers-node : (f : File) (a n : ℕ) → OfNode n (offers f a n)
offers-node f a n (item.Offered node role) h = eqb-true node n (and_parts (node == n) (may_work role (roles_of f a)) h).0
offers-node f a n (item.Held node user) h = absurd (cc (h))

holds-node : (a n : ℕ) → OfNode n (holds a n)
holds-node a n (item.Offered node role) h = absurd (cc (h))
holds-node a n (item.Held node user) h = eqb-true node n (and_parts (node == n) (user == a) h).0

module _ (l : LiveModel) (kept : Kept l) (a n : ℕ) where
  start-at : (f : File) (o : Option Card) → card_at n (cards_of l.schema) ≡ o → list_any (offers f a n) (item_of l (spot_in n (shown_spots l)) o) ≡ is_started (start_on l n a (roles_of f a) o).1
  start-at f None at = refl
  start-at f (Some c) at =
      start-by f l (with_trail l (pushed (start_entry l c n a) l.trail)) a n c (reads_now l c) (card_at-node n (cards_of l.schema) c at) (state_of l n) (worked_on c.kind) (activated-works l kept n c at)

  end-at : (choice : Option ℕ) (writes : Written) (o : Option Card) → card_at n (cards_of l.schema) ≡ o → list_any (holds a n) (item_of l (spot_in n (shown_spots l)) o) ≡ not (has_not (end_on l n a writes choice o).1)
  end-at choice writes None at = refl
  end-at choice writes (Some c) at =
      end-by l (with_trail l (ended_trail l n (by_element writes) choice (repeats c choice))) a n c (wrong_elements l.schema.elements c.writes writes) choice (not (fits_choice c choice || repeats c choice)) (repeats c choice)
      (card_at-node n (cards_of l.schema) c at) (state_of l n) (worked_on c.kind) (running-works l kept n c at)

pub offers-starts : (f : File) (a : ℕ) (s : CaseModel) → KeptIn s.live → OffersStarts f a s
offers-starts f a s kept n = go s.live kept
  where
    go : (o : Option LiveModel) → KeptIn o → list_any (offers f a n) (items_shown o) ≡ is_started (event_on s o (event.Start n a (roles_of f a))).1
    go None k = refl
    go (Some l) k = any-of-node l n (offers f a n) (offers-node f a n) k ∙ start-at l k a n f (card_at n (cards_of l.schema)) refl

pub holds-ends : (a : ℕ) (s : CaseModel) → KeptIn s.live → HoldsEnds a s
holds-ends a s kept n choice writes = go s.live kept
  where
    go : (o : Option LiveModel) → KeptIn o → list_any (holds a n) (items_shown o) ≡ not (has_not (event_on s o (event.End n a choice writes)).1)
    go None k = refl
    go (Some l) k = any-of-node l n (holds a n) (holds-node a n) k ∙ end-at l k a n choice writes (card_at n (cards_of l.schema)) refl

pub is-promised : (s : CaseModel) → KeptIn s.live → IsPromised s
is-promised s kept = go s.live kept
  where
    go : (o : Option LiveModel) → KeptIn o → (goes_on (shown_live o) ≡ true) × IsFairCase o (shown_live o)
    go None k = (refl, tt)
    go (Some l) k = (never-stuck l k, fair l k)
