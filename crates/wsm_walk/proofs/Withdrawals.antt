-- The marks of a trail from which the Start of a running node was taken.
use Rattle.wsm_walk.proofs.Common.{[], ℕ, ◌∙◌, ◌∷◌, ◌≡◌, ap, Bool, Card, card_at, cards_of, cases_Bool, changed, Current, Entries, eqb, eqb-true, facts_of, false, flat_of, inl, inr, is_in_state, is_ready_mark, is_some, item_at, List}
use Rattle.wsm_walk.proofs.Common.{listed, Mark, mark_now, mark_or, marks_of, None, Option, refl, replay_of, running-held, said, says_something, SchemaModel, since, Some, spot_in, Spots, sym, Timed, true, whole, whole-trail, WholeTrail}
use Rattle.wsm_walk.proofs.{Common.without_start, WithdrawnTrails.{again-same, choice-same, ended-same, rises-without, solution-without, started-none, started-same, withdrawn-whole}, OneMore.{changes-right, kept-mark, rises-after}}
use Rattle.wsm_schema.specs.declared.states.Flow.TheVariants.{Yes, No}
use Rattle.wsm_schema.specs.declared.states.State.TheVariants.{Running}

-- a mark that was ready says something without its start
says-ready : (m : Mark) → is_some m.ready_at ≡ true → says_something (record m { started = None }) ≡ true
says-ready m ready = rw ready refl

module _ (s : SchemaModel) (rank : List ℕ) (es : Entries) (p : ℕ) (rows : List (ℕ × Mark)) (now : Current s rank es p rows) (node : ℕ) (card : Card) (at_node : card_at node (cards_of s) ≡ Some card)
    (running : is_in_state (spot_in node now.marking).state Running ≡ true) where
  abbrev left : Entries
  left = without_start node es

  -- only the mark of that node changes, by its start
  other-mark : (n : ℕ) (c : Card) → card_at n (cards_of s) ≡ Some c → eqb node n ≡ false → mark_now s rank es n ≡ mark_now s rank left n
  other-mark n c at other =
      let m = solution-without (flat_of s) rank now.ranked node es n c at in
      let st = sym (started-same node es n other) in
      let en = sym (ended-same node es n) in
      let ch = sym (choice-same node es n) in
      let ag = sym (again-same node es n) in
      λ i. record { ready_at = since Yes (m i); skipped_at = since No (m i); started = st i; ended = en i; choice = ch i; again = ag i }

  own-mark : record (mark_now s rank es node) { started = None } ≡ mark_now s rank left node
  own-mark =
      let m = solution-without (flat_of s) rank now.ranked node es node card at_node in
      let st = sym (started-none node es) in
      let en = sym (ended-same node es node) in
      let ch = sym (choice-same node es node) in
      let ag = sym (again-same node es node) in
      λ i. record { ready_at = since Yes (m i); skipped_at = since No (m i); started = st i; ended = en i; choice = ch i; again = ag i }

  -- one change: the node's mark without its start
  pub withdraw-changes : changed ((node, Some (record (mark_or (item_at node rows)) { started = None })) ∷ []) rows ≡ marks_of (flat_of s) left
  withdraw-changes =
      let rises = rises-after 0 p es now.rises in
      let trail = whole-trail s rank es now.marking now.ranked rises now.replays in
      let held = running-held s rank es now.marking trail node card at_node running in
      let mark = is_ready_mark _ _ held.1 in
      let ready : is_some (mark_now s rank es node).ready_at ≡ true = ap (λ (x : Timed). is_some (since Yes x)) mark.1 in
      let goes = withdrawn-whole (flat_of s) rank now.ranked es now.marking rises now.replays node held.3 in
      changes-right s rank es p rows now left goes.0 (rises-without node 0 es rises) goes.1 ((node, Some (record (mark_or (item_at node rows)) { started = None })) ∷ []) (tt, tt) (λ n.
      elim (cases_Bool (eqb node n)) [
        | inl same ↦
            let e : node ≡ n = eqb-true node n same in
            let own : record (mark_or (item_at node rows)) { started = None } ≡ mark_now s rank left n =
            ap (λ (m : Mark). record m { started = None }) (kept-mark s rank es p rows now node card at_node) ∙ own-mark ∙ ap (mark_now s rank left) e in
            let at : card_at n (cards_of s) ≡ Some card = ap (λ k. card_at k (cards_of s)) (sym e) ∙ at_node in
            let says : says_something (mark_now s rank left n) ≡ true = ap says_something (sym (own-mark ∙ ap (mark_now s rank left) e)) ∙ says-ready (mark_now s rank es node) ready in
            rw (same, at, says) (ap Some own)
        | inr other ↦ rw other (go n other (card_at n (cards_of s)) refl)
      ])
    where
      go : (n : ℕ) → eqb node n ≡ false → (o : Option Card) → card_at n (cards_of s) ≡ o → listed o (mark_now s rank es n) ≡ listed o (mark_now s rank left n)
      go n other None at = refl
      go n other (Some c) at = ap said (other-mark n c at other)
