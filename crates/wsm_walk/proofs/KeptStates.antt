-- What kept marks tell of a case: the spot of each node, and the Start of a node that was started.
use Rattle.wsm_walk.proofs.Common.{[], ℕ, ◌∙◌, ◌∷◌, ◌≡◌, ◌≤◌, after, ap, arith, before, before-in_time, Bool, Card, card_at, cards_of, cases_Bool, Current, Entries, Entry, entry_at, facts_of, find, first_at, flat_of, flow, history_from}
use Rattle.wsm_walk.proofs.Common.{inl, inr, is_out, is_start_of, is_up, item_at, last_position, List, listed, lt-ltb, ltb-true, Mark, mark_by, mark_now, mark_of, mark_or, mark_spot, marks-are, nat_lt, None, Option, position_of, refl}
use Rattle.wsm_walk.proofs.{Common.{RisesAfter, SchemaModel, settle, since, solution, Some, spot, spot_in, Spots, suc, sym, time, Timed, true, whole-trail, WholeTrail}, FoundAt.found-entry, MarkStates.spot-by_mark, OneMore.kept-item}
use Rattle.wsm_walk.proofs.{OneMore.{kept-mark, rises-after}, Stands.some-one, Told.untold}
use Rattle.wsm_schema.specs.declared.states.Flow.TheVariants.{Yes, No}
use Rattle.wsm_schema.specs.declared.states.State.{State}
use Rattle.wsm_schema.specs.declared.states.State.TheVariants.{NotActivated}
use Rattle.wsm_marks.proofs.SaneTrails.{position-found}

-- the last position is not before any other
last-above : (last : ℕ) (es : Entries) → RisesAfter last es → last ≤ last_position last es
last-above last [] rises = omega arith
last-above last (e ∷ es) rises = let lt = ltb-true last e.0 rises.0 in let le = last-above e.0 es rises.1 in omega (arith, lt, le)

-- what is first seen along a trail is seen at its last position or before
first-early : (test : State → Bool) (n : ℕ) (cards : List Card) (last : ℕ) (es : Entries) (table : Spots) → RisesAfter last es → (t : ℕ) → first_at test n (history_from cards es last table) ≡ Some t → t ≤ last_position last es
first-early test n cards last [] table rises t h =
    elim (cases_Bool (test (spot_in n table).state)) [
      | inl here ↦ let q : last ≡ t = some-one last t (rw here at h) in omega (arith, q)
      | inr other ↦ let q : None ≡ Some t = rw other at h in absurd (cc)
    ]
first-early test n cards last (e ∷ es) table rises t h =
    elim (cases_Bool (test (spot_in n table).state)) [
      | inl here ↦ let q : last ≡ t = some-one last t (rw here at h) in let lt = ltb-true last e.0 rises.0 in let le = last-above e.0 es rises.1 in omega (arith, q, lt, le)
      | inr other ↦ first-early test n cards e.0 es (after cards e.1 table) rises.1 t (rw other at h)
    ]

module _ (s : SchemaModel) (rank : List ℕ) (es : Entries) (p : ℕ) (rows : List (ℕ × Mark)) (now : Current s rank es p rows) where
  rises : RisesAfter 0 es
  rises = rises-after 0 p es now.rises

  trail : WholeTrail s rank es now.marking
  trail = whole-trail s rank es now.marking now.ranked rises now.replays

  abbrev sol : ℕ → Timed
  sol = solution (cards_of s) rank (facts_of es)

  -- the marking at the end shows all marks
  shown : (n : ℕ) (c : Card) → card_at n (cards_of s) ≡ Some c → before (suc (last_position 0 es)) (sol n) ≡ flow (sol n)
  shown n c at = before-in_time (suc (last_position 0 es)) (sol n) (go (sol n) refl)
    where
      seen_at : mark_of (flat_of s) es n ≡ mark_by (solution (cards_of s) rank (facts_of es)) es n
      seen_at = marks-are (flat_of s) rank es (solution (cards_of s) rank (facts_of es)) trail.net trail.orderly now.marking now.replays n c at

      go : (x : Timed) → sol n ≡ x → nat_lt (time x) (suc (last_position 0 es)) ≡ true
      go None h = lt-ltb 0 (suc (last_position 0 es)) (omega arith)
      go (Some (t, Yes)) h =
          let le = first-early is_up n (cards_of s) 0 es (settle (cards_of s) []) rises t (ap (λ (m : Mark). m.ready_at) seen_at ∙ ap (since Yes) h) in
          lt-ltb t (suc (last_position 0 es)) (omega (arith, le))
      go (Some (t, No)) h =
          let le = first-early is_out n (cards_of s) 0 es (settle (cards_of s) []) rises t (ap (λ (m : Mark). m.skipped_at) seen_at ∙ ap (since No) h) in
          lt-ltb t (suc (last_position 0 es)) (omega (arith, le))

  -- the spot of a node is told by its kept mark
  pub spot-kept : (n : ℕ) (c : Card) → card_at n (cards_of s) ≡ Some c → spot_in n now.marking ≡ mark_spot c.kind n (mark_or (item_at n rows))
  spot-kept n c at = spot-by_mark s rank es now.marking trail n c at (shown n c at) ∙ ap (mark_spot c.kind n) (sym (kept-mark s rank es p rows now n c at))

  -- and a node with no mark is not activated
  pub spot-unmarked : (n : ℕ) (c : Card) → card_at n (cards_of s) ≡ Some c → item_at n rows ≡ None → spot_in n now.marking ≡ spot n NotActivated None
  spot-unmarked n c at none = spot-kept n c at ∙ ap (λ o. mark_spot c.kind n (mark_or o)) none

  -- a kept mark tells where its node was started
  pub started-kept : (n : ℕ) → (mark_or (item_at n rows)).started ≡ position_of (is_start_of n) es
  started-kept n = go (card_at n (cards_of s)) refl
    where
      go : (o : Option Card) → card_at n (cards_of s) ≡ o → (mark_or (item_at n rows)).started ≡ position_of (is_start_of n) es
      go (Some c) at = ap (λ (m : Mark). m.started) (kept-mark s rank es p rows now n c at)
      go None at =
          ap (λ o. (mark_or o).started) (kept-item s rank es p rows now n ∙ ap (λ o. listed o (mark_now s rank es n)) at)
          ∙ sym (ap (λ (m : Mark). m.started) (untold s rank now.ranked es now.marking rises now.replays n at))

  -- and there the trail has its Start
  pub start-found : (n q : ℕ) → (mark_or (item_at n rows)).started ≡ Some q → (x : Entry) × (find (λ e. is_start_of n e.1) es ≡ Some (q, x)) × (entry_at q es ≡ Some x)
  start-found n q h =
      let f = position-found (is_start_of n) es q (sym (started-kept n) ∙ h) in
      (f.0, f.1, found-entry (is_start_of n) 0 es (q, f.0) rises f.1)
