-- The marks of a trail with one entry more.
use Rattle.wsm_walk.proofs.Common.{[], ℕ, ◌++◌, ◌+◌, ◌∙◌, ◌∷◌, ◌≡◌, AllRows, ap, arith, Ascends, Bool, Card, card_at, cards_of, cases_Bool, changed, choice_of, Current, Entries, Entry, eqb, eqb-true, facts_of, false, find-last, first}
use Rattle.wsm_walk.proofs.Common.{flat_of, HasCard, inl, InOrder, inr, is_again_of, is_end_of, is_some, is_start_of, item_after, item_at, List, listed, lt-ltb, Mark, mark_now, mark_or, marks_of, None, on_card-true, Option, option_map}
use Rattle.wsm_walk.proofs.Common.{position_of, refl, replay_of, Rises, RisesAfter, rows-parts, said, says_something, SchemaModel, since, solution, solution-solves, Some, Spots, starts-change_none, sym, true, Value, whole, whole-marks}
use Rattle.wsm_walk.proofs.{Common.{whole-trail, WholeTrail}, Listed.{changes-list, listed-item, said-mark}}
use Rattle.wsm_schema.specs.declared.entries.Entry.TheVariants as entry
use Rattle.wsm_schema.specs.declared.states.Flow.TheVariants.{Yes, No}

-- positions that rise, with a later one behind them
pub rises-last : (low p : ℕ) (e : Entry) (es : Entries) → Rises (low + 1) p es → RisesAfter low (es ++ (p, e) ∷ [])
rises-last low p e [] h = (lt-ltb low p (omega (arith, h)), tt)
rises-last low p e (x ∷ es) h = (lt-ltb low x.0 (omega (arith, h.0)), rises-last x.0 p e es h.1)

pub rises-after : (low p : ℕ) (es : Entries) → Rises (low + 1) p es → RisesAfter low es
rises-after low p [] h = tt
rises-after low p (x ∷ es) h = (lt-ltb low x.0 (omega (arith, h.0)), rises-after x.0 p es h.1)

-- an entry that fails a test changes nothing of what passes it
pub position-last : (test : Entry → Bool) (es : Entries) (p : ℕ) (e : Entry) → test e ≡ false → position_of test (es ++ (p, e) ∷ []) ≡ position_of test es
position-last test es p e h = ap (option_map (λ x. x.0)) (find-last test es (p, e) h)

-- what holds of the last row
pub last-row : {X : Type 0} (P : X → Type 0) (xs : List X) (x : X) → AllRows P (xs ++ x ∷ []) → P x
last-row P xs x rows = (rows-parts P xs (x ∷ []) rows).1.0

-- a mark with a start says something
says-started : (m : Mark) (p : ℕ) → says_something (record m { started = Some p }) ≡ true
says-started m p =
    elim (cases_Bool (is_some m.ready_at)) [
      | inl it ↦ rw it refl
      | inr other ↦ elim (cases_Bool (is_some m.skipped_at)) [ inl too ↦ rw (other, too) refl | inr none ↦ rw (other, none) refl ]
    ]

module _ (s : SchemaModel) (rank : List ℕ) (es : Entries) (p : ℕ) (rows : List (ℕ × Mark)) (now : Current s rank es p rows) where
  -- the table of marks tells each node's mark
  pub kept-item : (n : ℕ) → item_at n rows ≡ listed (card_at n (cards_of s)) (mark_now s rank es n)
  kept-item n = ap (item_at n) (now.marks ∙ whole-marks (flat_of s) rank now.ranked es now.marking (rises-after 0 p es now.rises) now.replays) ∙ listed-item (mark_now s rank es) n (cards_of s)

  pub kept-mark : (n : ℕ) (c : Card) → card_at n (cards_of s) ≡ Some c → mark_or (item_at n rows) ≡ mark_now s rank es n
  kept-mark n c at = ap mark_or (kept-item n ∙ ap (λ o. listed o (mark_now s rank es n)) at) ∙ said-mark (mark_now s rank es n)

  -- changes that say of each node what its mark becomes make the marks those of the trail with one entry more
  pub changes-right : (later : Entries) (t : Spots) → RisesAfter 0 later → replay_of (flat_of s) later ≡ whole t → (changes : List (ℕ × Option Mark)) → Ascends first changes →
      ((n : ℕ) → item_after (item_at n changes) (listed (card_at n (cards_of s)) (mark_now s rank es n)) ≡ listed (card_at n (cards_of s)) (mark_now s rank later n)) →
      changed changes rows ≡ marks_of (flat_of s) later
  changes-right later t rises is_whole changes ascends say =
      changes-list (mark_now s rank es) (mark_now s rank later) (cards_of s) rows changes
      (now.marks ∙ whole-marks (flat_of s) rank now.ranked es now.marking (rises-after 0 p es now.rises) now.replays) ascends say
      ∙ sym (whole-marks (flat_of s) rank now.ranked later t rises is_whole)

  module _ (node user : ℕ) (reads : List (ℕ × Option Value)) (t : Spots) (is_whole : replay_of (flat_of s) (es ++ (p, entry.Start node user reads) ∷ []) ≡ whole t) where
    abbrev later : Entries
    later = es ++ (p, entry.Start node user reads) ∷ []

    trail : WholeTrail s rank later t
    trail = whole-trail s rank later t now.ranked (rises-last 0 p (entry.Start node user reads) es now.rises) is_whole

    same-solution : (n : ℕ) (c : Card) → card_at n (cards_of s) ≡ Some c → solution (cards_of s) rank (facts_of es) n ≡ solution (cards_of s) rank (facts_of later) n
    same-solution =
        starts-change_none (cards_of s) rank now.ranked (facts_of es) (facts_of later) (solution (cards_of s) rank (facts_of es)) (solution (cards_of s) rank (facts_of later))
        (solution-solves (cards_of s) rank now.ranked (facts_of es)) (solution-solves (cards_of s) rank now.ranked (facts_of later))
        (λ n. sym (position-last (is_end_of n) es p (entry.Start node user reads) refl))
        (λ n. ap choice_of (sym (find-last (is_end_of n) es (p, entry.Start node user reads) refl)))

    -- only the mark of the started node changes, by its start
    started-other : (n : ℕ) (c : Card) → card_at n (cards_of s) ≡ Some c → eqb node n ≡ false → mark_now s rank es n ≡ mark_now s rank later n
    started-other n c at other =
        let m = same-solution n c at in
        let st = sym (position-last (is_start_of n) es p (entry.Start node user reads) other) in
        let en = sym (position-last (is_end_of n) es p (entry.Start node user reads) refl) in
        let ch = ap choice_of (sym (find-last (is_end_of n) es (p, entry.Start node user reads) refl)) in
        let ag = sym (position-last (is_again_of n) es p (entry.Start node user reads) refl) in
        λ i. record { ready_at = since Yes (m i); skipped_at = since No (m i); started = st i; ended = en i; choice = ch i; again = ag i }

    started-own : (c : Card) → card_at node (cards_of s) ≡ Some c → record (mark_now s rank es node) { started = Some p } ≡ mark_now s rank later node
    started-own c at =
        let m = same-solution node c at in
        let order : InOrder (facts_of later) p (entry.Start node user reads) = last-row (λ e. InOrder (facts_of later) e.0 e.1) es (p, entry.Start node user reads) trail.orderly.order in
        let st : Some p ≡ (facts_of later).started node = sym order in
        let en = sym (position-last (is_end_of node) es p (entry.Start node user reads) refl) in
        let ch = ap choice_of (sym (find-last (is_end_of node) es (p, entry.Start node user reads) refl)) in
        let ag = sym (position-last (is_again_of node) es p (entry.Start node user reads) refl) in
        λ i. record { ready_at = since Yes (m i); skipped_at = since No (m i); started = st i; ended = en i; choice = ch i; again = ag i }

    node-card : HasCard (cards_of s) node
    node-card = let found = on_card-true (card_at node (cards_of s)) _ (last-row _ es (p, entry.Start node user reads) trail.fit) in (found.0, found.1)

    -- one change: the node's mark with its start
    pub start-changes : changed ((node, Some (record (mark_or (item_at node rows)) { started = Some p })) ∷ []) rows ≡ marks_of (flat_of s) later
    start-changes =
        changes-right later t (rises-last 0 p (entry.Start node user reads) es now.rises) is_whole ((node, Some (record (mark_or (item_at node rows)) { started = Some p })) ∷ []) (tt, tt) (λ n.
        elim (cases_Bool (eqb node n)) [
          | inl same ↦
              let e : node ≡ n = eqb-true node n same in
              let own : record (mark_or (item_at node rows)) { started = Some p } ≡ mark_now s rank later n =
              ap (λ (m : Mark). record m { started = Some p }) (kept-mark node node-card.0 node-card.1) ∙ started-own node-card.0 node-card.1 ∙ ap (mark_now s rank later) e in
              let at : card_at n (cards_of s) ≡ Some node-card.0 = ap (λ k. card_at k (cards_of s)) (sym e) ∙ node-card.1 in
              let says : says_something (mark_now s rank later n) ≡ true = ap says_something (sym own) ∙ says-started (mark_or (item_at node rows)) p in
              rw (same, at, says) (ap Some own)
          | inr other ↦ rw other (go n other (card_at n (cards_of s)) refl)
        ])
      where
        go : (n : ℕ) → eqb node n ≡ false → (o : Option Card) → card_at n (cards_of s) ≡ o → listed o (mark_now s rank es n) ≡ listed o (mark_now s rank later n)
        go n other None at = refl
        go n other (Some c) at = ap said (started-other n c at other)

-- a mark with an End says something
pub says-ended : (m : Mark) (p : ℕ) (choice : Option ℕ) → says_something (record m { ended = Some p; choice = choice }) ≡ true
says-ended m p choice =
    elim (cases_Bool (is_some m.ready_at)) [
      | inl it ↦ rw it refl
      | inr other ↦ elim (cases_Bool (is_some m.skipped_at)) [
        | inl too ↦ rw (other, too) refl
        | inr none ↦ elim (cases_Bool (is_some m.started)) [ inl begun ↦ rw (other, none, begun) refl | inr fresh ↦ rw (other, none, fresh) refl ]
      ]
    ]
