-- What the kept marks of a case tell of its nodes, and what events make of them.
use Rattle.case_core.proofs.Common.{[], ℕ, ◌∙◌, ◌∷◌, ◌≡◌, AgainRemarks, all_put, AllRows, and_parts, ap, both_ways, by_node, Card, card_at, cards_of, cases_Bool, changed, Current, end_refusal, EndRemarks, EndsRight, Entry, eq-eqb, eqb}
use Rattle.case_core.proofs.Common.{failed_at, fails, false, find, flat_of, FlatModel, fold, holder_of, inl, inr, is_in_state, is_loop_end, is_sound, is_start_of, is_whole, IsChecked, IsRank, IsTimed, IsTimedOn, item_at, Kept, List}
use Rattle.case_core.proofs.Common.{LiveModel, Mark, mark_or, mark_spot, marking_of, marking_of-spots, marks_in, marks_of, node_of-spot_in, None, Option, option_map, Outcome, put_row, refl, Remarks, repeats, RepeatsRight, replay_of}
use Rattle.case_core.proofs.Common.{replay_of_case, Runs, RunsLoop, SchemaModel, shown_after, shown_spots, Some, sound-regular, spot, spot-among, spot-kept, spot-unmarked, spot_in, Spots, start-found, started-kept, started_in, StartRemarks}
use Rattle.case_core.proofs.{Common.{StartsRight, subst, sym, TrailModel, true, user_at, user_of, whole, with_trail, withdrawn, WithdrawsRight, Written}, Keeping.{ended-running, loop-partner, state-is, table-of}}
use Rattle.wsm_schema.specs.declared.states.State.TheVariants.{NotActivated, Running}
use Rattle.wsm_replay.proofs.Replays.{marking_of-same}
use Rattle.wsm_settle.specs.declared.timing.TimedMarks.{TimedMarks}
use Rattle.wsm_settle.specs.declared.timing.TimedMarks.TheVariants as timed

-- a marking of cards' nodes has no spot of another node
others-marked : (n : ℕ) (t : Spots) (cs : List Card) (m : Spots) → card_at n cs ≡ None → AllRows (λ s. eqb s.node n ≡ false) m → AllRows (λ s. eqb s.node n ≡ false) (fold (λ m c. put_row by_node (spot_in c.node t) m) m cs)
others-marked n t [] m none h = h
others-marked n t (c ∷ cs) m none h =
    elim (cases_Bool (eqb c.node n)) [
      | inl same ↦ let q : Some c ≡ None = rw same at none in absurd (cc)
      | inr other ↦
          others-marked n t cs (put_row by_node (spot_in c.node t) m) (rw other at none)
          (all_put by_node (λ s. eqb s.node n ≡ false) (spot_in c.node t) m (ap (λ k. eqb k n) (node_of-spot_in c.node t) ∙ other) h)
    ]

-- a node of which a table has no spot is not activated
pub spot-missing : (n : ℕ) (m : Spots) → AllRows (λ s. eqb s.node n ≡ false) m → spot_in n m ≡ spot n NotActivated None
spot-missing n m h =
    elim (spot-among (λ s. eqb s.node n ≡ false) m h n) [
      | inl other ↦ absurd (both_ways _ other (eq-eqb (spot_in n m).node n (node_of-spot_in n m)))
      | inr idle ↦ idle
    ]

none-map : {X Y : Type 0} (f : X → Y) (o : Option X) → option_map f o ≡ None → o ≡ None
none-map f None h = refl
none-map f (Some x) h = absurd (cc)

module _ (l : LiveModel) (kept : Kept l) where
  abbrev cards : List Card
  cards = cards_of l.schema

  abbrev pub table : (t : Spots) × (replay_of_case l ≡ whole t)
  table = table-of (replay_of_case l) kept.replays

  -- the spots that are shown
  shown-is : shown_spots l ≡ marking_of cards table.0
  shown-is = ap (shown_after cards) table.1

  pub shown-spot : (n : ℕ) (c : Card) → card_at n cards ≡ Some c → spot_in n (shown_spots l) ≡ spot_in n table.0
  shown-spot n c at = ap (spot_in n) shown-is ∙ marking_of-spots cards table.0 n c at

  -- they are the marking that they make
  pub shown-again : marking_of cards (shown_spots l) ≡ shown_spots l
  shown-again = marking_of-same cards (shown_spots l) table.0 shown-spot ∙ sym shown-is

  -- a node that the schema has not is not activated
  pub spot-none : (n : ℕ) → card_at n cards ≡ None → spot n NotActivated None ≡ spot_in n (shown_spots l)
  spot-none n none = sym (ap (spot_in n) shown-is ∙ spot-missing n (marking_of cards table.0) (others-marked n table.0 cards [] none tt))

  module _ (rank : List ℕ) (ranked : IsRank (cards_of l.schema) rank) (rows : List (ℕ × Mark)) (are : rows ≡ marks_in l) where
    abbrev pub current : Current l.schema rank l.trail.entries l.trail.next rows
    current = record {
      regular = sound-regular l.schema (is_sound l.schema kept.checked.sound).blocks;
      ranked = ranked;
      rises = kept.rises;
      marking = table.0;
      replays = table.1;
      marks = are;
    }

    -- ---- what an event makes of the marks
    pub start-remarks : (flat : FlatModel) → flat ≡ flat_of l.schema → (p : ℕ) → p ≡ l.trail.next → (node : ℕ) (changes : List (ℕ × Option Mark)) → StartsRight flat rows node p changes → StartRemarks l node changes
    start-remarks flat flat_is p p_is node changes right user reads after =
        let t = table-of _ after.replays in
        ap (changed changes) (sym are) ∙ subst (λ q. StartsRight flat rows node q changes) p_is right l.schema rank l.trail.entries user reads t.0 flat_is current t.1

    pub end-remarks : (flat : FlatModel) → flat ≡ flat_of l.schema → (p : ℕ) → p ≡ l.trail.next → (node : ℕ) (choice : Option ℕ) (changes : List (ℕ × Option Mark)) → EndsRight flat rank rows node p choice changes → EndRemarks l node choice changes
    end-remarks flat flat_is p p_is node choice changes right writes after =
        let t = table-of _ after.replays in
        ap (changed changes) (sym are) ∙ subst (λ q. EndsRight flat rank rows node q choice changes) p_is right l.schema l.trail.entries writes t.0 flat_is current t.1

    pub again-remarks : (flat : FlatModel) → flat ≡ flat_of l.schema → (p : ℕ) → p ≡ l.trail.next → (node : ℕ) → RunsLoop l node → (changes : List (ℕ × Option Mark)) → RepeatsRight flat rank rows node p changes → AgainRemarks l node changes
    again-remarks flat flat_is p p_is node runs changes right writes =
        let partner = loop-partner l.schema node runs.card runs.found runs.ends in
        let running = subst (λ y. is_in_state y Running ≡ true) (state-is l table.0 table.1 node runs.card runs.found) runs.running in
        ap (changed changes) (sym are) ∙ subst (λ q. RepeatsRight flat rank rows node q changes) p_is right l.schema l.trail.entries writes partner.0 runs.card flat_is current runs.found runs.ends partner.1 running

    pub withdraw-remarks : (node : ℕ) → Runs l node → (changes : List (ℕ × Option Mark)) → WithdrawsRight rows node changes → Remarks l (withdrawn node l.trail) changes
    withdraw-remarks node runs changes right =
        let running = subst (λ y. is_in_state y Running ≡ true) (state-is l table.0 table.1 node runs.card runs.found) runs.running in
        ap (changed changes) (sym are) ∙ right l.schema rank l.trail.entries l.trail.next runs.card current runs.found running

  module _ (rows : List (ℕ × Mark)) (are : rows ≡ marks_in l) where
    abbrev now : Current l.schema kept.checked.rank l.trail.entries l.trail.next rows
    now = current kept.checked.rank kept.checked.ranked rows are

    -- a node's spot is told by its mark
    pub spot-marked : (n : ℕ) (c : Card) → card_at n cards ≡ Some c → mark_spot c.kind n (mark_or (item_at n rows)) ≡ spot_in n (shown_spots l)
    spot-marked n c at = sym (spot-kept l.schema kept.checked.rank l.trail.entries l.trail.next rows now n c at) ∙ sym (shown-spot n c at)

    pub spot-unknown : (n : ℕ) (c : Card) → card_at n cards ≡ Some c → item_at n rows ≡ None → spot_in n (shown_spots l) ≡ spot n NotActivated None
    spot-unknown n c at none = shown-spot n c at ∙ spot-unmarked l.schema kept.checked.rank l.trail.entries l.trail.next rows now n c at none

    -- and so is who started it
    pub holder-kept : (n : ℕ) → user_at l.trail.entries (started_in rows n) ≡ holder_of l n
    holder-kept n = go (started_in rows n) refl
      where
        go : (o : Option ℕ) → started_in rows n ≡ o → user_at l.trail.entries o ≡ holder_of l n
        go None none =
            ap user_of (sym (none-map (λ (e : ℕ × Entry). e.0) (find (λ (e : ℕ × Entry). is_start_of n e.1) l.trail.entries) (sym (started-kept l.schema kept.checked.rank l.trail.entries l.trail.next rows now n) ∙ none)))
        go (Some q) at =
            let f = start-found l.schema kept.checked.rank l.trail.entries l.trail.next rows now n q at in
            ap (λ o. user_of (option_map (λ x. (q, x)) o)) f.2 ∙ ap user_of (sym f.1)

  -- the end of a loop that is to go on is running
  pub runs-loop : (n user : ℕ) (c : Card) → card_at n cards ≡ Some c → (writes : Written) (choice : Option ℕ) → end_refusal l c n user writes choice ≡ None → repeats c choice ≡ true → RunsLoop l n
  runs-loop n user c at writes choice none goes_on = record { card = c; found = at; ends = (and_parts (is_loop_end c.kind) _ goes_on).0; running = ended-running l kept n user c at writes choice none }

-- the marks of a trail on a sound schema
pub timed-on : (s : SchemaModel) → IsChecked s → (flat : FlatModel) → flat ≡ flat_of s → (es : List (ℕ × Entry)) → (r : TimedMarks) → IsTimed flat es r → IsTimedOn s es r
timed-on s checked flat flat_is es (timed.Whole marks) h =
    (ap is_whole (ap (λ f. replay_of f es) (sym flat_is) ∙ h.1), h.2 s flat_is (sound-regular s (is_sound s checked.sound).blocks) ∙ ap (λ f. marks_of f es) flat_is)
timed-on s checked flat flat_is es (timed.Fails p) h = ap (λ f. replay_of f es) (sym flat_is) ∙ h

-- a replay that is whole fails nowhere
pub whole-fails : (o : Outcome) → is_whole o ≡ true → None ≡ failed_at o
whole-fails (whole t) h = refl
whole-fails (fails p) h = absurd (both_ways _ refl h)

-- what is kept of a case after an event
pub after-event : (l m : LiveModel) (t : TrailModel) (rows new : List (ℕ × Mark)) (changes : List (ℕ × Option Mark)) → m ≡ with_trail l t → rows ≡ marks_in l → new ≡ changed changes rows → Kept (with_trail l t) → Remarks l t changes →
    Kept m × (new ≡ marks_in m)
after-event l m t rows new changes same are taken kept marks = (subst Kept (sym same) kept, taken ∙ ap (changed changes) are ∙ marks ∙ ap marks_in (sym same))
