-- The marks of a trail whose loop is repeated, and where a walk for it begins.
use Rattle.wsm_walk.proofs.Common.{[], ℕ, ◌+◌, ◌∙◌, ◌∷◌, ◌≡◌, ◌⊎◌, all-rows-map, ap, arith, Ascends, both_ways, Card, card_at, cards_of, cases_Bool, changed, choice_of, Cleared, Current, cut_entries, early, Entries, Entry, eq-eqb}
use Rattle.wsm_walk.proofs.Common.{eq_of-same, eqb, eqb-swap, eqb-true, facts_by, facts_of, false, find, find-last, first, flat_of, flow, freed, from_node, HasCard, if◌then◌else◌, in_rank, inl, inr, is_again_of, is_end_of, is_in_state}
use Rattle.wsm_walk.proofs.Common.{is_loop_end, is_one_of, is_pending, is_ready_mark, is_yes, item_after, item_at, last_position, List, loop-of_schema, loop_nodes, LoopOf, lt-ltb, map, Mark, mark_now, mark_or, marks_of, nat_lt, None}
use Rattle.wsm_walk.proofs.Common.{Option, option_map, position_of, refl, repeat-whole, replay_of, Rises, RisesAfter, running-held, said, SchemaModel, seen, sig_at, sig_by, solution, solved_net, Some, spot_in, Spots, Stands, subst, suc}
use Rattle.wsm_walk.proofs.{Common.{sym, Timed, timed_of, times_by, true, untimed, up_to_node, whole, whole-orderly, whole-trail, with_time, worked_on, Written}, CutAgains.{again-inside, again-outside, find-after}, Goals.trail-aim}
use Rattle.wsm_walk.proofs.{Kept.timed_of-by, Listed.said-mark, OneMore.{changes-right, kept-item, kept-mark, rises-after}, Stands.{some-one, stands-say}, Walk.signal-same}
use Rattle.wsm_schema.specs.declared.entries.Entry.TheVariants as entry
use Rattle.wsm_schema.specs.declared.states.Flow.TheVariants.{Yes, No}
use Rattle.wsm_schema.specs.declared.states.State.TheVariants.{Running}
use Rattle.wsm_marks.proofs.{CutTrails.{cleared, orderly-cut, repeated}, ReadyValues.running-begun}

-- positions that rise end below the next
last-below : (low p : ℕ) (es : Entries) → Rises (low + 1) p es → nat_lt (last_position low es) p ≡ true
last-below low p [] h = lt-ltb low p (omega (arith, h))
last-below low p (e ∷ es) h = last-below e.0 p es h.1

-- a node that is listed has a card
listed-card : (cards : List Card) (n : ℕ) → is_one_of n (map (λ c. c.node) cards) ≡ true → HasCard cards n
listed-card [] n h = absurd (both_ways _ refl h)
listed-card (c ∷ cs) n h = elim (cases_Bool (eqb c.node n)) [ inl same ↦ (c, rw same refl) | inr other ↦ let r = listed-card cs n (rw other at h) in (r.0, rw other r.1) ]

listed-up : (e n : ℕ) (ns : List ℕ) → is_one_of n (up_to_node e ns) ≡ true → is_one_of n ns ≡ true
listed-up e n [] h = h
listed-up e n (k ∷ ks) h =
    elim (cases_Bool (eqb k n)) [
      | inl same ↦ rw same refl
      | inr other ↦ rw other (elim (cases_Bool (eqb k e)) [ inl last ↦ absurd (both_ways _ refl (rw (last, other) at h)) | inr more ↦ listed-up e n ks (rw (more, other) at h) ])
    ]

listed-from : (l n : ℕ) (ns : List ℕ) → is_one_of n (from_node l ns) ≡ true → is_one_of n ns ≡ true
listed-from l n [] h = h
listed-from l n (k ∷ ks) h =
    elim (cases_Bool (eqb k l)) [
      | inl begins ↦ rw begins at h
      | inr other ↦ elim (cases_Bool (eqb k n)) [ inl same ↦ rw same refl | inr apart ↦ rw apart (listed-from l n ks (rw other at h)) ]
    ]

none-map : {X Y : Type 0} (f : X → Y) (o : Option X) → option_map f o ≡ None → o ≡ None
none-map f None h = refl
none-map f (Some x) h = absurd (cc)

-- no mark is both
not-both : (x : Timed) (a b : ℕ) → x ≡ Some (a, Yes) → x ≡ Some (b, No) → ⊥
not-both x a b ready skipped = both_ways (is_yes (flow x)) (ap (λ y. is_yes (flow y)) skipped) (ap (λ y. is_yes (flow y)) ready)

-- a node that was not ended and is not skipped signals nothing where it is worked on
open-signal : (o : Option Card) (x : Timed) (choice label : Option ℕ) → ((c : Card) → o ≡ Some c → worked_on c.kind ≡ true) → ((t : ℕ) → x ≡ Some (t, No) → ⊥) → sig_by o x None choice label ≡ None
open-signal None x choice label works fine = refl
open-signal (Some c) None choice label works fine = rw (works c refl) refl
open-signal (Some c) (Some (t, Yes)) choice label works fine = rw (works c refl) refl
open-signal (Some c) (Some (t, No)) choice label works fine = absurd (fine t refl)

module _ (s : SchemaModel) (rank : List ℕ) (es : Entries) (p : ℕ) (rows : List (ℕ × Mark)) (now : Current s rank es p rows) (e l : ℕ) (writes : Written) (c : Card) (found : card_at e (cards_of s) ≡ Some c)
    (ends : is_loop_end c.kind ≡ true) (partner : c.partner ≡ Some l) (running : is_in_state (spot_in e now.marking).state Running ≡ true) where
  abbrev body : List ℕ
  body = loop_nodes (cards_of s) e

  abbrev pub later : Entries
  later = repeated body es p e writes

  loop : LoopOf (cards_of s) body l e
  loop = (loop-of_schema s now.regular l e c found ends partner).0

  clear : Cleared body (facts_of es) (facts_of later)
  clear = cleared body es p e writes

  rises : RisesAfter 0 es
  rises = rises-after 0 p es now.rises

  below : nat_lt (last_position 0 es) p ≡ true
  below = last-below 0 p es now.rises

  begun : (early p ((facts_of es).started e) ≡ true) × ((facts_of es).ended e ≡ None)
  begun = running-begun s rank now.ranked es now.marking rises now.replays p below e c found running

  is_whole : (t : Spots) × (replay_of (flat_of s) later ≡ whole t)
  is_whole = repeat-whole s now.regular rank now.ranked l e c found ends partner es now.marking rises now.replays p below begun.0 begun.1 writes

  in_loop-card : (n : ℕ) → is_one_of n body ≡ true → HasCard (cards_of s) n
  in_loop-card n inside = listed-card (cards_of s) n (listed-from l n (map (λ d. d.node) (cards_of s)) (listed-up e n (from_node l (map (λ d. d.node) (cards_of s))) (rw (found, ends, partner) at inside)))

  module _ (changes : List (ℕ × Option Mark)) (ascends : Ascends first changes) (are : (n : ℕ) → item_at n changes ≡ (if is_one_of n body then Some (said (freed e p n)) else None)) where
    abbrev see : ℕ → Mark
    see = seen rows changes

    see-out : (n : ℕ) (d : Card) → card_at n (cards_of s) ≡ Some d → is_one_of n body ≡ false → see n ≡ mark_now s rank es n
    see-out n d at out = let none : item_at n changes ≡ None = are n ∙ rw out refl in ap (λ o. mark_or (item_after o (item_at n rows))) none ∙ kept-mark s rank es p rows now n d at

    see-in : (n : ℕ) → is_one_of n body ≡ true → see n ≡ freed e p n
    see-in n inside = let one : item_at n changes ≡ Some (said (freed e p n)) = are n ∙ rw inside refl in ap (λ o. mark_or (item_after o (item_at n rows))) one ∙ said-mark (freed e p n)

    facts-out : (n : ℕ) → is_one_of n body ≡ false → untimed (mark_now s rank es n) ≡ untimed (mark_now s rank later n)
    facts-out n out =
        let st = sym (clear.started n out) in
        let en = sym (clear.ended n out) in
        let ch = sym (clear.choice n out) in
        let apart : eqb e n ≡ false = elim (cases_Bool (eqb e n)) [ inl same ↦ absurd (both_ways _ out (subst (λ k. is_one_of k body ≡ true) (eqb-true e n same) loop.has_end)) | inr other ↦ other ] in
        let ag : position_of (is_again_of n) es ≡ position_of (is_again_of n) later =
        sym (ap (option_map (λ x. x.0)) (find-last (is_again_of n) (cut_entries body es) (p, entry.Again e writes) apart ∙ again-outside body n out es)) in
        λ i. record { ready_at = None; skipped_at = None; started = st i; ended = en i; choice = ch i; again = ag i }

    facts-in : (n : ℕ) → is_one_of n body ≡ true → freed e p n ≡ untimed (mark_now s rank later n)
    facts-in n inside =
        let st = sym (clear.no_start n inside) in
        let en = sym (clear.no_end n inside) in
        let ch = sym (ap choice_of (none-map (λ x. x.0) (find (λ x. is_end_of n x.1) later) (clear.no_end n inside))) in
        let ag : (if eqb n e then Some p else None) ≡ position_of (is_again_of n) later =
        sym (ap (option_map (λ x. x.0)) (find-after (λ x. is_again_of n x.1) (cut_entries body es) ((p, entry.Again e writes) ∷ []) (again-inside body n inside es)) ∙ own n) in
        λ i. record { ready_at = None; skipped_at = None; started = st i; ended = en i; choice = ch i; again = ag i }
      where
        own : (k : ℕ) → option_map (λ (x : ℕ × Entry). x.0) (find (λ x. is_again_of k x.1) ((p, entry.Again e writes) ∷ [])) ≡ (if eqb k e then Some p else None)
        own k =
            elim (cases_Bool (eqb k e)) [
              | inl same ↦ rw (same, eq-eqb e k (sym (eqb-true k e same))) refl
              | inr other ↦ rw (other, eqb-swap k e other) refl
            ]

    -- the end of the loop was ready and not ended: nothing went out of it
    e-time : (t : ℕ) → times_by (mark_now s rank es) e ≡ Some (t, No) → ⊥
    e-time t skipped =
        let trail = whole-trail s rank es now.marking now.ranked rises now.replays in
        let ready = (running-held s rank es now.marking trail e c found running).1 in
        let mark = is_ready_mark (suc (last_position 0 es)) (solution (cards_of s) rank (facts_of es) e) ready in
        not-both (times_by (mark_now s rank es) e) mark.0 t (timed_of-by (solution (cards_of s) rank (facts_of es)) es e ∙ mark.1) skipped

    -- an edge from outside the loop, or from its end, signals what it did
    same-signal : (label : Option ℕ) (x : ℕ) → (is_one_of x body ≡ false) ⊎ (x ≡ e) →
        sig_at (cards_of s) (facts_by (mark_now s rank es)) (times_by (mark_now s rank es)) label x ≡ sig_at (cards_of s) (facts_by see) (times_by see) label x
    same-signal label x (inl out) = signal-same (cards_of s) (mark_now s rank es) see label x (λ d at. sym (see-out x d at out))
    same-signal label x (inr is_e) = subst (λ k. sig_at (cards_of s) (facts_by (mark_now s rank es)) (times_by (mark_now s rank es)) label k ≡ sig_at (cards_of s) (facts_by see) (times_by see) label k) (sym is_e) (old ∙ sym new)
      where
        old : sig_at (cards_of s) (facts_by (mark_now s rank es)) (times_by (mark_now s rank es)) label e ≡ None
        old =
            ap (λ o. sig_by (card_at e (cards_of s)) (times_by (mark_now s rank es) e) o ((mark_now s rank es e).choice) label) begun.1
            ∙ open-signal (card_at e (cards_of s)) (times_by (mark_now s rank es) e) ((mark_now s rank es e).choice) label (λ d at. loop.works d at) e-time

        new : sig_at (cards_of s) (facts_by see) (times_by see) label e ≡ None
        new =
            ap (λ (m : Mark). sig_by (card_at e (cards_of s)) (timed_of m) m.ended m.choice label) (see-in e loop.has_end)
            ∙ open-signal (card_at e (cards_of s)) None None label (λ d at. loop.works d at) (λ t h. absurd (cc))

    -- the walk begins with the nodes of the loop
    pub again-stands : (places : List ℕ) → ((n : ℕ) → is_one_of n body ≡ true → is_one_of n rank ≡ true → is_pending rank places n ≡ true) →
        Stands (cards_of s) rank (mark_now s rank later) rows places changes
    again-stands places pending = record {
      front = [];
      rest = rank;
      split = refl;
      low = λ q there. omega arith;
      walked = record {
        done = λ n d at none. absurd (both_ways _ refl none);
        facts = λ n d at. elim (cases_Bool (is_one_of n body)) [
          | inl inside ↦ ap untimed (see-in n inside) ∙ facts-in n inside
          | inr out ↦ ap untimed (see-out n d at out) ∙ facts-out n out
        ];
        times = λ n d at. elim (cases_Bool (is_one_of n body)) [
          | inl inside ↦ subst (λ m. m ≡ with_time (timed_of m) m) (sym (see-in n inside)) refl
          | inr out ↦ subst (λ m. m ≡ with_time (timed_of m) m) (sym (see-out n d at out)) ((trail-aim s now.regular rank now.ranked es).times n)
        ];
        meets = λ n d at fresh idle.
            let out : is_one_of n body ≡ false = elim (cases_Bool (is_one_of n body)) [
              | inl inside ↦ absurd (both_ways _ idle (pending n inside (in_rank (cards_of s) rank now.ranked n d at)))
              | inr other ↦ other
            ] in
            ap timed_of (see-out n d at out)
            ∙ (trail-aim s now.regular rank now.ranked es).solves.meets n d at
            ∙ eq_of-same d _ _ _ _
            (all-rows-map _ _ (λ x o. same-signal x.label x.node o) d.ins (loop.ins n d at (inl out)))
            (all-rows-map _ _ (λ x o. same-signal None x (inl o)) d.syncs_in (loop.syncs n d at (inl out)));
      };
      ascends = ascends;
      says = λ n o is. elim (cases_Bool (is_one_of n body)) [
        | inl inside ↦
            let one : said (freed e p n) ≡ o = some-one _ _ (sym (are n ∙ rw inside refl) ∙ is) in
            (subst (λ x. x ≡ said (mark_or x)) one (ap said (sym (said-mark (freed e p n)))), in_loop-card n inside)
        | inr out ↦ let q : None ≡ Some o = sym (are n ∙ rw out refl) ∙ is in absurd (cc)
      ];
    }

  -- and ends with the marks of the trail that the cut leaves, with the repeat behind it
  pub again-changes : (changes : List (ℕ × Option Mark)) → Stands (cards_of s) rank (mark_now s rank later) rows [] changes → changed changes rows ≡ marks_of (flat_of s) later
  again-changes changes st =
      changes-right s rank es p rows now later is_whole.0 rises-later is_whole.1 changes st.ascends
      (stands-say (cards_of s) rank (mark_now s rank later) (trail-aim s now.regular rank now.ranked later) rows (mark_now s rank es) changes (kept-item s rank es p rows now) st)
    where
      rises-later : RisesAfter 0 later
      rises-later = (orderly-cut (flat_of s) rank body l e loop es p writes _ _ (solved_net (cards_of s) rank now.ranked (facts_of es)) (solved_net (cards_of s) rank now.ranked (facts_of later)) (whole-orderly (flat_of s) es now.marking rises now.replays) below).rises
