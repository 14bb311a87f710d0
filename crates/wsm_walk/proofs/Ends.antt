-- The marks of a trail with an End behind it, and where a walk for it begins.
use Rattle.wsm_walk.proofs.Common.{[], ℕ, ◌++◌, ◌+◌, ◌∙◌, ◌∷◌, ◌≡◌, ◌≤◌, ◌⊎◌, all-rows-map, ap, arith, both_ways, Card, card_at, cards_of, cases_Bool, changed, choice_of, Current, Entries, eq-eqb, eqb, eqb-true, facts_of, false, find-last}
use Rattle.wsm_walk.proofs.Common.{flat_of, Handed, HasCard, in_rank, inl, InOrder, inr, is_again_of, is_end_of, is_pending, is_start_of, item_at, leads_to, List, ltb, ltb-false, ltb-true, Mark, mark_now, mark_or, marks_of, NoEdgeFrom}
use Rattle.wsm_walk.proofs.Common.{None, on_card-true, Option, rank_place, refl, replay_of, said, SchemaModel, seen, solution, Some, Spots, Stands, subst, sym, timed_of, untimed, whole, whole-trail, WholeTrail, with_time, Written}
use Rattle.wsm_walk.proofs.{Goals.trail-aim, Kept.timed_of-by, OneMore.{changes-right, kept-item, kept-mark, last-row, position-last, rises-last, says-ended}, Stands.{some-one, stands-say}, Targets.no-lead, Walk.equation-same}
use Rattle.wsm_walk.proofs.WalkSteps.{no-edge_back}
use Rattle.wsm_schema.specs.declared.entries.Entry.TheVariants as entry

before-or : (a b : ℕ) → (a ≤ b) ⊎ (b + 1 ≤ a)
before-or a b = elim (cases_Bool (ltb b a)) [ inl less ↦ let l = ltb-true b a less in inr (omega (arith, l)) | inr other ↦ let l = ltb-false b a other in inl (omega (arith, l)) ]

-- the change of the node that ends
abbrev pub ended_change : List (ℕ × Mark) → ℕ → ℕ → Option ℕ → List (ℕ × Option Mark)
ended_change rows node p choice = (node, Some (record (mark_or (item_at node rows)) { ended = Some p; choice = choice })) ∷ []

module _ (s : SchemaModel) (rank : List ℕ) (es : Entries) (p : ℕ) (rows : List (ℕ × Mark)) (now : Current s rank es p rows) (node : ℕ) (writes : Written) (choice : Option ℕ) (t : Spots)
    (is_whole : replay_of (flat_of s) (es ++ (p, entry.End node writes choice) ∷ []) ≡ whole t) where
  abbrev later : Entries
  later = es ++ (p, entry.End node writes choice) ∷ []

  trail : WholeTrail s rank later t
  trail = whole-trail s rank later t now.ranked (rises-last 0 p (entry.End node writes choice) es now.rises) is_whole

  pub ended-card : HasCard (cards_of s) node
  ended-card = let found = on_card-true (card_at node (cards_of s)) _ (last-row _ es (p, entry.End node writes choice) trail.fit) in (found.0, found.1)

  same-ends : (n : ℕ) → eqb node n ≡ false → ((facts_of es).ended n ≡ (facts_of later).ended n) × ((facts_of es).choice n ≡ (facts_of later).choice n)
  same-ends n other = (
    sym (position-last (is_end_of n) es p (entry.End node writes choice) other),
    ap choice_of (sym (find-last (is_end_of n) es (p, entry.End node writes choice) other)),
  )

  abbrev see : ℕ → Mark
  see = seen rows (ended_change rows node p choice)

  see-other : (n : ℕ) (c : Card) → card_at n (cards_of s) ≡ Some c → eqb node n ≡ false → see n ≡ mark_now s rank es n
  see-other n c at other = rw other (kept-mark s rank es p rows now n c at)

  see-own : (c : Card) → card_at node (cards_of s) ≡ Some c → see node ≡ record (mark_now s rank es node) { ended = Some p; choice = choice }
  see-own c at = rw (eq-eqb node node refl) (ap (λ (m : Mark). record m { ended = Some p; choice = choice }) (kept-mark s rank es p rows now node c at))

  same-time : (n : ℕ) (c : Card) → card_at n (cards_of s) ≡ Some c → solution (cards_of s) rank (facts_of es) n ≡ timed_of (see n)
  same-time n c at =
      elim (cases_Bool (eqb node n)) [
        | inr other ↦ sym (timed_of-by (solution (cards_of s) rank (facts_of es)) es n) ∙ ap timed_of (sym (see-other n c at other))
        | inl same ↦
            let e : node ≡ n = eqb-true node n same in
            sym (timed_of-by (solution (cards_of s) rank (facts_of es)) es n)
            ∙ subst (λ x. timed_of (mark_now s rank es x) ≡ timed_of (see x)) e (ap timed_of (sym (see-own c (ap (λ k. card_at k (cards_of s)) e ∙ at))))
      ]

  right-facts : (n : ℕ) (c : Card) → card_at n (cards_of s) ≡ Some c → untimed (see n) ≡ untimed (mark_now s rank later n)
  right-facts n c at =
      elim (cases_Bool (eqb node n)) [
        | inr other ↦
            let st = sym (position-last (is_start_of n) es p (entry.End node writes choice) refl) in
            let en = same-ends n other in
            let ag = sym (position-last (is_again_of n) es p (entry.End node writes choice) refl) in
            ap untimed (see-other n c at other) ∙ (λ i. record { ready_at = None; skipped_at = None; started = st i; ended = en.0 i; choice = en.1 i; again = ag i })
        | inl same ↦ let e : node ≡ n = eqb-true node n same in subst (λ x. untimed (see x) ≡ untimed (mark_now s rank later x)) e (own c (ap (λ k. card_at k (cards_of s)) e ∙ at))
      ]
    where
      own : (c : Card) → card_at node (cards_of s) ≡ Some c → untimed (see node) ≡ untimed (mark_now s rank later node)
      own c at =
          let order : InOrder (facts_of later) p (entry.End node writes choice) = last-row (λ e. InOrder (facts_of later) e.0 e.1) es (p, entry.End node writes choice) trail.orderly.order in
          let st = sym (position-last (is_start_of node) es p (entry.End node writes choice) refl) in
          let en : Some p ≡ (facts_of later).ended node = sym order.0 in
          let ch : choice ≡ (facts_of later).choice node = sym order.1 in
          let ag = sym (position-last (is_again_of node) es p (entry.End node writes choice) refl) in
          ap untimed (see-own c at) ∙ (λ i. record { ready_at = None; skipped_at = None; started = st i; ended = en i; choice = ch i; again = ag i })

  -- a node that is not pending has no edge from the node that ends
  not-behind : (c : Card) → card_at node (cards_of s) ≡ Some c → (places : List ℕ) → Handed rank (leads_to c) (rank_place node rank + 1) [] places → (k : ℕ) (d : Card) → card_at k (cards_of s) ≡ Some d → is_pending rank places k ≡ false → NoEdgeFrom node d
  not-behind c at places handed k d at_k idle =
      elim (cases_Bool (leads_to c k)) [
        | inr none ↦ no-lead s now.regular node c at k d at_k none
        | inl leads ↦ elim (before-or (rank_place k rank) (rank_place node rank)) [
          | inl back ↦ no-edge_back (cards_of s) rank now.ranked node k d at_k back
          | inr ahead ↦ absurd (both_ways _ idle (handed.come k leads (in_rank (cards_of s) rank now.ranked k d at_k) ahead))
        ]
      ]

  -- the walk begins with the nodes behind the node that ends
  pub end-stands : (c : Card) → card_at node (cards_of s) ≡ Some c → (places : List ℕ) → Handed rank (leads_to c) (rank_place node rank + 1) [] places →
      Stands (cards_of s) rank (mark_now s rank later) rows places (ended_change rows node p choice)
  end-stands c at places handed = record {
    front = [];
    rest = rank;
    split = refl;
    low = λ q there. omega arith;
    walked = record {
      done = λ n d at_n none. absurd (both_ways _ refl none);
      facts = right-facts;
      times = λ n d at_n. elim (cases_Bool (eqb node n)) [
        | inr other ↦ subst (λ m. m ≡ with_time (timed_of m) m) (sym (see-other n d at_n other)) ((trail-aim s now.regular rank now.ranked es).times n)
        | inl same ↦
            let e : node ≡ n = eqb-true node n same in
            subst (λ x. see x ≡ with_time (timed_of (see x)) (see x)) e
            (subst (λ m. m ≡ with_time (timed_of m) m) (sym (see-own d (ap (λ k. card_at k (cards_of s)) e ∙ at_n)))
            (ap (λ x. with_time x (record (mark_now s rank es node) { ended = Some p; choice = choice })) (sym (timed_of-by (solution (cards_of s) rank (facts_of es)) es node))))
      ];
      meets = λ n d at_n out idle.
          let none = not-behind c at places handed n d at_n idle in
          sym (same-time n d at_n)
          ∙ sym (timed_of-by (solution (cards_of s) rank (facts_of es)) es n)
          ∙ (trail-aim s now.regular rank now.ranked es).solves.meets n d at_n
          ∙ equation-same (cards_of s) (mark_now s rank es) see d
          (all-rows-map _ _ (λ x o e at_x. sym (see-other x.node e at_x o)) d.ins none.0)
          (all-rows-map _ _ (λ x o e at_x. sym (see-other x e at_x o)) d.syncs_in none.1);
    };
    ascends = (tt, tt);
    says = λ n o is. elim (cases_Bool (eqb node n)) [
      | inr other ↦ let q : None ≡ Some o = rw other at is in absurd (cc)
      | inl same ↦
          let q : Some (Some (record (mark_or (item_at node rows)) { ended = Some p; choice = choice })) ≡ Some o = rw same at is in
          let one : Some (record (mark_or (item_at node rows)) { ended = Some p; choice = choice }) ≡ o = some-one _ _ q in
          let says = says-ended (mark_or (item_at node rows)) p choice in (
            subst (λ x. x ≡ said (mark_or x)) one (rw says refl),
            (c, ap (λ k. card_at k (cards_of s)) (sym (eqb-true node n same)) ∙ at),
          )
    ];
  }

  -- and ends with the marks of the trail with the End
  pub end-changes : (changes : List (ℕ × Option Mark)) → Stands (cards_of s) rank (mark_now s rank later) rows [] changes → changed changes rows ≡ marks_of (flat_of s) later
  end-changes changes st =
      changes-right s rank es p rows now later t (rises-last 0 p (entry.End node writes choice) es now.rises) is_whole changes st.ascends
      (stands-say (cards_of s) rank (mark_now s rank later) (trail-aim s now.regular rank now.ranked later) rows (mark_now s rank es) changes (kept-item s rank es p rows now) st)
