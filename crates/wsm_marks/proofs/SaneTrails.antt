-- What block flow asks of the places holds on a trail that replays whole.
use Rattle.wsm_marks.proofs.Common.{[], ℕ, ◌&&◌, ◌∙◌, ◌∷◌, ◌≡◌, ◌≤◌, all-rows-map, AllRows, and_parts, ap, arith, Bool, both_ways, Card, card_at, card_of, cards_of, cases_Bool, Distinct, early, Entries, Entry, eqb, eqb-true, facts_of, find}
use Rattle.wsm_marks.proofs.Common.{fits, fits_choice, fits_edges, flat_of, has_label, Idle, inl, InOrder, inr, is_activity, is_end_of, is_loop_end, is_marked, is_start_of, is_xor_split, IsRank, List, ltb-true, Marking, nat_lt, NodeKind}
use Rattle.wsm_marks.proofs.Common.{None, Option, option_map, or_cases, Orderly, places, position_of, refl, Regular, replay_of, RisesAfter, same_Some, SchemaModel, solution, Some, Spots, subst, sym, true, value_below, whole}
use Rattle.wsm_marks.proofs.{BlockFlow.Sane, Cards.{on_card-true, placed-rows, same_card}, Causality.solved_net, EntrySteps.{ended-by, started-by}, FirstFailure.fits-rows, MarksOfTrails.whole-fits, NeverStuck.never-stuck}
use Rattle.wsm_marks.proofs.{Signals.is_ready_mark, WholeTrails.whole-orderly}
use Rattle.wsm_schema.specs.declared.cards.NodeKind.TheVariants as kind
use Rattle.wsm_schema.specs.declared.entries.Entry.TheVariants as entry
use Rattle.wsm_schema.specs.declared.states.Flow.TheVariants.{Yes}

-- an entry that is found has what all have
pub found-row : (P : ℕ × Entry → Type 0) (test : Entry → Bool) (es : Entries) (d : ℕ × Entry) → AllRows P es → find (λ e. test e.1) es ≡ Some d → P d × (test d.1 ≡ true)
found-row P test [] d h e = absurd (cc)
found-row P test (x ∷ xs) d h e =
    elim (cases_Bool (test x.1)) [
      | inl it ↦ let q : Some x ≡ Some d = rw it at e in let same : x ≡ d = same_Some x d q in (subst P same h.0, subst (λ y. test y.1 ≡ true) same it)
      | inr other ↦ found-row P test xs d h.1 (rw other at e)
    ]

-- a position that is told is that of an entry
pub position-found : (test : Entry → Bool) (es : Entries) (p : ℕ) → position_of test es ≡ Some p → (x : Entry) × (find (λ e. test e.1) es ≡ Some (p, x))
position-found test es p h = go (find (λ e. test e.1) es) h
  where
    go : (o : Option (ℕ × Entry)) → option_map (λ e. e.0) o ≡ Some p → (x : Entry) × (o ≡ Some (p, x))
    go None h = absurd (cc)
    go (Some e) h = let same : e.0 ≡ p = same_Some e.0 p h in (e.1, ap (λ n. Some (n, e.1)) same)

early-some : (q : ℕ) (o : Option ℕ) → early q o ≡ true → (t : ℕ) × (o ≡ Some t) × (nat_lt t q ≡ true)
early-some q None h = absurd (both_ways _ refl h)
early-some q (Some t) h = (t, refl, h)

split-choice : (c : Card) (choice : Option ℕ) → is_xor_split c.kind ≡ true → fits_choice c choice ≡ true → (code : ℕ) × (choice ≡ Some code) × (has_label code c.outs ≡ true)
split-choice c None x h = absurd (no_activity c.kind x h)
  where
    no_activity : (k : NodeKind) → is_xor_split k ≡ true → is_activity k ≡ true → ⊥
    no_activity kind.XorSplit x h = both_ways _ refl h
    no_activity _ x h = both_ways _ refl x
split-choice c (Some code) x h =
    elim (or_cases (is_xor_split c.kind && has_label code c.outs) (is_loop_end c.kind && eqb code 0) h) [
      | inl a ↦ (code, refl, (and_parts (is_xor_split c.kind) _ a).1)
      | inr b ↦ absurd (no_loop c.kind x (and_parts (is_loop_end c.kind) _ b).0)
    ]
  where
    no_loop : (k : NodeKind) → is_xor_split k ≡ true → is_loop_end k ≡ true → ⊥
    no_loop kind.XorSplit x h = both_ways _ refl h
    no_loop _ x h = both_ways _ refl x

module _ (s : SchemaModel) (es : Entries) (m : Marking) (orderly : Orderly es)
    (fit : AllRows (λ e. fits (flat_of s) (facts_of es) m (λ d. value_below d e.0 es) e.0 e.1 ≡ true) es) where
  -- a node that was ended was ready before
  pub ended-ready : (n u : ℕ) → (facts_of es).ended n ≡ Some u → (t : ℕ) × (m n ≡ Some (t, Yes)) × (t ≤ u)
  ended-ready n u h =
      let x = position-found (is_end_of n) es u h in
      let r = found-row (λ e. InOrder (facts_of es) e.0 e.1) (is_end_of n) es (u, x.0) orderly.order x.1 in
      let s_at = early-some u ((facts_of es).started n) (ended-by (facts_of es) u x.0 n r.0 r.1) in
      let y = position-found (is_start_of n) es s_at.0 s_at.1 in
      let q = found-row (λ e. fits (flat_of s) (facts_of es) m (λ d. value_below d e.0 es) e.0 e.1 ≡ true) (is_start_of n) es (s_at.0, y.0) fit y.1 in
      let b = started-by (flat_of s) (facts_of es) m (λ d. value_below d s_at.0 es) s_at.0 y.0 n q.0 q.1 in
      let mark = is_ready_mark s_at.0 (m n) b.3 in
      (mark.0, mark.1, omega (arith, ltb-true mark.0 s_at.0 mark.2, ltb-true s_at.0 u s_at.2))

  -- a split was ended with the code of a branch
  ended-chosen : (n u : ℕ) (c : Card) → card_at n (cards_of s) ≡ Some c → is_xor_split c.kind ≡ true → (facts_of es).ended n ≡ Some u → (code : ℕ) × ((facts_of es).choice n ≡ Some code) × (has_label code c.outs ≡ true)
  ended-chosen n u c at split h =
      let x = position-found (is_end_of n) es u h in
      let r = found-row (λ e. InOrder (facts_of es) e.0 e.1) (is_end_of n) es (u, x.0) orderly.order x.1 in
      let q = found-row (λ e. fits (flat_of s) (facts_of es) m (λ d. value_below d e.0 es) e.0 e.1 ≡ true) (is_end_of n) es (u, x.0) fit x.1 in
      go x.0 r.0 q.0 r.1
    where
      go : (x : Entry) → InOrder (facts_of es) u x → fits (flat_of s) (facts_of es) m (λ d. value_below d u es) u x ≡ true → is_end_of n x ≡ true →
          (code : ℕ) × ((facts_of es).choice n ≡ Some code) × (has_label code c.outs ≡ true)
      go (entry.Start node user reads) o f i = absurd (both_ways _ refl i)
      go (entry.Again node writes) o f i = absurd (both_ways _ refl i)
      go (entry.Wrote writes) o f i = absurd (both_ways _ refl i)
      go (entry.End node writes choice) o f i =
          let same : node ≡ n = eqb-true node n i in
          let d = on_card-true (card_at node (cards_of s)) _ f in
          let here : d.0 ≡ c = same_card (cards_of s) n d.0 c (ap (λ k. card_at k (cards_of s)) (sym same) ∙ d.1) at in
          let choice_fits : fits_choice c choice ≡ true = subst (λ y. fits_choice y choice ≡ true) here (and_parts (fits_edges s.elements writes d.0.writes) (fits_choice d.0 choice) d.2).1 in
          let r = split-choice c choice split choice_fits in
          (r.0, ap (facts_of es).choice (sym same) ∙ o.1 ∙ r.1, r.2)

  -- what block flow asks holds at each place
  pub all-sane : Distinct (places s.start s.body s.finish) → AllRows (Sane s (facts_of es) m) (places s.start s.body s.finish)
  all-sane distinct =
      all-rows-map _ _ (λ p placed. record {
        placed = placed;
        ended = λ u h. ended-ready p.node u h;
        chosen = λ split u h. ended-chosen p.node u (card_of s p) placed split h;
      }) (places s.start s.body s.finish) (placed-rows s (places s.start s.body s.finish) distinct)

-- on a trail that replays whole, where each worked-on node that is ready was ended, each node is ready or skipped
pub whole-never_stuck : (s : SchemaModel) → Regular s → (rank : List ℕ) → IsRank (cards_of s) rank → (es : Entries) (t : Spots) → RisesAfter 0 es → replay_of (flat_of s) es ≡ whole t →
    Idle (cards_of s) (facts_of es) (solution (cards_of s) rank (facts_of es)) → (n : ℕ) (c : Card) → card_at n (cards_of s) ≡ Some c → is_marked (solution (cards_of s) rank (facts_of es) n) ≡ true
whole-never_stuck s regular rank is es t rises is_whole idle =
    let f = facts_of es in
    let m = solution (cards_of s) rank f in
    let orderly : Orderly es = whole-orderly (flat_of s) es t rises is_whole in
    let net = solved_net (cards_of s) rank is f in
    let fit = fits-rows (flat_of s) f m (λ d q. value_below d q es) es (whole-fits (flat_of s) rank es m net orderly t is_whole) in
    never-stuck s f m net.solves rank is regular (all-sane s es m orderly fit regular.distinct) idle
