-- The marking before a number is the settled net of the facts before it.
use Rattle.wsm_marks.proofs.Common.{ℕ, ◌∙◌, ◌∷◌, ◌≡◌, all_rows, ap, arith, before, begun_or, below, both_ways, Card, card_at, card_at-node, cases_Bool, early, End, ended_signal, Facts, false, if◌then◌else◌, inl, inr, InTime, is_begun}
use Rattle.wsm_marks.proofs.Common.{is_xor_split, IsBelow, IsRank, judge_of, KeptSpots, length, length-append, List, map, map-same, Marking, Meets, member-splits, nat_lt, NodeKind, None, Option, refl, rule_begins_none, settle, settled}
use Rattle.wsm_marks.proofs.Common.{sig_at, sig_by, sig_of, signal_from, signal_of, solution, Solves, Some, source_signal, Spot, spot, spot_before, spot_in, spot_in-map, Spots, state_by, subst, sym, sync_from, time, Timed, true, verdict_at}
use Rattle.wsm_marks.proofs.{Common.{verdict_of, worked_on}, Cards.same_card, Lists.map-map, RankInduction.in_rank, Signals.{before_none, is_ready_mark}, Solutions.solution-solves, Threshold.threshold}
use Rattle.wsm_schema.specs.Pass.{ruled_from}
use Rattle.wsm_schema.specs.declared.cards.NodeKind.TheVariants as kind
use Rattle.wsm_schema.specs.declared.states.Flow.TheVariants.{Yes, No}
use Rattle.wsm_schema.specs.declared.states.State.TheVariants as state

silent-not_split : (k : NodeKind) → worked_on k ≡ false → is_xor_split k ≡ false
silent-not_split kind.XorSplit h = absurd (both_ways _ h refl)
silent-not_split _ h = refl

-- ---- the signal of an edge, by what its source is before q
ended-signal : (k : NodeKind) (q : ℕ) (en choice label : Option ℕ) → early q en ≡ true → signal_of k state.Completed choice label ≡ before q (ended_signal k en choice label)
ended-signal k q None choice label h = absurd (both_ways _ refl h)
ended-signal k q (Some e) choice label h = rw h refl

-- before its End a node that is worked on says nothing
pub not_ended-signal : (k : NodeKind) (q : ℕ) (en choice label : Option ℕ) → early q en ≡ false → before q (ended_signal k en choice label) ≡ None
not_ended-signal k q None choice label h = before_none q
not_ended-signal k q (Some e) choice label h = rw h refl

ready-signal : (k : NodeKind) (q : ℕ) (x : Timed) (en choice label : Option ℕ) → worked_on k ≡ true → before q x ≡ Some Yes → sig_of k x en choice label ≡ ended_signal k en choice label
ready-signal k q x en choice label works h =
    let r = is_ready_mark q x h in
    subst (λ y. sig_of k y en choice label ≡ ended_signal k en choice label) (sym r.1) (rw works refl)

fresh-signal : (k : NodeKind) (q : ℕ) (x : Timed) (en choice label : Option ℕ) → early q en ≡ false →
    signal_of k (state_by k (verdict_of (before q x))) None label ≡ before q (sig_of k x en choice label)
fresh-signal k q None en choice label h =
    elim (cases_Bool (worked_on k)) [
      | inl works ↦ rw (before_none q, works) (sym (not_ended-signal k q en choice label h))
      | inr silent ↦ rw (silent, before_none q) refl
    ]
fresh-signal k q (Some (t, No)) en choice label h =
    elim (cases_Bool (nat_lt t q)) [ inl soon ↦ rw soon refl | inr late ↦ rw late refl ]
fresh-signal k q (Some (t, Yes)) en choice label h =
    elim (cases_Bool (worked_on k)) [
      | inl works ↦
          elim (cases_Bool (nat_lt t q)) [
            | inl soon ↦ rw (soon, works) (sym (not_ended-signal k q en choice label h))
            | inr late ↦ rw (late, works) (sym (not_ended-signal k q en choice label h))
          ]
      | inr silent ↦
          elim (cases_Bool (nat_lt t q)) [
            | inl soon ↦ rw (soon, silent, silent-not_split k silent) rw soon refl
            | inr late ↦ rw (late, silent) rw late refl
          ]
    ]

module _ (cards : List Card) (q : ℕ) (f : Facts) (m : Marking) where
  -- what was started before q is worked on, and was ready
  pub works_before : InTime cards q f m → (n : ℕ) (c : Card) → card_at n cards ≡ Some c → early q (f.started n) ≡ true → (worked_on c.kind ≡ true) × (before q (m n) ≡ Some Yes)
  works_before time n c e begun =
      let s = time.start n begun in
      (subst (λ d. worked_on d.kind ≡ true) (same_card cards n s.0 c s.1 e) s.2, s.3)

  signal-before : InTime cards q f m → (n : ℕ) (c : Card) → card_at n cards ≡ Some c → (label : Option ℕ) →
      signal_of c.kind (spot_before q f m c.kind n).state (spot_before q f m c.kind n).choice label ≡ before q (sig_of c.kind (m n) (f.ended n) (f.choice n) label)
  signal-before in_time n c e label =
      elim (cases_Bool (early q (f.ended n))) [
        | inl over ↦
            let w = works_before in_time n c e (in_time.end n over) in
            rw over (ended-signal c.kind q (f.ended n) (f.choice n) label over ∙ ap (before q) (sym (ready-signal c.kind q (m n) (f.ended n) (f.choice n) label w.0 w.1)))
        | inr open_yet ↦
            elim (cases_Bool (early q (f.started n))) [
              | inl begun ↦
                  let w = works_before in_time n c e begun in
                  rw (open_yet, begun) (sym (ap (before q) (ready-signal c.kind q (m n) (f.ended n) (f.choice n) label w.0 w.1) ∙ not_ended-signal c.kind q (f.ended n) (f.choice n) label open_yet))
              | inr fresh ↦ rw (open_yet, fresh) (fresh-signal c.kind q (m n) (f.ended n) (f.choice n) label open_yet)
            ]
      ]

  -- the marking before q, read at a node
  pub spot_in-below : (n : ℕ) (c : Card) → card_at n cards ≡ Some c → spot_in n (below cards q f m) ≡ spot_before q f m c.kind n
  spot_in-below n c e = spot_in-map (λ d. spot_before q f m d.kind d.node) keeps n cards c e ∙ ap (spot_before q f m c.kind) (card_at-node n cards c e)
    where
      keeps : (d : Card) → (spot_before q f m d.kind d.node).node ≡ d.node
      keeps d =
          elim (cases_Bool (early q (f.ended d.node))) [
            | inl over ↦ rw over refl
            | inr open_yet ↦ elim (cases_Bool (early q (f.started d.node))) [ inl begun ↦ rw (open_yet, begun) refl | inr fresh ↦ rw (open_yet, fresh) refl ]
          ]

  source-before : InTime cards q f m → (label : Option ℕ) (n : ℕ) → source_signal (card_at n cards) (spot_in n (below cards q f m)) label ≡ before q (sig_at cards f m label n)
  source-before in_time label n = go (card_at n cards) refl
    where
      go : (o : Option Card) → card_at n cards ≡ o → source_signal o (spot_in n (below cards q f m)) label ≡ before q (sig_by o (m n) (f.ended n) (f.choice n) label)
      go None e = sym (before_none q)
      go (Some c) e = ap (λ s. source_signal (Some c) s label) (spot_in-below n c e) ∙ signal-before in_time n c e label

-- a net that has a rank, with a solution of its equations
pub record TimedNet (cards : List Card) (rank : List ℕ) (f : Facts) (m : Marking) : Type 0 where
  pub ranked : IsRank cards rank
  pub solves : Solves cards f m

-- the solution of a net that has a rank
pub solved_net : (cards : List Card) (rank : List ℕ) → IsRank cards rank → (f : Facts) → TimedNet cards rank f (solution cards rank f)
solved_net cards rank is f = record { ranked = is; solves = solution-solves cards rank is f }

module _ (cards : List Card) (rank : List ℕ) (f : Facts) (m : Marking) (net : TimedNet cards rank f m) where
  verdict-before : (q : ℕ) → nat_lt 0 q ≡ true → InTime cards q f m → (n : ℕ) (c : Card) → card_at n cards ≡ Some c → verdict_at cards (below cards q f m) c ≡ verdict_of (before q (m n))
  verdict-before q pos in_time n c e =
      let tb : Spots = below cards q f m in
      let sig : End → Timed = λ x. sig_at cards f m x.label x.node in
      ap (λ xs. judge_of c.kind xs (map (sync_from cards tb) c.syncs_in))
      (map-same (signal_from cards tb) (λ x. before q (sig x)) c.ins (all_rows _ (λ x. source-before cards q f m in_time x.label x.node) c.ins) ∙ map-map (before q) sig c.ins)
      ∙ ap (judge_of c.kind (map (before q) (map sig c.ins)))
      (map-same (sync_from cards tb) (λ x. before q (sig_at cards f m None x)) c.syncs_in (all_rows _ (λ x. source-before cards q f m in_time None x) c.syncs_in) ∙ map-map (before q) (sig_at cards f m None) c.syncs_in)
      ∙ threshold q pos c.kind (map sig c.ins) (map (sig_at cards f m None) c.syncs_in)
      ∙ ap (λ x. verdict_of (before q x)) (sym (net.solves.meets n c e))

  below-meets : (q : ℕ) → nat_lt 0 q ≡ true → InTime cards q f m → (old : Spots) → KeptSpots cards q f old → Meets cards old (below cards q f m)
  below-meets q pos in_time old kept n c e =
      let named : c.node ≡ n = card_at-node n cards c e in
      let s : Spot = spot n (state_by c.kind (verdict_of (before q (m n)))) None in
      let here : ruled_from cards old (below cards q f m) c ≡ (if is_begun c.kind (spot_in n old).state then spot_in n old else s) =
      ap (λ k. if is_begun c.kind (spot_in k old).state then spot_in k old else spot k (state_by c.kind (verdict_at cards (below cards q f m) c)) None) named
      ∙ ap (λ v. if is_begun c.kind (spot_in n old).state then spot_in n old else spot n (state_by c.kind v) None) (verdict-before q pos in_time n c e) in
      spot_in-below cards q f m n c e ∙ sym (here ∙ kept.is n c e s)

  -- a table that meets the rule at each node is the settled net
  pub settle-is : (old h : Spots) → Meets cards old h → (n : ℕ) (c : Card) → card_at n cards ≡ Some c → spot_in n (settle cards old) ≡ spot_in n h
  settle-is old h meets n c e =
      let s = member-splits n rank (in_rank cards rank net.ranked n c e) in
      settled cards old rank net.ranked h meets (length cards) s.0 s.1 n c s.2 e (omega (arith, net.ranked.size, ap length s.2, length-append s.0 (n ∷ s.1)))

  -- where only ready nodes were started and only started ones ended, the settled net of what was begun before q is the marking before q
  pub causality : (q : ℕ) → nat_lt 0 q ≡ true → InTime cards q f m → (old : Spots) → KeptSpots cards q f old → IsBelow cards q f m (settle cards old)
  causality q pos in_time old kept = record {
    at = λ n c e. settle-is old (below cards q f m) (below-meets q pos in_time old kept) n c e ∙ spot_in-below cards q f m n c e;
  }

  -- ---- between two numbers with the same facts before them nothing changes
  pub kept-below : (q : ℕ) → InTime cards q f m → (t : Spots) → IsBelow cards q f m t → KeptSpots cards q f t
  kept-below q in_time t is_below = record { is = λ n c e s. rw (is_below.at n c e) (go n c e s) }
    where
      go : (n : ℕ) (c : Card) → card_at n cards ≡ Some c → (s : Spot) → (if is_begun c.kind (spot_before q f m c.kind n).state then spot_before q f m c.kind n else s) ≡ begun_or q f n s
      go n c e s =
          elim (cases_Bool (early q (f.ended n))) [
            | inl over ↦ rw (over, (works_before cards q f m in_time n c e (in_time.end n over)).0) refl
            | inr open_yet ↦
                elim (cases_Bool (early q (f.started n))) [
                  | inl begun ↦ rw (open_yet, begun) refl
                  | inr fresh ↦ rw (open_yet, fresh, rule_begins_none c.kind (verdict_of (before q (m n)))) refl
                ]
          ]
