-- A case in which no node is activated or running is finished.
use Rattle.wsm_marks.proofs.Common.{[], ℕ, ◌∙◌, ◌∷◌, ◌≡◌, all-rows-map, AllRows, ap, arith, awaited, before, block_fault, Bool, both_ways, Card, card_at, card_of, cards_of, cases_Bool, cond, early, ended_signal, Entries, eq_of, Facts}
use Rattle.wsm_marks.proofs.Common.{facts_of, false, first_node, flat_of, flow, Idle, inl, inr, is_end_of, is_in_state, is_marked, is_some, IsRank, last_position, latest, leaving, List, list_all, lt-ltb, map, Marking, nat_lt, NodeKind}
use Rattle.wsm_marks.proofs.Common.{None, Option, parts_places, Place, place, places, plain_end, refl, Regular, replay_of, RisesAfter, rows-parts, SchemaModel, sig_at, sig_by, sig_of, solution, Solves, Some, spot_in, Spots, subst, suc, sym}
use Rattle.wsm_marks.proofs.{Common.{time, Timed, timed_by, true, Verdict, whole, worked_on}, BlockFlow.{Later, Sane, later-trans, node-one, node-silent, parts-flow, sig}, Causality.works_before, EntrySteps.fresh-activated}
use Rattle.wsm_marks.proofs.{LastMarking.{WholeTrail, told-early, whole-trail}, RankInduction.{Known, rank_induction}, SaneTrails.{all-sane, whole-never_stuck}, Signals.{before-in_time, greater-lt}, SoundSchemas.sound-regular}
use Rattle.wsm_schema.specs.declared.cards.NodeKind.TheVariants as kind
use Rattle.wsm_schema.specs.declared.states.Flow.TheVariants.{Yes, No}
use Rattle.wsm_schema.specs.declared.states.State.TheVariants as state
use Rattle.wsm_schema.specs.declared.states.Verdict.TheVariants as verdict

-- ---- all marks are from before a number that is behind all Ends
-- whether a time is before q
abbrev IsEarly : ℕ → Timed → Type 0
IsEarly q x = nat_lt (time x) q ≡ true

latest-early : (q : ℕ) → nat_lt 0 q ≡ true → (xs : List Timed) → AllRows (IsEarly q) xs → nat_lt (latest xs) q ≡ true
latest-early q pos [] h = pos
latest-early q pos (x ∷ xs) h = greater-lt (time x) (latest xs) q h.0 (latest-early q pos xs h.1)

awaited-early : (q : ℕ) → nat_lt 0 q ≡ true → (k : NodeKind) (xs : List Timed) → AllRows (IsEarly q) xs → nat_lt (latest (awaited k xs)) q ≡ true
awaited-early q pos kind.Start xs h = pos
awaited-early q pos _ xs h = latest-early q pos xs h

timed-early : (q : ℕ) → nat_lt 0 q ≡ true → (v : Verdict) (a b : ℕ) → nat_lt a q ≡ true → nat_lt b q ≡ true → IsEarly q (timed_by v a b)
timed-early q pos verdict.Waiting a b x y = pos
timed-early q pos verdict.Ready a b x y = greater-lt a b q x y
timed-early q pos verdict.Skipped a b x y = x

ended-early : (q : ℕ) → nat_lt 0 q ≡ true → (k : NodeKind) (en choice label : Option ℕ) → ((u : ℕ) → en ≡ Some u → nat_lt u q ≡ true) → IsEarly q (ended_signal k en choice label)
ended-early q pos k None choice label ends = pos
ended-early q pos k (Some u) choice label ends = ends u refl

sig-early : (q : ℕ) → nat_lt 0 q ≡ true → (k : NodeKind) (x : Timed) (en choice label : Option ℕ) → ((u : ℕ) → en ≡ Some u → nat_lt u q ≡ true) → IsEarly q x → IsEarly q (sig_of k x en choice label)
sig-early q pos k (Some (t, No)) en choice label ends h = h
sig-early q pos k (Some (t, Yes)) en choice label ends h =
    elim (cases_Bool (worked_on k)) [ inl works ↦ rw works (ended-early q pos k en choice label ends) | inr silent ↦ rw silent h ]
sig-early q pos k None en choice label ends h =
    elim (cases_Bool (worked_on k)) [ inl works ↦ rw works (ended-early q pos k en choice label ends) | inr silent ↦ rw silent h ]

module _ (cards : List Card) (rank : List ℕ) (is : IsRank cards rank) (f : Facts) (m : Marking) (solves : Solves cards f m) (q : ℕ) (pos : nat_lt 0 q ≡ true)
    (ends : (n u : ℕ) → f.ended n ≡ Some u → nat_lt u q ≡ true) where
  edge-early : (label : Option ℕ) (n : ℕ) → Known cards (λ k. IsEarly q (m k)) n → IsEarly q (sig_at cards f m label n)
  edge-early label n h = go (card_at n cards) h
    where
      go : (o : Option Card) → ((c : Card) → o ≡ Some c → IsEarly q (m n)) → IsEarly q (sig_by o (m n) (f.ended n) (f.choice n) label)
      go None h = pos
      go (Some c) h = sig-early q pos c.kind (m n) (f.ended n) (f.choice n) label (ends n) (h c refl)

  rows-early : {X : Type 0} (g : X → Timed) (xs : List X) → AllRows (λ x. IsEarly q (g x)) xs → AllRows (IsEarly q) (map g xs)
  rows-early g [] h = tt
  rows-early g (x ∷ xs) h = (h.0, rows-early g xs h.1)

  marks-early : (n : ℕ) (c : Card) → card_at n cards ≡ Some c → IsEarly q (m n)
  marks-early =
      rank_induction cards rank is (λ n. IsEarly q (m n)) (λ n c e ins syncs.
      let control = rows-early _ c.ins (all-rows-map _ (λ x. IsEarly q (sig_at cards f m x.label x.node)) (λ x h. edge-early x.label x.node h) c.ins ins) in
      let sync = rows-early _ c.syncs_in (all-rows-map _ (λ x. IsEarly q (sig_at cards f m None x)) (λ x h. edge-early None x h) c.syncs_in syncs) in
      ap (λ x. nat_lt (time x) q) (solves.meets n c e) ∙ timed-early q pos _ _ _ (awaited-early q pos c.kind _ control) (latest-early q pos _ sync))

-- ---- nobody may start or end a node
module _ (s : SchemaModel) (rank : List ℕ) (is : IsRank (cards_of s) rank) (es : Entries) (t : Spots) (trail : WholeTrail s rank es t) where
  -- the marking at the end shows all marks
  shown-now : (n : ℕ) (c : Card) → card_at n (cards_of s) ≡ Some c → before (suc (last_position 0 es)) (solution (cards_of s) rank (facts_of es) n) ≡ flow (solution (cards_of s) rank (facts_of es) n)
  shown-now n c at =
      before-in_time (suc (last_position 0 es)) _
      (marks-early (cards_of s) rank is (facts_of es) (solution (cards_of s) rank (facts_of es)) trail.net.solves (suc (last_position 0 es)) (lt-ltb 0 (suc (last_position 0 es)) (omega arith))
      (λ k u h. told-early (is_end_of k) es u trail.orderly.rises h) n c at)

  none-held : ((n : ℕ) (c : Card) → card_at n (cards_of s) ≡ Some c → worked_on c.kind ≡ true → (is_in_state (spot_in n t).state state.Activated ≡ false) × (is_in_state (spot_in n t).state state.Running ≡ false)) →
      Idle (cards_of s) (facts_of es) (solution (cards_of s) rank (facts_of es))
  none-held none n c at works u ready = go ((facts_of es).ended n) refl
    where
      q : ℕ
      q = suc (last_position 0 es)

      open_end : early q ((facts_of es).ended n) ≡ false → ⊥
      open_end open_yet =
          elim (cases_Bool (early q ((facts_of es).started n))) [
            | inl begun ↦ both_ways _ (none n c at works).1 (rw (trail.is_below.at n c at, open_yet, begun) refl)
            | inr fresh ↦
                let now : before q (solution (cards_of s) rank (facts_of es) n) ≡ Some Yes = shown-now n c at ∙ ap flow ready in
                both_ways _ (none n c at works).0
                (rw (trail.is_below.at n c at, open_yet, fresh) (fresh-activated c.kind (before q (solution (cards_of s) rank (facts_of es) n)) ∙ (rw (works, now) refl)))
          ]

      go : (o : Option ℕ) → (facts_of es).ended n ≡ o → (v : ℕ) × ((facts_of es).ended n ≡ Some v)
      go (Some v) h = (v, h)
      go None h = absurd (open_end (ap (early q) h))

-- ---- the finish
-- what is marked behind a True is True
marked-yes : (u : ℕ) (y : Timed) → Later (Some (u, Yes)) y → is_marked y ≡ true → flow y ≡ Some Yes
marked-yes u _ (Later.yes_none _) h = absurd (both_ways _ refl h)
marked-yes u _ (Later.yes_yes _ v le) h = refl

-- a start that is marked is ready
start-yes : (ss : List Timed) → is_marked (eq_of kind.Start [] ss) ≡ true → (u : ℕ) × (eq_of kind.Start [] ss ≡ Some (u, Yes))
start-yes ss h = go (list_all is_some (map flow ss)) (latest ss) h
  where
    go : (y : Bool) (b : ℕ) → is_marked (timed_by (cond y verdict.Ready verdict.Waiting) 0 b) ≡ true → (u : ℕ) × (timed_by (cond y verdict.Ready verdict.Waiting) 0 b ≡ Some (u, Yes))
    go true b h = (_, refl)
    go false b h = absurd (both_ways _ refl h)

module _ (s : SchemaModel) (regular : Regular s) (f : Facts) (m : Marking) (solves : Solves (cards_of s) f m) (sane : AllRows (Sane s f m) (places s.start s.body s.finish))
    (marked : (n : ℕ) (c : Card) → card_at n (cards_of s) ≡ Some c → is_marked (m n) ≡ true) where
  abbrev start_place : Place
  start_place = place s.start kind.Start None [] (plain_end (first_node s.body s.finish) ∷ [])

  abbrev finish_place : Place
  finish_place = place s.finish kind.Finish None (leaving s.body (plain_end s.start) ∷ []) []

  -- where all nodes are marked, the finish is ready
  finish-ready : (card_at s.finish (cards_of s) ≡ Some (card_of s finish_place)) × (flow (m s.finish) ≡ Some Yes)
  finish-ready =
      let r = rows-parts (Sane s f m) (parts_places s.body (plain_end s.start) s.finish) _ sane.1 in
      let at : Sane s f m finish_place = r.1.0 in
      let syncs : List Timed = map (sig_at (cards_of s) f m None) (card_of s start_place).syncs_in in
      let first : m s.start ≡ eq_of kind.Start [] syncs = solves.meets s.start (card_of s start_place) sane.0.placed in
      let begun = start-yes syncs (sym (ap is_marked first) ∙ marked s.start (card_of s start_place) sane.0.placed) in
      let entry : sig s f m (plain_end s.start) ≡ Some (begun.0, Yes) = node-silent s f m s.start kind.Start None [] (plain_end (first_node s.body s.finish) ∷ []) sane.0 refl None ∙ first ∙ begun.1 in
      let flows : Later (sig s f m (plain_end s.start)) (m s.finish) =
      later-trans _ _ _ (parts-flow s f m solves s.body (plain_end s.start) s.finish regular.full r.0) (node-one s f m solves s.finish kind.Finish None (leaving s.body (plain_end s.start)) [] at tt) in
      (at.placed, marked-yes begun.0 (m s.finish) (subst (λ x. Later x (m s.finish)) entry flows) (marked s.finish (card_of s finish_place) at.placed))

-- where a trail replays whole on a sound schema, and no node is Activated or Running, the finish is Completed
pub never-idle : (s : SchemaModel) → block_fault s ≡ None → (rank : List ℕ) → IsRank (cards_of s) rank → (es : Entries) (t : Spots) → RisesAfter 0 es → replay_of (flat_of s) es ≡ whole t →
    ((n : ℕ) (c : Card) → card_at n (cards_of s) ≡ Some c → worked_on c.kind ≡ true → (is_in_state (spot_in n t).state state.Activated ≡ false) × (is_in_state (spot_in n t).state state.Running ≡ false)) →
    (spot_in s.finish t).state ≡ state.Completed
never-idle s blocks rank is es t rises is_whole none =
    let f = facts_of es in
    let m = solution (cards_of s) rank f in
    let q : ℕ = suc (last_position 0 es) in
    let regular = sound-regular s blocks in
    let trail = whole-trail s rank es t is rises is_whole in
    let marked = whole-never_stuck s regular rank is es t rises is_whole (none-held s rank is es t trail none) in
    let sane = all-sane s es m trail.orderly trail.fit regular.distinct in
    let finish = finish-ready s regular f m trail.net.solves sane marked in
    let now : before q (m s.finish) ≡ Some Yes = shown-now s rank is es t trail s.finish _ finish.0 ∙ finish.1 in
    elim (cases_Bool (early q (f.ended s.finish))) [
      | inl over ↦ rw (trail.is_below.at s.finish _ finish.0, over) refl
      | inr open_yet ↦
          elim (cases_Bool (early q (f.started s.finish))) [
            | inl begun ↦ absurd (both_ways _ refl (works_before (cards_of s) q f m trail.in_time s.finish _ finish.0 begun).0)
            | inr fresh ↦ rw (trail.is_below.at s.finish _ finish.0, open_yet, fresh, now) refl
          ]
    ]
