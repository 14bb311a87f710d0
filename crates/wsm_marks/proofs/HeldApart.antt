-- Two nodes that are running at the same time write no common element.
use Rattle.wsm_marks.proofs.Common.{[], ℕ, ◌&&◌, ◌||◌, ◌∙◌, ◌∷◌, ◌≡◌, ◌⊎◌, all-rows-card_at, all-rows-map, all_rows, AllRows, and_parts, ap, awaited, block_fault, Bool, both_ways, Card, card_at, card_at-node, card_of, cards_of, cases_Bool}
use Rattle.wsm_marks.proofs.Common.{cond, data_fault, Entries, eq-eqb, eqb, eqb-true, Facts, facts_of, false, filter, first_some, flat_of, flow, HasCard, inl, inr, is_in_state, is_one_of, is_ready, is_skipped, is_some, is_worked_on_in}
use Rattle.wsm_marks.proofs.Common.{is_yes, IsRank, latest, List, list_all, list_any, map, Marking, missing_at, None, or_cases, or_left, or_right, parallel_write, parallel_writes, parts_apart, places, refl, Regular, replay_of, RisesAfter}
use Rattle.wsm_marks.proofs.Common.{rows-map, same_Some, SchemaModel, sig_at, sig_by, sig_of, solution, Solves, Some, spot_in, Spots, subst, sure_of, sym, synced, Timed, timed_by, true, unknown, whole, writes_of}
use Rattle.wsm_marks.proofs.{HeldBranches.held-branches, HeldInside.Held, LastMarking.{WholeTrail, running-held, whole-trail}, Lists.eqb-swap, NoFault.{no_either, no_first, no_map, no_when, not_false}, SaneTrails.all-sane}
use Rattle.wsm_marks.proofs.{Signals.is_ready_mark, SoundSchemas.sound-regular, SureValues.none-found, Values.{card-writes, writer-found}}
use Rattle.wsm_schema.specs.declared.states.Flow.TheVariants.{Yes}
use Rattle.wsm_schema.specs.declared.states.State.TheVariants as state
use Rattle.wsm_schema.specs.declared.states.Verdict.TheVariants as verdict

-- ---- no sync edge joins two held nodes
-- each sync edge into a ready node signals
ready-synced : (r s y : Bool) (a b : ℕ) → is_yes (flow (timed_by (cond r (cond y verdict.Ready verdict.Waiting) (cond s verdict.Skipped verdict.Waiting)) a b)) ≡ true → y ≡ true
ready-synced true s true a b h = refl
ready-synced true s false a b h = absurd (both_ways _ refl h)
ready-synced false true y a b h = absurd (both_ways _ refl h)
ready-synced false false y a b h = absurd (both_ways _ refl h)

all-some : {X : Type 0} (g : X → Timed) (xs : List X) → list_all is_some (map flow (map g xs)) ≡ true → AllRows (λ x. is_some (flow (g x)) ≡ true) xs
all-some g [] h = tt
all-some g (x ∷ xs) h = let r = and_parts (is_some (flow (g x))) _ h in (r.0, all-some g xs r.1)

-- the source of an edge is one of those of its target
source-listed : (P : ℕ → Type 0) (a b : ℕ) (es : List (ℕ × ℕ)) → AllRows P (map (λ e. e.0) (filter (λ e. eqb e.1 b) es)) → list_any (λ e. eqb e.0 a && eqb e.1 b) es ≡ true → P a
source-listed P a b [] rows h = absurd (both_ways _ refl h)
source-listed P a b (e ∷ es) rows h =
    elim (cases_Bool (eqb e.1 b)) [
      | inl into ↦
          let now : AllRows P (e.0 ∷ map (λ x. x.0) (filter (λ x. eqb x.1 b) es)) = rw into at rows in
          elim (or_cases (eqb e.0 a && eqb e.1 b) _ h) [
            | inl it ↦ subst P (eqb-true e.0 a (and_parts (eqb e.0 a) (eqb e.1 b) it).0) now.0
            | inr later ↦ source-listed P a b es now.1 later
          ]
      | inr other ↦
          elim (or_cases (eqb e.0 a && eqb e.1 b) _ h) [
            | inl it ↦ absurd (both_ways _ other (and_parts (eqb e.0 a) (eqb e.1 b) it).1)
            | inr later ↦ source-listed P a b es (rw other at rows) later
          ]
    ]

-- an edge between two nodes leads one way or the other
one_way : (a b : ℕ) (es : List (ℕ × ℕ)) → list_any (λ e. (eqb e.0 a && eqb e.1 b) || (eqb e.0 b && eqb e.1 a)) es ≡ true →
    (list_any (λ e. eqb e.0 a && eqb e.1 b) es ≡ true) ⊎ (list_any (λ e. eqb e.0 b && eqb e.1 a) es ≡ true)
one_way a b [] h = absurd (both_ways _ refl h)
one_way a b (e ∷ es) h =
    elim (or_cases ((eqb e.0 a && eqb e.1 b) || (eqb e.0 b && eqb e.1 a)) _ h) [
      | inl it ↦
          elim (or_cases (eqb e.0 a && eqb e.1 b) (eqb e.0 b && eqb e.1 a) it) [
            | inl x ↦ inl (or_left (eqb e.0 a && eqb e.1 b) _ x)
            | inr y ↦ inr (or_left (eqb e.0 b && eqb e.1 a) _ y)
          ]
      | inr later ↦
          elim (one_way a b es later) [
            | inl x ↦ inl (or_right (eqb e.0 a && eqb e.1 b) _ x)
            | inr y ↦ inr (or_right (eqb e.0 b && eqb e.1 a) _ y)
          ]
    ]

module _ (s : SchemaModel) (f : Facts) (m : Marking) (solves : Solves (cards_of s) f m) where
  -- no sync edge leads from a held node to a ready one
  no_sync : (a b : ℕ) (c : Card) → card_at b (cards_of s) ≡ Some c → Held s f m a → is_yes (flow (m b)) ≡ true → list_any (λ e. eqb e.0 a && eqb e.1 b) s.syncs ≡ true → ⊥
  no_sync a b c at held ready edge =
      let signals = all-some (sig_at (cards_of s) f m None) c.syncs_in (ready-synced (is_ready c.kind _) (is_skipped c.kind _) _ (latest (awaited c.kind _)) _ (ap (λ x. is_yes (flow x)) (sym (solves.meets b c at)) ∙ ready)) in
      both_ways _ (ap (λ x. is_some (flow x)) (held.silent None)) (source-listed (λ n. is_some (flow (sig_at (cards_of s) f m None n)) ≡ true) a b s.syncs (subst (AllRows _) (syncs-are b c at) signals) edge)
    where
      syncs-are : (n : ℕ) (d : Card) → card_at n (cards_of s) ≡ Some d → d.syncs_in ≡ map (λ e. e.0) (filter (λ e. eqb e.1 n) s.syncs)
      syncs-are n d at =
          all-rows-card_at (λ x. x.syncs_in ≡ map (λ e. e.0) (filter (λ e. eqb e.1 x.node) s.syncs)) n (cards_of s) d
          (rows-map _ (card_of s) (places s.start s.body s.finish) (all_rows _ (λ p. refl) (places s.start s.body s.finish))) at
          ∙ ap (λ k. map (λ e. e.0) (filter (λ e. eqb e.1 k) s.syncs)) (card_at-node n (cards_of s) d at)

  -- so none joins two held nodes
  not_synced : (a b : ℕ) (c d : Card) → card_at a (cards_of s) ≡ Some c → card_at b (cards_of s) ≡ Some d → Held s f m a → Held s f m b → synced s a b ≡ false
  not_synced a b c d at_a at_b held_a held_b =
      elim (cases_Bool (synced s a b)) [
        | inl joined ↦
            elim (one_way a b s.syncs joined) [
              | inl there ↦ absurd (no_sync a b d at_b held_a held_b.ready there)
              | inr back ↦ absurd (no_sync b a c at_a held_b held_a.ready back)
            ]
        | inr free ↦ free
      ]

-- ---- parallel writes
-- of two nodes one stands in front
pair-checked : (s : SchemaModel) (cards : List Card) (a b : ℕ) (c d : Card) → parallel_writes s cards ≡ None → card_at a cards ≡ Some c → card_at b cards ≡ Some d → eqb a b ≡ false →
    (parallel_write s c d ≡ None) ⊎ (parallel_write s d c ≡ None)
pair-checked s [] a b c d none at_a at_b other = absurd (cc)
pair-checked s (x ∷ xs) a b c d none at_a at_b other =
    let r = no_either _ _ none in
    elim (cases_Bool (eqb x.node a)) [
      | inl is_a ↦
          elim (cases_Bool (eqb x.node b)) [
            | inl is_b ↦ absurd (both_ways _ other (eq-eqb a b (sym (eqb-true x.node a is_a) ∙ eqb-true x.node b is_b)))
            | inr not_b ↦
                let here : x ≡ c = same_Some x c (rw is_a at at_a) in
                inl (subst (λ y. parallel_write s y d ≡ None) here (all-rows-card_at (λ y. parallel_write s x y ≡ None) b xs d (no_first _ xs r.0) (rw not_b at at_b)))
          ]
      | inr not_a ↦
          elim (cases_Bool (eqb x.node b)) [
            | inl is_b ↦
                let here : x ≡ d = same_Some x d (rw is_b at at_b) in
                inr (subst (λ y. parallel_write s y c ≡ None) here (all-rows-card_at (λ y. parallel_write s x y ≡ None) a xs c (no_first _ xs r.0) (rw not_a at at_a)))
            | inr not_b ↦ pair-checked s xs a b c d r.1 (rw not_a at at_a) (rw not_b at at_b) other
          ]
    ]

no_common : (e : ℕ) (xs ys : List ℕ) → AllRows (λ x. is_one_of x ys ≡ false) xs → is_one_of e xs ≡ true → is_one_of e ys ≡ true → ⊥
no_common e [] ys rows in_x in_y = both_ways _ refl in_x
no_common e (x ∷ xs) ys rows in_x in_y =
    elim (or_cases (eqb x e) _ in_x) [
      | inl it ↦ both_ways _ (ap (λ k. is_one_of k ys) (sym (eqb-true x e it)) ∙ rows.0) in_y
      | inr later ↦ no_common e xs ys rows.1 later in_y
    ]

-- two nodes in different branches, with no sync edge between them, write no common element
write-apart : (s : SchemaModel) (c d : Card) (e : ℕ) → parallel_write s c d ≡ None → parts_apart s.body c.node d.node ≡ true → synced s c.node d.node ≡ false →
    is_one_of e c.writes ≡ true → is_one_of e d.writes ≡ true → ⊥
write-apart s c d e none apart free in_c in_d =
    no_common e c.writes d.writes (none-found (λ x. is_one_of x d.writes) c.writes (no_map _ _ (rw (apart, free) at none))) in_c in_d

-- the last clause on data
parallel-clause : (s : SchemaModel) → data_fault s ≡ None → parallel_writes s (cards_of s) ≡ None
parallel-clause s on_data =
    let d0 = no_either (first_some (λ r. unknown s r.0 r.1) s.reads) _ on_data in
    let d1 = no_either (first_some (λ w. unknown s w.0 w.1) s.writes) _ d0.1 in
    (no_either (first_some (missing_at (sure_of s)) (cards_of s)) (parallel_writes s (cards_of s)) d1.1).1

worked-has_card : (cards : List Card) (n : ℕ) → is_worked_on_in cards n ≡ true → HasCard cards n
worked-has_card [] n h = absurd (both_ways _ refl h)
worked-has_card (c ∷ cs) n h =
    elim (cases_Bool (eqb c.node n)) [
      | inl same ↦ (c, rw same refl)
      | inr other ↦ let r = worked-has_card cs n (rw other at h) in (r.0, rw other r.1)
    ]

-- each node that writes is one of the net
writer-has_card : (s : SchemaModel) → data_fault s ≡ None → (n e : ℕ) → writes_of s n e ≡ true → HasCard (cards_of s) n
writer-has_card s on_data n e h =
    let rows = no_first (λ w. unknown s w.0 w.1) s.writes (no_either _ _ (no_either _ _ on_data).1).0 in
    writer-found (HasCard (cards_of s)) n e s.writes
    (all-rows-map _ _ (λ w none. worked-has_card (cards_of s) w.0 (and_parts (is_worked_on_in (cards_of s) w.0) _ (not_false _ (no_when _ _ none))).0) s.writes rows) h

-- a node that is Running is held
module _ (s : SchemaModel) (rank : List ℕ) (es : Entries) (t : Spots) (trail : WholeTrail s rank es t) where
  running-is_held : (n : ℕ) (c : Card) → card_at n (cards_of s) ≡ Some c → is_in_state (spot_in n t).state state.Running ≡ true → Held s (facts_of es) (solution (cards_of s) rank (facts_of es)) n
  running-is_held n c at h =
      let f : Facts = facts_of es in
      let m : Marking = solution (cards_of s) rank f in
      let held = running-held s rank es t trail n c at h in
      let mark = is_ready_mark _ (m n) held.1 in
      record {
        ready = ap (λ x. is_yes (flow x)) mark.1;
        silent = λ label.
            ap (λ o. sig_by o (m n) (f.ended n) (f.choice n) label) at ∙ ap (λ x. sig_of c.kind x (f.ended n) (f.choice n) label) mark.1
            ∙ ap (λ o. sig_of c.kind (Some (mark.0, Yes)) o (f.choice n) label) held.3 ∙ (rw held.0 refl);
      }

-- on a trail that replays whole on a sound schema two nodes that are Running write no common element
pub held-apart : (s : SchemaModel) → block_fault s ≡ None → data_fault s ≡ None → (rank : List ℕ) → IsRank (cards_of s) rank → (es : Entries) (t : Spots) → RisesAfter 0 es → replay_of (flat_of s) es ≡ whole t →
    (a b d : ℕ) → eqb a b ≡ false → is_in_state (spot_in a t).state state.Running ≡ true → is_in_state (spot_in b t).state state.Running ≡ true → writes_of s a d ≡ true → writes_of s b d ≡ true → ⊥
held-apart s blocks on_data rank is es t rises is_whole a b e other run_a run_b writes_a writes_b =
    let f : Facts = facts_of es in
    let m : Marking = solution (cards_of s) rank f in
    let regular : Regular s = sound-regular s blocks in
    let trail = whole-trail s rank es t is rises is_whole in
    let sane = all-sane s es m trail.orderly trail.fit regular.distinct in
    let c = writer-has_card s on_data a e writes_a in
    let d = writer-has_card s on_data b e writes_b in
    let held_a = running-is_held s rank es t trail a c.0 c.1 run_a in
    let held_b = running-is_held s rank es t trail b d.0 d.1 run_b in
    let in_c = card-writes s regular a e c.0 c.1 writes_a in
    let in_d = card-writes s regular b e d.0 d.1 writes_b in
    let named_c = card_at-node a (cards_of s) c.0 c.1 in
    let named_d = card_at-node b (cards_of s) d.0 d.1 in
    let back : eqb b a ≡ false = eqb-swap a b other in
    elim (pair-checked s (cards_of s) a b c.0 d.0 (parallel-clause s on_data) c.1 d.1 other) [
      | inl front ↦
          write-apart s c.0 d.0 e front
          (ap (λ k. parts_apart s.body k d.0.node) named_c ∙ ap (parts_apart s.body a) named_d ∙ held-branches s f m trail.net.solves regular sane a b c.0 d.0 c.1 d.1 held_a held_b other)
          (ap (λ k. synced s k d.0.node) named_c ∙ ap (synced s a) named_d ∙ not_synced s f m trail.net.solves a b c.0 d.0 c.1 d.1 held_a held_b) in_c in_d
      | inr behind ↦
          write-apart s d.0 c.0 e behind
          (ap (λ k. parts_apart s.body k c.0.node) named_d ∙ ap (parts_apart s.body b) named_c ∙ held-branches s f m trail.net.solves regular sane b a d.0 c.0 d.1 c.1 held_b held_a back)
          (ap (λ k. synced s k c.0.node) named_d ∙ ap (synced s b) named_c ∙ not_synced s f m trail.net.solves b a d.0 c.0 d.1 c.1 held_b held_a) in_d in_c
    ]
