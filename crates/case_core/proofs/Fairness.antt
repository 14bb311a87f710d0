-- What a case shows: it is never stuck, what is offered has its values, and what is held writes apart.
use Rattle.case_core.proofs.Common.{[], ℕ, ◌++◌, ◌||◌, ◌∙◌, ◌∷◌, ◌≡◌, activated-values, all-rows-map, AllRows, ap, both_ways, Card, card_at, cards_of, cases_Bool, cond, eq-eqb, eqb, eqb-true, false, flat_map, goes_on, has_work, inl, inr}
use Rattle.case_core.proofs.Common.{is_finished, is_held, is_in_state, is_one_of, is_some, is_sound, IsFair, IsFilled, IsRank, IsSpotOf, Item, item_in, item_of, items_of, Kept, last-below, List, LiveModel, map, marking-rows, marking_of}
use Rattle.case_core.proofs.Common.{marking_of-spots, node_of-spot_in, None, Option, or_cases, or_left, or_right, parts_places, Place, places, plain_end, refl, replay_of_case, rises-after, RisesAfter, rows-append, same_Some, shown_after}
use Rattle.case_core.proofs.{Common.{shown_live, shown_spots, Some, Sound, Spot, spot-among, spot_in, Spots, State, subst, sym, true, value_in, value_in-all_values, values_of, whole, worked_on}, Keeping.{table-of, state-is}}
use Rattle.wsm_items.specs.declared.work_items.Item.TheVariants as item
use Rattle.wsm_marks.proofs.{Cards.node-has_card, HeldApart.held-apart, NeverIdle.never-idle}
use Rattle.wsm_schema.specs.declared.states.State.TheVariants.{NotActivated, Activated, Running, Completed, Skipped}

-- ---- items of one spot
no-item : (l : LiveModel) (c : Card) (x : State) → item_in l c x ≡ [] → (is_in_state x Activated ≡ false) × (is_in_state x Running ≡ false)
no-item l c NotActivated h = (refl, refl)
no-item l c Activated h = absurd (cc)
no-item l c Running h = absurd (cc)
no-item l c Completed h = (refl, refl)
no-item l c Skipped h = (refl, refl)

-- a card that is found is that of the node
card-node : (cards : List Card) (n : ℕ) (c : Card) → card_at n cards ≡ Some c → c.node ≡ n
card-node [] n c at = absurd (cc)
card-node (d ∷ ds) n c at =
    elim (cases_Bool (eqb d.node n)) [
      | inl here ↦ let same : d ≡ c = same_Some d c (rw here at at) in subst (λ (k : Card). k.node ≡ n) same (eqb-true d.node n here)
      | inr away ↦ card-node ds n c (rw away at at)
    ]

-- the last of several places is among them
last-among : (n : ℕ) (ps : List Place) (p : Place) → p.node ≡ n → is_one_of n (map (λ q. q.node) (ps ++ p ∷ [])) ≡ true
last-among n [] p h = or_left (eqb p.node n) false (eq-eqb p.node n h)
last-among n (q ∷ ps) p h = or_right (eqb q.node n) _ (last-among n ps p h)

-- where a list is empty so is each part
empty-parts : {X : Type 0} (xs ys : List X) → xs ++ ys ≡ [] → (xs ≡ []) × (ys ≡ [])
empty-parts [] ys h = (refl, h)
empty-parts (x ∷ xs) ys h = absurd (cc)

no-items : {X : Type 0} (f : Spot → List X) (ss : Spots) → flat_map f ss ≡ [] → AllRows (λ s. f s ≡ []) ss
no-items f [] h = tt
no-items f (s ∷ ss) h = let r = empty-parts (f s) (flat_map f ss) h in (r.0, no-items f ss r.1)

module _ (l : LiveModel) (kept : Kept l) where
  abbrev rank : List ℕ
  rank = kept.checked.rank

  is : IsRank (cards_of l.schema) rank
  is = kept.checked.ranked

  sound : Sound l.schema
  sound = is_sound l.schema kept.checked.sound

  table : (t : Spots) × (replay_of_case l ≡ whole t)
  table = table-of (replay_of_case l) kept.replays

  abbrev cards : List Card
  cards = cards_of l.schema

  rises : RisesAfter 0 l.trail.entries
  rises = rises-after 0 l.trail.next l.trail.entries kept.rises

  -- the spots that are shown
  shown-is : shown_spots l ≡ marking_of cards table.0
  shown-is = ap (shown_after cards) table.1

  -- ---- never stuck
  idle : items_of l ≡ [] → (n : ℕ) (c : Card) → card_at n cards ≡ Some c → worked_on c.kind ≡ true →
      (is_in_state (spot_in n table.0).state Activated ≡ false) × (is_in_state (spot_in n table.0).state Running ≡ false)
  idle none n c at works =
      let rows = no-items (λ s. item_of l s (card_at s.node cards)) (shown_spots l) none in
      let here : spot_in n (shown_spots l) ≡ spot_in n table.0 = ap (spot_in n) shown-is ∙ marking_of-spots cards table.0 n c at in
      elim (spot-among (λ s. item_of l s (card_at s.node cards) ≡ []) (shown_spots l) rows n) [
        | inl nothing ↦
            let at_node : (spot_in n (shown_spots l)).node ≡ n = node_of-spot_in n (shown_spots l) in
            let item : item_of l (spot_in n (shown_spots l)) (Some c) ≡ [] = ap (item_of l (spot_in n (shown_spots l))) (sym at ∙ ap (λ k. card_at k cards) (sym at_node)) ∙ nothing in
            let now : item_in l c (spot_in n (shown_spots l)).state ≡ [] = ap (λ b. cond b (item_in l c (spot_in n (shown_spots l)).state) []) (sym works) ∙ item in
            subst (λ (s : Spot). (is_in_state s.state Activated ≡ false) × (is_in_state s.state Running ≡ false)) here (no-item l c (spot_in n (shown_spots l)).state now)
        | inr not_there ↦
            subst (λ (s : Spot). (is_in_state s.state Activated ≡ false) × (is_in_state s.state Running ≡ false)) (sym not_there ∙ here) (refl, refl)
      ]

  finish-card : (c : Card) × (card_at l.schema.finish cards ≡ Some c)
  finish-card = node-has_card l.schema l.schema.finish (places l.schema.start l.schema.body l.schema.finish) among
    where
      among : is_one_of l.schema.finish (map (λ p. p.node) (places l.schema.start l.schema.body l.schema.finish)) ≡ true
      among = or_right (eqb l.schema.start l.schema.finish) _ (last-among l.schema.finish (parts_places l.schema.body (plain_end l.schema.start) l.schema.finish) _ refl)

  finished : items_of l ≡ [] → is_finished l ≡ true
  finished none =
      let done = never-idle l.schema sound.blocks rank is l.trail.entries table.0 rises table.1 (idle none) in
      ap (λ x. is_in_state x Completed) (state-is l table.0 table.1 l.schema.finish finish-card.0 finish-card.1 ∙ done)

  pub never-stuck : goes_on (shown_live (Some l)) ≡ true
  never-stuck = go (items_of l) refl
    where
      go : (is : List Item) → items_of l ≡ is → (is_finished l || has_work is) ≡ true
      go [] none = or_left (is_finished l) false (finished none)
      go (i ∷ is) some = or_right (is_finished l) true refl

  -- ---- what is offered and held
  abbrev Runs : Item → Type 0
  Runs (item.Offered n role) = Unit {0}
  Runs (item.Held n user) = is_in_state (spot_in n table.0).state Running ≡ true

  abbrev IsTrue_of : Item → Type 0
  IsTrue_of i = IsFilled l.schema (values_of l) i × Runs i

  offered : (c : Card) (n : ℕ) → card_at n cards ≡ Some c → c.node ≡ n → is_in_state (spot_in n table.0).state Activated ≡ true → IsFilled l.schema (values_of l) (item.Offered c.node c.role)
  offered c n at named ready d found =
      let same : c ≡ d = same_Some c d (sym at ∙ ap (λ k. card_at k cards) (sym named) ∙ found) in
      let there = activated-values l.schema sound.blocks sound.on_data rank is l.trail.entries table.0 rises table.1 l.trail.next (last-below 0 l.trail.next l.trail.entries kept.rises) n c at ready in
      subst (λ (k : Card). AllRows (λ r. r.1 ≡ true → is_some (value_in r.0 (values_of l)) ≡ true) k.reads) same
      (all-rows-map _ _ (λ r have must. ap is_some (value_in-all_values r.0 1 l.trail.next l.trail.entries kept.rises) ∙ have must) c.reads there)

  of-state : (c : Card) (n : ℕ) → card_at n cards ≡ Some c → c.node ≡ n → (x : State) → x ≡ (spot_in n table.0).state → AllRows IsTrue_of (item_in l c x)
  of-state c n at named NotActivated h = tt
  of-state c n at named Activated h = ((offered c n at named (ap (λ y. is_in_state y Activated) (sym h)), tt), tt)
  of-state c n at named Running h = ((tt, subst (λ k. is_in_state (spot_in k table.0).state Running ≡ true) (sym named) (ap (λ y. is_in_state y Running) (sym h))), tt)
  of-state c n at named Completed h = tt
  of-state c n at named Skipped h = tt

  of-card : (s : Spot) → IsSpotOf table.0 s → (o : Option Card) → card_at s.node cards ≡ o → AllRows IsTrue_of (item_of l s o)
  of-card s its None at = tt
  of-card s its (Some c) at =
      elim (cases_Bool (worked_on c.kind)) [
        | inl works ↦ rw works (of-state c s.node at (card-node cards s.node c at) s.state (ap (λ x. x.state) its))
        | inr silent ↦ rw silent tt
      ]

  of-spots : (ss : Spots) → AllRows (IsSpotOf table.0) ss → AllRows IsTrue_of (flat_map (λ s. item_of l s (card_at s.node cards)) ss)
  of-spots [] its = tt
  of-spots (s ∷ ss) its = rows-append IsTrue_of (item_of l s (card_at s.node cards)) _ (of-card s its.0 (card_at s.node cards) refl) (of-spots ss its.1)

  all-true : AllRows IsTrue_of (items_of l)
  all-true = of-spots (shown_spots l) (subst (λ ss. AllRows (IsSpotOf table.0) ss) (sym shown-is) (marking-rows cards table.0))

  held-runs : (n : ℕ) (is : List Item) → AllRows IsTrue_of is → is_held n is ≡ true → is_in_state (spot_in n table.0).state Running ≡ true
  held-runs n [] all h = absurd (both_ways _ refl h)
  held-runs n (item.Offered node role ∷ is) all h = held-runs n is all.1 h
  held-runs n (item.Held node user ∷ is) all h =
      elim (or_cases (eqb node n) (is_held n is) h) [
        | inl here ↦ subst (λ k. is_in_state (spot_in k table.0).state Running ≡ true) (eqb-true node n here) all.0.1
        | inr later ↦ held-runs n is all.1 later
      ]

  pub fair : IsFair l (shown_live (Some l))
  fair = (
    all-rows-map IsTrue_of (IsFilled l.schema (values_of l)) (λ i both. both.0) (items_of l) all-true,
    λ a b d other held_a held_b. held-apart l.schema sound.blocks sound.on_data rank is l.trail.entries table.0 rises table.1 a b d other (held-runs a (items_of l) all-true held_a) (held-runs b (items_of l) all-true held_b),
  )
