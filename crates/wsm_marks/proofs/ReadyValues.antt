-- Nodes that are activated or running have the values that they must read.
use Rattle.wsm_marks.proofs.Common.{ℕ, ◌≡◌, ◌≤◌, AllRows, arith, before, block_fault, Card, card_at, cards_of, data_fault, early, Entries, facts_of, flat_of, is_in_state, is_some, IsRank, last_position, List, lt-ltb, ltb-true, nat_lt, None}
use Rattle.wsm_marks.proofs.{Common.{Option, replay_of, RisesAfter, SchemaModel, solution, Some, spot_in, Spots, suc, true, value_below, whole}, LastMarking.{activated-ready, running-held, whole-trail}, Signals.before-later}
use Rattle.wsm_marks.proofs.{SoundSchemas.sound-regular, SureValues.read-there}
use Rattle.wsm_schema.specs.declared.states.Flow.TheVariants.{Yes}
use Rattle.wsm_schema.specs.declared.states.State.TheVariants as state

-- what is early stays early
early-later : (a b : ℕ) → a ≤ b → (o : Option ℕ) → early a o ≡ true → early b o ≡ true
early-later a b le None h = h
early-later a b le (Some t) h = lt-ltb t b (omega (arith, ltb-true t a h))

module _ (s : SchemaModel) (blocks : block_fault s ≡ None) (on_data : data_fault s ≡ None) (rank : List ℕ) (is : IsRank (cards_of s) rank)
    (es : Entries) (t : Spots) (rises : RisesAfter 0 es) (is_whole : replay_of (flat_of s) es ≡ whole t)
    (next : ℕ) (later : nat_lt (last_position 0 es) next ≡ true) (n : ℕ) (c : Card) (at : card_at n (cards_of s) ≡ Some c) where
  -- where a node is ready, each mandatory read has a value
  ready-values : before (suc (last_position 0 es)) (solution (cards_of s) rank (facts_of es) n) ≡ Some Yes → AllRows (λ r. r.1 ≡ true → is_some (value_below r.0 next es) ≡ true) c.reads
  ready-values ready =
      let le : suc (last_position 0 es) ≤ next = omega (arith, ltb-true (last_position 0 es) next later) in
      read-there s (sound-regular s blocks) on_data rank is es t rises is_whole n next c at (before-later (suc (last_position 0 es)) next le (solution (cards_of s) rank (facts_of es) n) Yes ready)

  -- so it is of a node that is Activated
  pub activated-values : is_in_state (spot_in n t).state state.Activated ≡ true → AllRows (λ r. r.1 ≡ true → is_some (value_below r.0 next es) ≡ true) c.reads
  activated-values h = ready-values (activated-ready s rank es t (whole-trail s rank es t is rises is_whole) n c at h).1

  -- and of one that is Running
  pub running-values : is_in_state (spot_in n t).state state.Running ≡ true → AllRows (λ r. r.1 ≡ true → is_some (value_below r.0 next es) ≡ true) c.reads
  running-values h = ready-values (running-held s rank es t (whole-trail s rank es t is rises is_whole) n c at h).1

-- a node that is Running was started, and has no End
pub running-begun : (s : SchemaModel) (rank : List ℕ) → IsRank (cards_of s) rank → (es : Entries) (t : Spots) → RisesAfter 0 es → replay_of (flat_of s) es ≡ whole t →
    (next : ℕ) → nat_lt (last_position 0 es) next ≡ true → (n : ℕ) (c : Card) → card_at n (cards_of s) ≡ Some c → is_in_state (spot_in n t).state state.Running ≡ true →
    (early next ((facts_of es).started n) ≡ true) × ((facts_of es).ended n ≡ None)
running-begun s rank is es t rises is_whole next later n c at h =
    let r = running-held s rank es t (whole-trail s rank es t is rises is_whole) n c at h in
    (early-later (suc (last_position 0 es)) next (omega (arith, ltb-true (last_position 0 es) next later)) ((facts_of es).started n) r.2, r.3)
