-- What the trail of a case has: each node's entries once, the Start of who holds it, and the entry that a reply names.
use Rattle.case_core.proofs.Common.{[], ℕ, ◌==◌, ◌∙◌, ◌∷◌, ◌≡◌, again_once, agains_once, all_rows, all_values-ascend, and_parts, ap, AreLastWrites, AtMostOne, Bool, both_ways, Card, card_at, cards_of, CaseModel, change_live, change_with}
use Rattle.case_core.proofs.Common.{changed_by, early, end_on, end_refusal, ended_reply, Entry, entry_at, entry_or, eqb-true, Err, Event, failed_at, fails, false, Fault, find, flat_of, found-row, has_again, HasStart, hold_refusal}
use Rattle.case_core.proofs.Common.{holder_of, is_again_of, is_finished, is_in_state, is_some, is_start_of, IsOnceEach, Kept, last-below, List, list_any, LiveModel, migrate_live, migrate_refusal, migrate_with, migrated, misfit, Name}
use Rattle.case_core.proofs.Common.{NamesEntry, NamesEntryIn, nat_lt, next_case, None, not, Ok, Op, Option, option_or, or_parts, or_reply, Outcome, overlap_reply, overlap_with, position-found, position_of, refl, repeats, replay_of}
use Rattle.case_core.proofs.Common.{replay_of_case, Reply, Result, rises-after, RisesAfter, running-begun, same_Some, SchemaModel, settle, shown_live, shown_state_of, Some, Spot, Spots, start_on, start_refusal, StartedWhereRunning}
use Rattle.case_core.proofs.{Common.{state_of, subst, sym, taken, true, user_of, value_below, value_in-all_values, VersionModel, when_reply, whole, whole-orderly, withdraw_on, Written, wrong_elements, wrong_reply}, Keeping.state-is}
use Rattle.case_core.proofs.{Keeping.table-of, Marked.spot-none}
use Rattle.case_core.specs.Machine.{changed}
use Rattle.case_core.specs.declared.events.Event.TheVariants as event
use Rattle.case_core.specs.declared.replies.Reply.TheVariants as reply
use Rattle.wsm_schema.specs.declared.entries.Entry.TheVariants as entry
use Rattle.wsm_schema.specs.declared.states.State.TheVariants as state
use Rattle.wsm_walk.proofs.{Blocked.fails-entry, FoundAt.found-entry, Once.{ends-once, starts-once}}

-- ---- each node's entries
none-found : {X : Type 0} (test : X → Bool) (xs : List X) → list_any test xs ≡ false → find test xs ≡ None
none-found test [] h = refl
none-found test (x ∷ xs) h = let p = or_parts (test x) (list_any test xs) h in rw p.0 (none-found test xs p.1)

not-true : (b : Bool) → not b ≡ true → b ≡ false
not-true true h = absurd (both_ways _ refl h)
not-true false h = refl

again-last : (n : ℕ) (e : Entry) (es : List (ℕ × Entry)) → again_once e es ≡ true → is_again_of n e ≡ true → find (λ x. is_again_of n x.1) es ≡ None
again-last n (entry.Again node writes) es once it =
    none-found (λ (x : ℕ × Entry). is_again_of n x.1) es (subst (λ k. has_again k es ≡ false) (eqb-true node n it) (not-true (has_again node es) once))
again-last n (entry.Start node user reads) es once it = absurd (both_ways _ refl it)
again-last n (entry.End node writes choice) es once it = absurd (both_ways _ refl it)
again-last n (entry.Wrote writes) es once it = absurd (both_ways _ refl it)

agains-each : (n : ℕ) (es : List (ℕ × Entry)) → agains_once es ≡ true → AtMostOne (λ e. is_again_of n e.1) es
agains-each n [] once = tt
agains-each n (e ∷ es) once =
    let parts = and_parts (again_once e.1 es) (agains_once es) once in
    ((λ it. again-last n e.1 es parts.0 it), agains-each n es parts.1)

module _ (l : LiveModel) (kept : Kept l) where
  abbrev es : List (ℕ × Entry)
  es = l.trail.entries

  rises : RisesAfter 0 es
  rises = rises-after 0 l.trail.next es kept.rises

  table : (t : Spots) × (replay_of_case l ≡ whole t)
  table = table-of (replay_of_case l) kept.replays

  pub once-each : IsOnceEach l.trail.entries
  once-each n =
      let orderly = whole-orderly (flat_of l.schema) es table.0 rises table.1 in
      (starts-once es orderly n, (ends-once es orderly n, agains-each n es kept.once))

  -- ---- the Start of a running node
  by-entry : (n p : ℕ) (x : Entry) → find (λ e. is_start_of n e.1) es ≡ Some (p, x) → is_start_of n x ≡ true → HasStart l n (user_of (Some (p, x)))
  by-entry n p (entry.Start node user reads) found it =
      (p, reads, found-entry (is_start_of n) 0 es (p, entry.Start node user reads) rises found ∙ ap (λ k. Some (entry.Start k user reads)) (eqb-true node n it))
  by-entry n p (entry.End node writes choice) found it = absurd (both_ways _ refl it)
  by-entry n p (entry.Again node writes) found it = absurd (both_ways _ refl it)
  by-entry n p (entry.Wrote writes) found it = absurd (both_ways _ refl it)

  by-position : (n : ℕ) (o : Option ℕ) → position_of (is_start_of n) es ≡ o → early l.trail.next o ≡ true → HasStart l n (holder_of l n)
  by-position n None at h = absurd (both_ways _ refl h)
  by-position n (Some p) at h =
      let f = position-found (is_start_of n) es p at in
      let it = found-row (λ e. Unit {0}) (is_start_of n) es (p, f.0) (all_rows (λ e. Unit {0}) (λ e. tt) es) f.1 in
      subst (HasStart l n) (ap user_of (sym f.1)) (by-entry n p f.0 f.1 it.1)

  by-card : (n : ℕ) (o : Option Card) → card_at n (cards_of l.schema) ≡ o → is_in_state (state_of l n) state.Running ≡ true → HasStart l n (holder_of l n)
  by-card n None at running = absurd (both_ways _ (ap (λ (s : Spot). is_in_state s.state state.Running) (sym (spot-none l kept n at))) running)
  by-card n (Some c) at running =
      let there = subst (λ x. is_in_state x state.Running ≡ true) (state-is l table.0 table.1 n c at) running in
      let begun = running-begun l.schema kept.checked.rank kept.checked.ranked es table.0 rises table.1 l.trail.next (last-below 0 l.trail.next es kept.rises) n c at there in
      by-position n (position_of (is_start_of n) es) refl begun.0

  pub running-started : (n : ℕ) → StartedWhereRunning l n (holder_of l n)
  running-started n = by-card n (card_at n (cards_of l.schema)) refl

  -- ---- the values that are shown
  pub last-writes : AreLastWrites l (shown_live (Some l))
  last-writes = (all_values-ascend es, (λ d. value_in-all_values d 1 l.trail.next es kept.rises))

-- a node that is shown as running is running
pub shown-running : (l : LiveModel) (n : ℕ) (o : Option Card) → shown_state_of l n o ≡ Some state.Running → is_in_state (state_of l n) state.Running ≡ true
shown-running l n None h = absurd (cc)
shown-running l n (Some c) h = ap (λ x. is_in_state x state.Running) (same_Some (state_of l n) state.Running h)

-- ---- the entry that a reply names
module _ (l : LiveModel) where
  abbrev IsNamed : Option Reply → Type 0
  IsNamed None = Unit {0}
  IsNamed (Some r) = NamesEntry l r

  when-named : (b : Bool) (r : Reply) → NamesEntry l r → IsNamed (when_reply b r)
  when-named true r h = h
  when-named false r h = tt

  either-named : (a b : Option Reply) → IsNamed a → IsNamed b → IsNamed (option_or a b)
  either-named None b first later = later
  either-named (Some r) b first later = first

  or-named : {S : Type 0} (o : Option Reply) (s : S) (step : S × Reply) → IsNamed o → NamesEntry l step.1 → NamesEntry l (or_reply o s step).1
  or-named None s step first later = later
  or-named (Some r) s step first later = first

  start-named : (node user : ℕ) (roles : List ℕ) (o : Option Card) → NamesEntry l (start_on l node user roles o).1
  start-named node user roles None = tt
  start-named node user roles (Some c) =
      or-named (start_refusal l c node roles) l _ (either-named (when_reply (not (is_in_state (state_of l node) state.Activated)) _) _ (when-named _ _ tt) (when-named _ _ tt)) tt

  hold-named : (node user : ℕ) → IsNamed (hold_refusal l node user)
  hold-named node user = either-named (when_reply (not (is_in_state (state_of l node) state.Running)) _) _ (when-named _ _ tt) (when-named _ _ tt)

  withdraw-named : (node user : ℕ) (o : Option Card) → NamesEntry l (withdraw_on l node user o).1
  withdraw-named node user None = tt
  withdraw-named node user (Some c) = or-named (hold_refusal l node user) l _ (hold-named node user) tt

  wrong-named : (ds : List ℕ) → IsNamed (wrong_reply ds)
  wrong-named [] = tt
  wrong-named (d ∷ ds) = tt

  ended-named : (b : Bool) → NamesEntry l (ended_reply b)
  ended-named true = tt
  ended-named false = tt

  end-named : (node user : ℕ) (writes : Written) (choice : Option ℕ) (o : Option Card) → NamesEntry l (end_on l node user writes choice o).1
  end-named node user writes choice None = tt
  end-named node user writes choice (Some c) =
      or-named (end_refusal l c node user writes choice) l _
      (either-named (hold_refusal l node user) _ (hold-named node user)
      (either-named (wrong_reply (wrong_elements l.schema.elements c.writes writes)) _ (wrong-named (wrong_elements l.schema.elements c.writes writes)) (when-named _ _ tt)))
      (ended-named (repeats c choice))

  -- a replay fails at a position at which the trail has an entry
  some-entry : (p : ℕ) (o : Option Entry) → entry_at p l.trail.entries ≡ o → is_some o ≡ true → entry_at p l.trail.entries ≡ Some (entry_or o)
  some-entry p None at h = absurd (both_ways _ refl h)
  some-entry p (Some e) at h = at

  misfit-named : (s : SchemaModel) (o : Outcome) → replay_of (flat_of s) l.trail.entries ≡ o → IsNamed (misfit l (failed_at o))
  misfit-named s (whole t) h = tt
  misfit-named s (fails p) h =
      some-entry p (entry_at p l.trail.entries) refl
      (fails-entry (flat_of s) (λ d q. value_below d q l.trail.entries) p l.trail.entries (settle (cards_of s) []) h)

  taken-named : (new : LiveModel) (r : Reply) → new.trail ≡ l.trail → NamesEntry l r → NamesEntry l (taken l new r).1
  taken-named new r same h =
      or-named (misfit l (failed_at (replay_of_case new))) l (new, r)
      (subst (λ t. IsNamed (misfit l (failed_at (replay_of (flat_of new.schema) t.entries)))) (sym same) (misfit-named new.schema (replay_of (flat_of new.schema) l.trail.entries) refl)) h

  change-with_named : (ops : List Op) (o : Result SchemaModel Fault) → NamesEntry l (change_with l ops o).1
  change-with_named ops (Ok schema) = taken-named (changed l ops schema) reply.Changed refl tt
  change-with_named ops (Err fault) = tt

  change-named : (ops : List Op) → NamesEntry l (change_live l ops).1
  change-named ops = or-named (when_reply (is_finished l) reply.Finished) l _ (when-named _ _ tt) (change-with_named ops (changed_by l.schema ops))

  migrate-with_named : (version : VersionModel) (o : Result SchemaModel Fault) → NamesEntry l (migrate_with l version o).1
  migrate-with_named version (Ok schema) = taken-named (migrated l version schema) (reply.Migrated version.number) refl tt
  migrate-with_named version (Err fault) = tt

  overlap-named : (o : Option Name) → IsNamed (overlap_reply o)
  overlap-named None = tt
  overlap-named (Some name) = tt

  migrate-named : (version : VersionModel) → NamesEntry l (migrate_live l version).1
  migrate-named version =
      or-named (migrate_refusal l version) l _
      (either-named (when_reply (not (nat_lt l.base.number version.number)) (reply.NotNewer l.base.number)) _ (when-named (not (nat_lt l.base.number version.number)) (reply.NotNewer l.base.number) tt)
      (either-named (when_reply (is_finished l) reply.Finished) (overlap_reply (overlap_with l version)) (when-named (is_finished l) reply.Finished tt) (overlap-named (overlap_with l version))))
      (migrate-with_named version (changed_by version.schema l.own))

pub names-entry : (s : CaseModel) (e : Event) → NamesEntryIn s.live (next_case s e).1
names-entry s e = go s.live e
  where
    go : (live : Option LiveModel) → (e : Event) → NamesEntryIn live (next_case (record { type_no = s.type_no; live = live }) e).1
    go None e = tt
    go (Some l) (event.Create version) = tt
    go (Some l) (event.Start node user roles) = start-named l node user roles (card_at node (flat_of l.schema).cards)
    go (Some l) (event.End node user choice writes) = end-named l node user writes choice (card_at node (flat_of l.schema).cards)
    go (Some l) (event.Withdraw node user) = withdraw-named l node user (card_at node (flat_of l.schema).cards)
    go (Some l) (event.Change ops) = change-named l ops
    go (Some l) (event.Migrate version) = or-named l (when_reply (not (version.type_no == s.type_no)) reply.OtherType) _ _ (when-named l _ _ tt) (migrate-named l version)
