-- What every step keeps of a case that was created.
use Rattle.case_core.proofs.Common.{[], ℕ, ◌++◌, ◌<◌, ◌==◌, ◌^◌, ◌||◌, ◌∙◌, ◌∷◌, ◌≡◌, activated-values, all_rows, AllRows, and_parts, ap, applied, arith, Ascends, both, both_ways, branch_heads, branch_tails, by_element, Card, card_at}
use Rattle.case_core.proofs.Common.{card_of, cards_of, cases_Bool, created_on, end_refusal, Entry, eqb, eqb-true, fails, false, filter, fits_choice, flat_of, hold_refusal, inl, inr, is_again_of, is_in_state, is_loop_end, is_some, is_sound}
use Rattle.case_core.proofs.Common.{is_whole, IsChecked, IsRank, join_kind, Kept, key_lt, labelled, lanes_places, last-below, length, List, LiveModel, loop_nodes, lt_from, lt_means, map, marking_of-spots, no_either, no_when, None}
use Rattle.case_core.proofs.Common.{not_false, number_key, Ok, on_schema, Op, Option, Outcome, part_places, parts_places, Place, place, places, plain_end, pushed, refl, repeated_trail, repeats, replay_of, replay_of_case, rises-after}
use Rattle.case_core.proofs.Common.{rises_push, rows-append, running-begun, running-held, same_Some, SchemaModel, shown_after, Some, Sound, sound-regular, split_kind, spot_in, Spots, start_entry, start_refusal, starts_of, State, state_of}
use Rattle.case_core.proofs.{Common.{subst, sym, true, value_below, value_now, VersionModel, whole, whole-trail, WholeTrail, with_trail, withdrawn, withdrawn-whole, Written, wrong_elements, wrong_reply}, Withdrawing.agains-left}
use Rattle.case_core.proofs.Withdrawing.{one-start}
use Rattle.std.proofs.Math.Bool.{or-false}
use Rattle.case_writes.proofs.RightWrites.{right-writes}
use Rattle.wsm_marks.proofs.Repeats.{loop-of_schema, repeat-whole}
use Rattle.wsm_schema.specs.{Ends.{first_node, last_of}, Tree.{Gate, Part, Parts, Lanes, act, gate, loop, nothing, part, no_lane, lane}, declared.cards.End.End}
use Rattle.wsm_schema.specs.declared.entries.Entry.TheVariants as entry
use Rattle.wsm_schema.specs.declared.states.State.TheVariants.{Activated, Running}
use Rattle.wsm_steps.proofs.{Agains.{agains-push, agains-repeat}, NextEntry.{next-whole, start-applies, end-applies}}
use Rattle.wsm_trail.proofs.{Cutting.rises_cut, Withdrawing.rises-left}

-- a replay that fails nowhere ends in a table
pub table-of : (o : Outcome) → is_whole o ≡ true → (t : Spots) × (o ≡ whole t)
table-of (whole t) h = (t, refl)
table-of (fails p) h = absurd (both_ways _ refl h)

whole-is : (o : Outcome) (t : Spots) → o ≡ whole t → is_whole o ≡ true
whole-is o t h = ap is_whole h

-- the state of a node is that of the table
pub state-is : (l : LiveModel) (t : Spots) → replay_of_case l ≡ whole t → (n : ℕ) (c : Card) → card_at n (cards_of l.schema) ≡ Some c → state_of l n ≡ (spot_in n t).state
state-is l t w n c at = ap (λ o. (spot_in n (shown_after (cards_of l.schema) o)).state) w ∙ ap (λ s. s.state) (marking_of-spots (cards_of l.schema) t n c at)

-- a card's write edges ascend
edge-below : (n a : ℕ) (b : ℕ × ℕ) → key_lt (n, a) b ≡ true → eqb b.0 n ≡ true → key_lt (a, 0) (b.1, 0) ≡ true
edge-below n a b below same =
    let at : b.0 ≡ n = eqb-true b.0 n same in
    elim (lt_means (n, a) b below) [
      | inl less ↦ absurd (omega (arith, less, at))
      | inr next ↦ lt_from (a, 0) (b.1, 0) (inl next.1)
    ]

edges-above : (n a : ℕ) (ws : List (ℕ × ℕ)) → AllRows (λ w. key_lt (n, a) w ≡ true) ws → AllRows (λ m. key_lt (a, 0) (m, 0) ≡ true) (map (λ w. w.1) (filter (λ w. w.0 == n) ws))
edges-above n a [] h = tt
edges-above n a (w ∷ ws) h =
    elim (cases_Bool (eqb w.0 n)) [
      | inl here ↦ rw here (edge-below n a w h.0 here, edges-above n a ws h.1)
      | inr away ↦ rw away (edges-above n a ws h.1)
    ]

edges-ascend : (n : ℕ) (ws : List (ℕ × ℕ)) → Ascends both ws → Ascends number_key (map (λ w. w.1) (filter (λ w. w.0 == n) ws))
edges-ascend n [] h = tt
edges-ascend n (w ∷ ws) h =
    elim (cases_Bool (eqb w.0 n)) [
      | inl here ↦ rw here (edges-above n w.1 ws (subst (λ k. AllRows (λ v. key_lt (k, w.1) v ≡ true) ws) (eqb-true w.0 n here) h.0), edges-ascend n ws h.1)
      | inr away ↦ rw away (edges-ascend n ws h.1)
    ]

-- what holds of the cards of places holds of a node's card
found-card : (s : SchemaModel) (Q : Place → Type 0) (P : Card → Type 0) → ((p : Place) → Q p → P (card_of s p)) → (n : ℕ) (ps : List Place) → AllRows Q ps → (c : Card) → card_at n (map (card_of s) ps) ≡ Some c → P c
found-card s Q P all n [] placed c at = absurd (cc)
found-card s Q P all n (p ∷ ps) placed c at =
    elim (cases_Bool (eqb p.node n)) [
      | inl here ↦ let same : Some (card_of s p) ≡ Some c = rw here at at in subst P (same_Some (card_of s p) c same) (all p placed.0)
      | inr away ↦ found-card s Q P all n ps placed.1 c (rw away at at)
    ]

-- each end of a loop has the loop's start as its partner
abbrev HasPartner : Place → Type 0
HasPartner p = is_loop_end p.kind ≡ true → (k : ℕ) × (p.partner ≡ Some k)

gate-partner : (kind : Gate) (split join : ℕ) (ins outs ins' outs' : List End) → HasPartner (place split (split_kind kind) (Some join) ins outs) × HasPartner (place join (join_kind kind) (Some split) ins' outs')
gate-partner kind split join ins outs ins' outs' = ((λ h. (join, refl)), (λ h. (split, refl)))

mutual
  part-partners : (p : Part) (from : End) (to : ℕ) → AllRows HasPartner (part_places p from to)
  part-partners (act node) from to = ((λ h. absurd (both_ways _ refl h)), tt)
  part-partners (gate kind split join ls) from to =
      let ends = gate-partner kind split join (from ∷ []) (branch_heads ls join) (branch_tails ls split) (plain_end to ∷ []) in
      (ends.0, rows-append HasPartner (lanes_places ls split join) _ (lanes-partners ls split join) (ends.1, tt))
  part-partners (loop start end body) from to =
      ((λ h. (end, refl)), rows-append HasPartner (parts_places body (plain_end start) end) _ (parts-partners body (plain_end start) end) ((λ h. (start, refl)), tt))

  parts-partners : (ps : Parts) (from : End) (to : ℕ) → AllRows HasPartner (parts_places ps from to)
  parts-partners nothing from to = tt
  parts-partners (part p ps) from to = rows-append HasPartner (part_places p from (first_node ps to)) _ (part-partners p from (first_node ps to)) (parts-partners ps (plain_end (last_of p)) to)

  lanes-partners : (ls : Lanes) (split join : ℕ) → AllRows HasPartner (lanes_places ls split join)
  lanes-partners no_lane split join = tt
  lanes-partners (lane code ps ls) split join = rows-append HasPartner (parts_places ps (labelled split code) join) _ (parts-partners ps (labelled split code) join) (lanes-partners ls split join)

places-partners : (s : SchemaModel) → AllRows HasPartner (places s.start s.body s.finish)
places-partners s = ((λ h. absurd (both_ways _ refl h)), rows-append HasPartner (parts_places s.body (plain_end s.start) s.finish) _ (parts-partners s.body (plain_end s.start) s.finish) ((λ h. absurd (both_ways _ refl h)), tt))

-- so the end of a loop has its start
pub loop-partner : (s : SchemaModel) (n : ℕ) (c : Card) → card_at n (cards_of s) ≡ Some c → is_loop_end c.kind ≡ true → (m : ℕ) × (c.partner ≡ Some m)
loop-partner s n c at = found-card s HasPartner (λ k. is_loop_end k.kind ≡ true → (m : ℕ) × (k.partner ≡ Some m)) (λ p h. h) n (places s.start s.body s.finish) (places-partners s) c at

module _ (l : LiveModel) (kept : Kept l) (n user : ℕ) (c : Card) (at : card_at n (cards_of l.schema) ≡ Some c) where
  abbrev rank : List ℕ
  rank = kept.checked.rank

  is : IsRank (cards_of l.schema) rank
  is = kept.checked.ranked

  abbrev es : List (ℕ × Entry)
  es = l.trail.entries

  abbrev next : ℕ
  next = l.trail.next

  sound : Sound l.schema
  sound = is_sound l.schema kept.checked.sound

  table : (t : Spots) × (replay_of_case l ≡ whole t)
  table = table-of (replay_of_case l) kept.replays

  state-in : (x : State) → is_in_state (state_of l n) x ≡ true → is_in_state (spot_in n table.0).state x ≡ true
  state-in x h = subst (λ y. is_in_state y x ≡ true) (state-is l table.0 table.1 n c at) h

  -- one entry more that is applicable, and no Again
  kept-push : (e : Entry) → ((k : ℕ) → is_again_of k e ≡ false) → is_whole (replay_of (flat_of l.schema) (es ++ (next, e) ∷ [])) ≡ true → Kept (with_trail l (pushed e l.trail))
  kept-push e no_again replays = record {
    checked = kept.checked;
    own = kept.own;
    few = kept.few;
    replays = replays;
    rises = rises_push 1 next es e kept.rises;
    once = agains-push next e es no_again kept.once;
  }

  -- the node is activated, and what it must read is there
  ready : (roles : List ℕ) → start_refusal l c n roles ≡ None → is_in_state (state_of l n) Activated ≡ true
  ready roles none = not_false _ (no_when _ _ (no_either _ _ none).0)

  pub read-there_now : (roles : List ℕ) → start_refusal l c n roles ≡ None → AllRows (λ r. r.1 ≡ true → is_some (value_now l r.0) ≡ true) c.reads
  read-there_now roles none =
      activated-values l.schema sound.blocks sound.on_data rank is es table.0 (rises-after 0 next es kept.rises) table.1 next (last-below 0 next es kept.rises) n c at
      (state-in Activated (ready roles none))

  pub kept-start : (roles : List ℕ) → start_refusal l c n roles ≡ None → Kept (with_trail l (pushed (start_entry l c n user) l.trail))
  kept-start roles none =
      kept-push (start_entry l c n user) (λ k. refl)
      (next-whole (flat_of l.schema) es next (start_entry l c n user) kept.rises table.0 table.1
      (start-applies (flat_of l.schema) table.0 (λ d. value_below d next es) n user c at (state-in Activated (ready roles none)) (read-there_now roles none)))

  -- a node that its user may end, or give back
  module _ (none : hold_refusal l n user ≡ None) where
    pub held-running : is_in_state (state_of l n) Running ≡ true
    held-running = not_false _ (no_when _ _ (no_either _ _ none).0)

    whole_trail : WholeTrail l.schema rank es table.0
    whole_trail = whole-trail l.schema rank es table.0 is (rises-after 0 next es kept.rises) table.1

    -- its Start is the only one
    pub one-held : length (starts_of n es) ≡ 1
    one-held =
        let held = running-held l.schema rank es table.0 whole_trail n c at (state-in Running held-running) in
        one-start n es _ whole_trail.orderly held.2

    pub kept-withdrawn : Kept (with_trail l (withdrawn n l.trail))
    kept-withdrawn =
        let held = running-held l.schema rank es table.0 whole_trail n c at (state-in Running held-running) in
        let left = withdrawn-whole (flat_of l.schema) rank is es table.0 (rises-after 0 next es kept.rises) table.1 n held.3 in
        record {
          checked = kept.checked;
          own = kept.own;
          few = kept.few;
          replays = whole-is _ left.0 left.1;
          rises = rises-left n 1 next es kept.rises;
          once = agains-left n es ∙ kept.once;
        }

  module _ (writes : Written) (choice : Option ℕ) (none : end_refusal l c n user writes choice ≡ None) where
    pub ended-running : is_in_state (state_of l n) Running ≡ true
    ended-running = held-running (no_either _ _ none).0

    behind : (wrong_elements l.schema.elements c.writes writes ≡ []) × ((fits_choice c choice || repeats c choice) ≡ true)
    behind =
        let last = no_either _ _ (no_either _ _ none).1 in
        (no-wrong (wrong_elements l.schema.elements c.writes writes) last.0, not_false _ (no_when _ _ last.1))
      where
        no-wrong : (ds : List ℕ) → wrong_reply ds ≡ None → ds ≡ []
        no-wrong [] h = refl
        no-wrong (d ∷ ds) h = absurd (cc)

    pub kept-end : repeats c choice ≡ false → Kept (with_trail l (pushed (entry.End n (by_element writes) choice) l.trail))
    kept-end leaves =
        let edges = found-card l.schema (λ p. Unit {0}) (λ k. Ascends number_key k.writes) (λ p h. edges-ascend p.node l.schema.writes kept.checked.writes) n (places l.schema.start l.schema.body l.schema.finish) (all_rows (λ p. Unit {0}) (λ p. tt) (places l.schema.start l.schema.body l.schema.finish)) c at in
        let right = right-writes l.schema.elements c.writes writes edges behind.0 in
        let chosen : fits_choice c choice ≡ true = sym (or-false (fits_choice c choice)) ∙ ap (λ b. fits_choice c choice || b) (sym leaves) ∙ behind.1 in
        kept-push (entry.End n (by_element writes) choice) (λ k. refl)
        (next-whole (flat_of l.schema) es next (entry.End n (by_element writes) choice) kept.rises table.0 table.1
        (end-applies (flat_of l.schema) table.0 (λ d. value_below d next es) n (by_element writes) choice c at (state-in Running ended-running) right chosen))

    -- the end of a loop that goes on
    pub kept-repeat : repeats c choice ≡ true → Kept (with_trail l (repeated_trail l n (by_element writes)))
    kept-repeat goes_on =
        let ends : is_loop_end c.kind ≡ true = (and_parts (is_loop_end c.kind) _ goes_on).0 in
        let partner = loop-partner l.schema n c at ends in
        let regular = sound-regular l.schema sound.blocks in
        let body = loop_nodes (cards_of l.schema) n in
        let begun = running-begun l.schema rank is es table.0 (rises-after 0 next es kept.rises) table.1 next (last-below 0 next es kept.rises) n c at (state-in Running ended-running) in
        let again = repeat-whole l.schema regular rank is partner.0 n c at ends partner.1 es table.0 (rises-after 0 next es kept.rises) table.1 next (last-below 0 next es kept.rises) begun.0 begun.1 (by_element writes) in
        record {
          checked = kept.checked;
          own = kept.own;
          few = kept.few;
          replays = whole-is _ again.0 again.1;
          rises = rises_push 1 next _ (entry.Again n (by_element writes)) (rises_cut body 1 next es kept.rises);
          once = agains-repeat body n (loop-of_schema l.schema regular partner.0 n c at ends partner.1).0.has_end next (by_element writes) es kept.once;
        }

-- a case that was just created
pub kept-created : (version : VersionModel) → IsChecked version.schema → Kept (created_on version)
kept-created version checked = record { checked = checked; own = refl; few = omega arith; replays = refl; rises = omega arith; once = refl }

-- a case on another version or schema
pub kept-on_schema : (l : LiveModel) (base : VersionModel) (own : List Op) (schema : SchemaModel) → Kept l → IsChecked schema → applied base.schema own ≡ Ok schema → length own < 2 ^ 32 →
    is_whole (replay_of_case (on_schema l base own schema)) ≡ true → Kept (on_schema l base own schema)
kept-on_schema l base own schema kept checked is few replays = record { checked = checked; own = is; few = few; replays = replays; rises = kept.rises; once = kept.once }
