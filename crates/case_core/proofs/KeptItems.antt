-- What the kept work items of a case tell, and what events make of them.
use Rattle.case_core.proofs.Common.{[], ℕ, ◌++◌, ◌+◌, ◌<◌, ◌==◌, ◌∙◌, ◌∷◌, ◌≡◌, all-rows-map, AllRows, ap, arith, Ascends, ascends-listed, Bool, both_ways, Card, card_at, card_at-node, cards_of, cases_Bool, ChangesItems, cons_option}
use Rattle.case_core.proofs.Common.{cut_by, cut_entry, entries_with, Entry, entry_at, eq-eqb, eqb, false, filter_map, find, first, flat_map, flat_of, found-row, held_by, held_in, hold_refusal, holder_of, HolderStarted, inl, inr}
use Rattle.case_core.proofs.Common.{is_in_state, is_one_of, is_start_of, Item, item_after, item_at, item_at-changed, item_by, item_for, item_in, item_of, items_at, items_in, items_of, KeepsItems, Kept, key_lt, List, list_any, LiveModel}
use Rattle.case_core.proofs.Common.{lt_number, ltb-true, Mark, mark_of, mark_or, marks_in, ne_eqb, None, Option, option_map, option_or, pushed, refl, Remarks, rises-after, rises-ascends, rises_push, rows-append, rows-parts, running-held}
use Rattle.case_core.proofs.Common.{same_Some, shown_holder, shown_spots, shown_state_of, Some, Spot, spot_in, start-found, started_in, State, state_of, subst, sym, TellsItems, TrailModel, true, user_at, user_of, when_reply, whole-trail}
use Rattle.case_core.proofs.{Common.{WholeTrail, with_trail, withdrawn, work_item, worked_on, Written, wrote}, ItemRows.{flat_map-rows, items-kept, no-item, none-any}, Keeping.state-is, Marked.{current, holder-kept, spot-marked, spot-none}}
use Rattle.case_core.proofs.{Marked.table, TrailFacts.running-started}
use Rattle.std.specs.Prelude.{not, filter}
use Rattle.case_core.specs.declared.replies.Reply.TheVariants as reply
use Rattle.wsm_items.specs.WorkItems.{items_in as listed_items}
use Rattle.wsm_items.specs.declared.work_items.Item.TheVariants as item
use Rattle.wsm_schema.specs.declared.entries.Entry.TheVariants as entry
use Rattle.wsm_schema.specs.declared.states.State.TheVariants as state

-- ---- rows that ascend are found by their numbers
rows-found : {A : Type 0} (xs : List (ℕ × A)) → Ascends first xs → AllRows (λ r. item_at r.0 xs ≡ Some r.1) xs
rows-found [] up = tt
rows-found {A} (x ∷ xs) up = (rw (eq-eqb x.0 x.0 refl) refl, behind xs up.0 (rows-found xs up.1))
  where
    behind : (ys : List (ℕ × A)) → AllRows (λ r. key_lt (first x) (first r) ≡ true) ys → AllRows (λ r. item_at r.0 xs ≡ Some r.1) ys → AllRows (λ r. item_at r.0 (x ∷ xs) ≡ Some r.1) ys
    behind [] above found = tt
    behind (y ∷ ys) above found =
        let less : x.0 < y.0 = ltb-true x.0 y.0 (sym (lt_number x.0 y.0) ∙ above.0) in
        let apart : eqb x.0 y.0 ≡ false = ne_eqb x.0 y.0 (omega (arith, less)) in
        (rw apart found.0, behind ys above.1 found.1)

-- what is found is found with more behind it
found-ahead : {A : Type 0} (p : ℕ) (xs ys : List (ℕ × A)) (a : A) → item_at p xs ≡ Some a → item_at p (xs ++ ys) ≡ Some a
found-ahead p [] ys a h = absurd (cc)
found-ahead p (x ∷ xs) ys a h =
    elim (cases_Bool (eqb x.0 p)) [
      | inl here ↦ rw here (rw here at h)
      | inr away ↦ rw away (found-ahead p xs ys a (rw away at h))
    ]

-- ---- the item of a node is what the case shows of it
module _ (l : LiveModel) (kept : Kept l) where
  abbrev cards : List Card
  cards = cards_of l.schema

  abbrev entries_now : List (ℕ × Entry)
  entries_now = l.trail.entries

  abbrev kept_marks : List (ℕ × Mark)
  kept_marks = marks_in l

  in-state : (n : ℕ) (c : Card) → c.node ≡ n → (s : State) → items_in (work_item n c.role s (holder_of l n)) ≡ item_in l c s
  in-state n c named state.NotActivated = refl
  in-state n c named state.Activated = ap (λ k. item.Offered k c.role ∷ []) (sym named)
  in-state n c named state.Running = ap (λ k. item.Held k (holder_of l k) ∷ []) (sym named)
  in-state n c named state.Completed = refl
  in-state n c named state.Skipped = refl

  by-card : (n : ℕ) (o : Option Card) → card_at n cards ≡ o →
      items_in (item_by o n (mark_or (item_at n kept_marks)) (user_at entries_now (started_in kept_marks n))) ≡ item_of l (spot_in n (shown_spots l)) o
  by-card n None at = refl
  by-card n (Some c) at =
      let spot = ap (λ (s : Spot). s.state) (spot-marked l kept kept_marks refl n c at) in
      let user = holder-kept l kept kept_marks refl n in
      elim (cases_Bool (worked_on c.kind)) [
        | inl works ↦
            rw works (
            ap (λ s. items_in (work_item n c.role s (user_at entries_now (started_in kept_marks n)))) spot
            ∙ ap (λ u. items_in (work_item n c.role (spot_in n (shown_spots l)).state u)) user
            ∙ in-state n c (card_at-node n cards c at) (spot_in n (shown_spots l)).state)
        | inr silent ↦ rw silent refl
      ]

  told-at : (n : ℕ) → items_in (item_for cards entries_now n (item_at n kept_marks)) ≡ items_at l n
  told-at n = by-card n (card_at n cards) refl

  module _ (items : List (ℕ × Item)) (keeps : KeepsItems l items) where
    at-node : (n : ℕ) → items_in (item_at n items) ≡ items_at l n
    at-node n = ap items_in (keeps n) ∙ told-at n

    not-kept : (n : ℕ) → list_any (λ (r : ℕ × Item). eqb r.0 n) items ≡ false → items_at l n ≡ []
    not-kept n none = sym (at-node n) ∙ ap items_in (no-item n items (none-any (λ (r : ℕ × Item). eqb r.0 n) items none))

    one-each : (rs : List (ℕ × Item)) → flat_map (λ (r : ℕ × Item). r.1 ∷ []) rs ≡ listed_items rs
    one-each [] = refl
    one-each (r ∷ rs) = ap (λ is. r.1 ∷ is) (one-each rs)

    -- the kept items are those that are shown
    pub items-are : Ascends first items → listed_items items ≡ items_of l
    items-are up =
        sym (one-each items)
        ∙ sym (flat_map-rows (λ (r : ℕ × Item). items_at l r.0) (λ (r : ℕ × Item). r.1 ∷ []) items
        (all-rows-map (λ (r : ℕ × Item). item_at r.0 items ≡ Some r.1) (λ (r : ℕ × Item). items_at l r.0 ≡ r.1 ∷ []) (λ r found. sym (at-node r.0) ∙ ap items_in found) items (rows-found items up)))
        ∙ sym (items-kept l kept items up not-kept)

    -- ---- who holds a node
    trail : WholeTrail l.schema kept.checked.rank entries_now (table l kept).0
    trail = whole-trail l.schema kept.checked.rank entries_now (table l kept).0 kept.checked.ranked (rises-after 0 l.trail.next entries_now kept.rises) (table l kept).1

    work-held : (n role : ℕ) (s : State) → held_in (work_item n role s (holder_of l n)) ≡ held_by l n (Some s)
    work-held n role state.NotActivated = refl
    work-held n role state.Activated = refl
    work-held n role state.Running = refl
    work-held n role state.Completed = refl
    work-held n role state.Skipped = refl

    not-held : (n : ℕ) (s : State) → is_in_state s state.Running ≡ false → None ≡ held_by l n (Some s)
    not-held n state.NotActivated h = refl
    not-held n state.Activated h = refl
    not-held n state.Running h = absurd (both_ways _ h refl)
    not-held n state.Completed h = refl
    not-held n state.Skipped h = refl

    -- a node that is not worked on is not running
    silent-idle : (n : ℕ) (c : Card) → card_at n cards ≡ Some c → worked_on c.kind ≡ false → is_in_state (state_of l n) state.Running ≡ false
    silent-idle n c at silent =
        elim (cases_Bool (is_in_state (state_of l n) state.Running)) [
          | inl running ↦
              let there = subst (λ x. is_in_state x state.Running ≡ true) (state-is l (table l kept).0 (table l kept).1 n c at) running in
              absurd (both_ways _ silent (running-held l.schema kept.checked.rank entries_now (table l kept).0 trail n c at there).0)
          | inr idle ↦ idle
        ]

    held-card : (n : ℕ) (o : Option Card) → card_at n cards ≡ o → held_in (item_by o n (mark_or (item_at n kept_marks)) (user_at entries_now (started_in kept_marks n))) ≡ held_by l n (shown_state_of l n o)
    held-card n None at = refl
    held-card n (Some c) at =
        let spot = ap (λ (s : Spot). s.state) (spot-marked l kept kept_marks refl n c at) in
        let user = holder-kept l kept kept_marks refl n in
        elim (cases_Bool (worked_on c.kind)) [
          | inl works ↦
              rw works (
              ap (λ s. held_in (work_item n c.role s (user_at entries_now (started_in kept_marks n)))) spot
              ∙ ap (λ u. held_in (work_item n c.role (spot_in n (shown_spots l)).state u)) user
              ∙ work-held n c.role (spot_in n (shown_spots l)).state)
          | inr silent ↦ rw silent (not-held n (state_of l n) (silent-idle n c at silent))
        ]

    pub held-are : (n : ℕ) → held_in (item_at n items) ≡ shown_holder (Some l) n
    held-are n = ap held_in (keeps n) ∙ held-card n (card_at n cards) refl

  -- who holds a node started it
  started-state : (n : ℕ) (s : State) → state_of l n ≡ s → HolderStarted (Some l) n (held_by l n (Some s))
  started-state n state.NotActivated h = tt
  started-state n state.Activated h = tt
  started-state n state.Running h = running-started l kept n (ap (λ x. is_in_state x state.Running) h)
  started-state n state.Completed h = tt
  started-state n state.Skipped h = tt

  started-card : (n : ℕ) (o : Option Card) → HolderStarted (Some l) n (held_by l n (shown_state_of l n o))
  started-card n None = tt
  started-card n (Some c) = started-state n (state_of l n) refl

  pub holder-started : (n : ℕ) → HolderStarted (Some l) n (shown_holder (Some l) n)
  holder-started n = started-card n (card_at n cards)

  -- ---- who has a node in hand
  idle-state : (n : ℕ) (s : State) → held_by l n (Some s) ≡ None → is_in_state s state.Running ≡ false
  idle-state n state.NotActivated h = refl
  idle-state n state.Activated h = refl
  idle-state n state.Running h = absurd (cc)
  idle-state n state.Completed h = refl
  idle-state n state.Skipped h = refl

  idle-card : (n : ℕ) (o : Option Card) → card_at n cards ≡ o → held_by l n (shown_state_of l n o) ≡ None → is_in_state (state_of l n) state.Running ≡ false
  idle-card n None at h = ap (λ (s : Spot). is_in_state s.state state.Running) (sym (spot-none l kept n at))
  idle-card n (Some c) at h = idle-state n (state_of l n) h

  pub none-holds : (n user : ℕ) → shown_holder (Some l) n ≡ None → Some (reply.NotRunning (state_of l n)) ≡ hold_refusal l n user
  none-holds n user h =
      ap (λ b. option_or (when_reply (not b) (reply.NotRunning (state_of l n))) (when_reply (not (holder_of l n == user)) (reply.NotHolder (holder_of l n)))) (sym (idle-card n (card_at n cards) refl h))

  running-state : (n u : ℕ) (s : State) → held_by l n (Some s) ≡ Some u → (is_in_state s state.Running ≡ true) × (holder_of l n ≡ u)
  running-state n u state.NotActivated h = absurd (cc)
  running-state n u state.Activated h = absurd (cc)
  running-state n u state.Running h = (refl, same_Some (holder_of l n) u h)
  running-state n u state.Completed h = absurd (cc)
  running-state n u state.Skipped h = absurd (cc)

  running-card : (n u : ℕ) (o : Option Card) → held_by l n (shown_state_of l n o) ≡ Some u → (is_in_state (state_of l n) state.Running ≡ true) × (holder_of l n ≡ u)
  running-card n u None h = absurd (cc)
  running-card n u (Some c) h = running-state n u (state_of l n) h

  pub some-holds : (n user u : ℕ) → shown_holder (Some l) n ≡ Some u → when_reply (not (u == user)) (reply.NotHolder u) ≡ hold_refusal l n user
  some-holds n user u h =
      let r = running-card n u (card_at n cards) h in
      ap (λ h. when_reply (not (h == user)) (reply.NotHolder h)) (sym r.1)
      ∙ ap (λ b. option_or (when_reply (not b) (reply.NotRunning (state_of l n))) (when_reply (not (holder_of l n == user)) (reply.NotHolder (holder_of l n)))) (sym r.0)

-- ---- what an event makes of the items
module _ (l : LiveModel) (kept : Kept l) (t : TrailModel) (after : Kept (with_trail l t)) where
  abbrev case_cards : List Card
  case_cards = cards_of l.schema

  abbrev m : LiveModel
  m = with_trail l t

  -- each node that is started then was started by whom these entries say
  abbrev SaysUsers : List (ℕ × Entry) → Type 0
  SaysUsers es = (n p : ℕ) → started_in (marks_in m) n ≡ Some p → user_at t.entries (Some p) ≡ user_at es (Some p)

  -- and each that is started now
  abbrev KeepsUsers : List (ℕ × Entry) → Type 0
  KeepsUsers es = (n p : ℕ) → started_in (marks_in l) n ≡ Some p → user_at es (Some p) ≡ user_at l.trail.entries (Some p)

  said : (es : List (ℕ × Entry)) → SaysUsers es → (n : ℕ) (o : Option ℕ) → started_in (marks_in m) n ≡ o → user_at t.entries o ≡ user_at es o
  said es says n None at = refl
  said es says n (Some p) at = says n p at

  stayed : (es : List (ℕ × Entry)) → KeepsUsers es → (n : ℕ) (o : Option ℕ) → started_in (marks_in l) n ≡ o → user_at es o ≡ user_at l.trail.entries o
  stayed es keeps n None at = refl
  stayed es keeps n (Some p) at = keeps n p at

  items-then : (es : List (ℕ × Entry)) → SaysUsers es → KeepsUsers es → (changes : List (ℕ × Option Mark)) → Ascends first changes → Remarks l t changes →
      (old now : List (ℕ × Item)) (taken : List (ℕ × Option Item)) → KeepsItems l old → ChangesItems case_cards es changes taken →
      ((n : ℕ) → item_at n now ≡ item_after (item_at n taken) (item_at n old)) → KeepsItems m now
  items-then es says stays changes up remarks old now taken keeps changed_so taken_in n = go (item_at n changes) refl
    where
      marks : item_at n (marks_in m) ≡ item_after (item_at n changes) (item_at n (marks_in l))
      marks = ap (item_at n) (sym remarks) ∙ item_at-changed n changes (marks_in l) up (ascends-listed (mark_of (flat_of l.schema) l.trail.entries) case_cards)

      go : (o : Option (Option Mark)) → item_at n changes ≡ o → item_at n now ≡ item_for case_cards t.entries n (item_at n (marks_in m))
      go (Some x) at =
          let mark : item_at n (marks_in m) ≡ x = marks ∙ ap (λ c. item_after c (item_at n (marks_in l))) at in
          let user = said es says n (mark_or x).started (ap (λ o. (mark_or o).started) mark) in
          taken_in n
          ∙ ap (λ i. item_after i (item_at n old)) (changed_so n ∙ ap (option_map (item_for case_cards es n)) at)
          ∙ ap (item_by (card_at n case_cards) n (mark_or x)) (sym user)
          ∙ ap (item_for case_cards t.entries n) (sym mark)
      go None at =
          let k : Option Mark = item_at n (marks_in l) in
          let mark : item_at n (marks_in m) ≡ k = marks ∙ ap (λ c. item_after c k) at in
          let user = said es says n (mark_or k).started (ap (λ o. (mark_or o).started) mark) in
          let before = stayed es stays n (mark_or k).started refl in
          taken_in n
          ∙ ap (λ i. item_after i (item_at n old)) (changed_so n ∙ ap (option_map (item_for case_cards es n)) at)
          ∙ keeps n
          ∙ ap (item_by (card_at n case_cards) n (mark_or k)) (sym before ∙ sym user)
          ∙ ap (item_for case_cards t.entries n) (sym mark)

  -- ---- who started a node
  here : (n p : ℕ) → started_in (marks_in l) n ≡ Some p → (x : Entry) × (find (λ e. is_start_of n e.1) l.trail.entries ≡ Some (p, x)) × (entry_at p l.trail.entries ≡ Some x)
  here n p at = start-found l.schema kept.checked.rank l.trail.entries l.trail.next (marks_in l) (current l kept kept.checked.rank kept.checked.ranked (marks_in l) refl) n p at

  there : (n p : ℕ) → started_in (marks_in m) n ≡ Some p → (x : Entry) × (find (λ e. is_start_of n e.1) t.entries ≡ Some (p, x)) × (entry_at p t.entries ≡ Some x)
  there n p at = start-found l.schema after.checked.rank t.entries t.next (marks_in m) (current m after after.checked.rank after.checked.ranked (marks_in m) refl) n p at

  keeps-users : (ys : List (ℕ × Entry)) → KeepsUsers (l.trail.entries ++ ys)
  keeps-users ys n p at =
      let f = here n p at in
      ap (λ o. user_of (option_map (λ x. (p, x)) o)) (found-ahead p l.trail.entries ys f.0 f.2 ∙ sym f.2)

  -- where each Start of the new trail stands in these entries
  says-users : (es : List (ℕ × Entry)) → ((n : ℕ) → AllRows (λ r. is_start_of n r.1 ≡ true → entry_at r.0 es ≡ Some r.1) t.entries) → SaysUsers es
  says-users es stand n p at =
      let f = there n p at in
      let row = found-row (λ r. is_start_of n r.1 ≡ true → entry_at r.0 es ≡ Some r.1) (is_start_of n) t.entries (p, f.0) (stand n) f.1 in
      ap (λ o. user_of (option_map (λ x. (p, x)) o)) (f.2 ∙ sym (row.0 row.1))

-- one entry more
pub pushed-items : (l : LiveModel) → Kept l → (e : Entry) → Kept (with_trail l (pushed e l.trail)) → (changes : List (ℕ × Option Mark)) → Ascends first changes → Remarks l (pushed e l.trail) changes →
    (old now : List (ℕ × Item)) (taken : List (ℕ × Option Item)) → KeepsItems l old → ChangesItems (cards_of l.schema) (entries_with l.trail (Some e)) changes taken →
    ((n : ℕ) → item_at n now ≡ item_after (item_at n taken) (item_at n old)) → KeepsItems (with_trail l (pushed e l.trail)) now
pushed-items l kept e after = items-then l kept (pushed e l.trail) after (pushed e l.trail).entries (λ n p at. refl) (keeps-users l kept (pushed e l.trail) after ((l.trail.next, e) ∷ []))

-- ---- a loop that goes on
module _ (n : ℕ) (full : List (ℕ × Entry)) where
  abbrev Stands : ℕ × Entry → Type 0
  Stands r = is_start_of n r.1 ≡ true → entry_at r.0 full ≡ Some r.1

  wrote-stands : (p : ℕ) (ws : Written) (rest : List (ℕ × Entry)) → AllRows Stands rest → AllRows Stands (cons_option (wrote p ws) rest)
  wrote-stands p [] rest h = h
  wrote-stands p (w ∷ ws) rest h = ((λ it. absurd (both_ways _ refl it)), h)

  cut-stands : (body : List ℕ) (es : List (ℕ × Entry)) → AllRows (λ r. entry_at r.0 full ≡ Some r.1) es → AllRows Stands (filter_map (λ e. cut_entry body e.0 e.1) es)
  cut-stands body [] h = tt
  cut-stands body ((p, entry.Start node user reads) ∷ es) h =
      elim (cases_Bool (is_one_of node body)) [
        | inl gone ↦ rw gone (cut-stands body es h.1)
        | inr stays ↦ rw stays ((λ it. h.0), cut-stands body es h.1)
      ]
  cut-stands body ((p, entry.End node writes choice) ∷ es) h =
      elim (cases_Bool (is_one_of node body)) [
        | inl gone ↦ rw gone (wrote-stands p writes _ (cut-stands body es h.1))
        | inr stays ↦ rw stays ((λ it. h.0), cut-stands body es h.1)
      ]
  cut-stands body ((p, entry.Again node writes) ∷ es) h =
      elim (cases_Bool (is_one_of node body)) [
        | inl gone ↦ rw gone (wrote-stands p writes _ (cut-stands body es h.1))
        | inr stays ↦ rw stays ((λ it. h.0), cut-stands body es h.1)
      ]
  cut-stands body ((p, entry.Wrote writes) ∷ es) h = ((λ it. h.0), cut-stands body es h.1)

  left-stands : (test : ℕ × Entry → Bool) (es : List (ℕ × Entry)) → AllRows (λ r. entry_at r.0 full ≡ Some r.1) es → AllRows Stands (filter test es)
  left-stands test [] h = tt
  left-stands test (e ∷ es) h =
      elim (cases_Bool (test e)) [
        | inl stays ↦ rw stays ((λ it. h.0), left-stands test es h.1)
        | inr gone ↦ rw gone (left-stands test es h.1)
      ]

pub cut-items : (l : LiveModel) → Kept l → (body : List ℕ) (e : Entry) → Kept (with_trail l (pushed e (cut_by body l.trail))) → (changes : List (ℕ × Option Mark)) → Ascends first changes → Remarks l (pushed e (cut_by body l.trail)) changes →
    (old now : List (ℕ × Item)) (taken : List (ℕ × Option Item)) → KeepsItems l old → ChangesItems (cards_of l.schema) (entries_with l.trail (Some e)) changes taken →
    ((n : ℕ) → item_at n now ≡ item_after (item_at n taken) (item_at n old)) → KeepsItems (with_trail l (pushed e (cut_by body l.trail))) now
cut-items l kept body e after =
    items-then l kept t after full (says-users l kept t after full stand) (keeps-users l kept t after ((l.trail.next, e) ∷ []))
  where
    t : TrailModel
    t = pushed e (cut_by body l.trail)

    full : List (ℕ × Entry)
    full = (pushed e l.trail).entries

    found : AllRows (λ (r : ℕ × Entry). entry_at r.0 full ≡ Some r.1) l.trail.entries × AllRows (λ (r : ℕ × Entry). entry_at r.0 full ≡ Some r.1) ((l.trail.next, e) ∷ [])
    found =
        rows-parts (λ (r : ℕ × Entry). entry_at r.0 full ≡ Some r.1) l.trail.entries ((l.trail.next, e) ∷ [])
        (rows-found full (rises-ascends 1 (l.trail.next + 1) full (rises_push 1 l.trail.next l.trail.entries e kept.rises)))

    stand : (n : ℕ) → AllRows (Stands n full) t.entries
    stand n =
        rows-append (Stands n full) (filter_map (λ e. cut_entry body e.0 e.1) l.trail.entries) ((l.trail.next, e) ∷ [])
        (cut-stands n full body l.trail.entries found.0) ((λ it. found.1.0), tt)

-- ---- a node that is given back
pub left-items : (l : LiveModel) → Kept l → (node : ℕ) → Kept (with_trail l (withdrawn node l.trail)) → (changes : List (ℕ × Option Mark)) → Ascends first changes → Remarks l (withdrawn node l.trail) changes →
    (old now : List (ℕ × Item)) (taken : List (ℕ × Option Item)) → KeepsItems l old → ChangesItems (cards_of l.schema) (entries_with l.trail None) changes taken →
    ((n : ℕ) → item_at n now ≡ item_after (item_at n taken) (item_at n old)) → KeepsItems (with_trail l (withdrawn node l.trail)) now
left-items l kept node after =
    items-then l kept (withdrawn node l.trail) after l.trail.entries
    (says-users l kept (withdrawn node l.trail) after l.trail.entries
    (λ n. left-stands n l.trail.entries (λ e. not (is_start_of node e.1)) l.trail.entries (rows-found l.trail.entries (rises-ascends 1 l.trail.next l.trail.entries kept.rises))))
    (λ n p at. refl)

-- ---- the items of a case, however it is written
pub keeps-of : (k l : LiveModel) → k ≡ l → (rows : List (ℕ × Mark)) → rows ≡ marks_in k → (items : List (ℕ × Item)) → TellsItems (cards_of k.schema) k.trail.entries rows items → KeepsItems l items
keeps-of k l same rows are items tells =
    subst (λ (x : LiveModel). KeepsItems x items) same (subst (λ (rs : List (ℕ × Mark)). TellsItems (cards_of k.schema) k.trail.entries rs items) are tells)

pub told-of : (l m : LiveModel) → m ≡ l → (rows : List (ℕ × Mark)) → rows ≡ marks_in m → (items : List (ℕ × Item)) → KeepsItems l items → TellsItems (cards_of m.schema) m.trail.entries rows items
told-of l m same rows are items keeps =
    subst (λ (rs : List (ℕ × Mark)). TellsItems (cards_of m.schema) m.trail.entries rs items) (sym are) (subst (λ (x : LiveModel). KeepsItems x items) (sym same) keeps)
