-- Who holds a node after an event, told by the work items from before it.
use Rattle.case_core.proofs.Common.{[], ℕ, ◌++◌, ◌==◌, ◌∙◌, ◌∷◌, ◌≡◌, ap, Ascends, ascends-listed, Bool, both_ways, Card, card_at, cards_of, cases_Bool, changed, ChangesItems, Current, cut_by, entries_with, Entry, eq-eqb, eqb, eqb-true}
use Rattle.case_core.proofs.Common.{facts_of, false, find-without, first, flat_of, held_by, held_in, holder_of, inl, inr, is_end_of, is_one_of, is_start_of, Item, item_after, item_at, item_at-changed, item_by, item_for, item_then}
use Rattle.case_core.proofs.Common.{KeepsItems, Kept, kept-item, kept-mark, List, listed, LiveModel, MakesItems, Mark, mark_now, mark_of, mark_or, mark_spot, marks_in, Moves, None, on_schema, Op, Option, option_map, position_of, pushed}
use Rattle.case_core.proofs.Common.{refl, Remarks, same_Some, SchemaModel, shown_state_of, Some, Spot, start-gone, started-kept, started_in, state_of, subst, sym, true, user_at, user_from, user_in, user_then, VersionModel, with_trail}
use Rattle.case_core.proofs.{Common.{withdrawn, without_start, worked_on, Written}, ItemLoops.{user-of_next, user-of_other}, KeptItems.held-are, Marked.{current, holder-kept, spot-marked}}
use Rattle.wsm_items.specs.declared.work_items.Item.TheVariants as item
use Rattle.wsm_marks.proofs.CutTrails.{cleared}
use Rattle.wsm_marks.specs.Loops.{Cleared}
use Rattle.wsm_schema.specs.declared.entries.Entry.TheVariants as entry
use Rattle.wsm_schema.specs.declared.states.State.TheVariants as state

-- ---- who holds a node counts where it was started and not ended
module _ (es : List (ℕ × Entry)) (next : ℕ) (e : Option Entry) (held : Option Item) (n : ℕ) (m : Mark) (told : (p : ℕ) → m.started ≡ Some p → m.ended ≡ None → user_from next e held p ≡ user_at es (Some p)) where
  same-user : m.ended ≡ None → (s : Option ℕ) → m.started ≡ s → user_then next e held s ≡ user_at es s
  same-user open_ None at = refl
  same-user open_ (Some p) at = told p at open_

  ended-card : (q : ℕ) → m.ended ≡ Some q → (o : Option Card) (u v : ℕ) → item_by o n m u ≡ item_by o n m v
  ended-card q done None u v = refl
  ended-card q done (Some c) u v =
      elim (cases_Bool (worked_on c.kind)) [
        | inl works ↦ rw (works, done) refl
        | inr silent ↦ rw silent refl
      ]

  item-same : (o : Option Card) → item_by o n m (user_then next e held m.started) ≡ item_by o n m (user_at es m.started)
  item-same o = go m.ended refl
    where
      go : (x : Option ℕ) → m.ended ≡ x → item_by o n m (user_then next e held m.started) ≡ item_by o n m (user_at es m.started)
      go None at = ap (item_by o n m) (same-user at m.started refl)
      go (Some q) at = ended-card q at o (user_then next e held m.started) (user_at es m.started)

changes-made : (cards : List Card) (es : List (ℕ × Entry)) (next : ℕ) (e : Option Entry) (old : List (ℕ × Item)) (changes : List (ℕ × Option Mark)) (taken : List (ℕ × Option Item)) → MakesItems cards next e old changes taken →
    ((n : ℕ) (m : Option Mark) → item_at n changes ≡ Some m → (p : ℕ) → (mark_or m).started ≡ Some p → (mark_or m).ended ≡ None → user_from next e (item_at n old) p ≡ user_at es (Some p)) → ChangesItems cards es changes taken
changes-made cards es next e old changes taken makes told n = makes n ∙ go (item_at n changes) refl
  where
    go : (o : Option (Option Mark)) → item_at n changes ≡ o → option_map (item_then cards next e (item_at n old) n) o ≡ option_map (item_for cards es n) o
    go None at = refl
    go (Some m) at = ap Some (item-same es next e (item_at n old) n (mark_or m) (told n m at) (card_at n cards))

-- ---- what the marks and the items of a case tell of a node that was started and not ended
user-held : (o : Option Item) (u : ℕ) → held_in o ≡ Some u → user_in o ≡ u
user-held None u h = absurd (cc)
user-held (Some (item.Offered n role)) u h = absurd (cc)
user-held (Some (item.Held n user)) u h = same_Some user u h

module _ (l : LiveModel) (kept : Kept l) where
  abbrev entries_now : List (ℕ × Entry)
  entries_now = l.trail.entries

  -- the schema has a node that was started, whose mark the trail tells
  mark-told : (n p : ℕ) → started_in (marks_in l) n ≡ Some p → (c : Card) × (card_at n (cards_of l.schema) ≡ Some c) × ((mark_or (item_at n (marks_in l))).ended ≡ position_of (is_end_of n) entries_now)
  mark-told n p started = go (card_at n (cards_of l.schema)) refl
    where
      now : Current l.schema kept.checked.rank entries_now l.trail.next (marks_in l)
      now = current l kept kept.checked.rank kept.checked.ranked (marks_in l) refl

      go : (o : Option Card) → card_at n (cards_of l.schema) ≡ o → (c : Card) × (card_at n (cards_of l.schema) ≡ Some c) × ((mark_or (item_at n (marks_in l))).ended ≡ position_of (is_end_of n) entries_now)
      go (Some c) at = (c, at, ap (λ (m : Mark). m.ended) (kept-mark l.schema kept.checked.rank entries_now l.trail.next (marks_in l) now n c at))
      go None at =
          let none : None ≡ Some p = sym (ap (λ o. (mark_or o).started) (kept-item l.schema kept.checked.rank entries_now l.trail.next (marks_in l) now n ∙ ap (λ o. listed o (mark_now l.schema kept.checked.rank entries_now n)) at)) ∙ started in
          absurd (cc)

  started-told : (n : ℕ) → started_in (marks_in l) n ≡ position_of (is_start_of n) entries_now
  started-told n = started-kept l.schema kept.checked.rank entries_now l.trail.next (marks_in l) (current l kept kept.checked.rank kept.checked.ranked (marks_in l) refl) n

  running-spot : (n p : ℕ) (c : Card) (m : Mark) → m.started ≡ Some p → m.ended ≡ None → (mark_spot c.kind n m).state ≡ state.Running
  running-spot n p c m started open_ = rw (open_, started) refl

  -- the items tell who started it
  held-user : (items : List (ℕ × Item)) → KeepsItems l items → (n p : ℕ) → position_of (is_start_of n) entries_now ≡ Some p → position_of (is_end_of n) entries_now ≡ None → user_in (item_at n items) ≡ user_at entries_now (Some p)
  held-user items keeps n p start_ end_ =
      let started : started_in (marks_in l) n ≡ Some p = started-told n ∙ start_ in
      let found = mark-told n p started in
      let running : state_of l n ≡ state.Running =
      sym (ap (λ (s : Spot). s.state) (spot-marked l kept (marks_in l) refl n found.0 found.1)) ∙ running-spot n p found.0 (mark_or (item_at n (marks_in l))) started (found.2 ∙ end_) in
      let holder : held_in (item_at n items) ≡ Some (holder_of l n) =
      held-are l kept items keeps n ∙ ap (λ o. held_by l n (shown_state_of l n o)) found.1 ∙ ap (λ s. held_by l n (Some s)) running in
      user-held (item_at n items) (holder_of l n) holder ∙ sym (holder-kept l kept (marks_in l) refl n) ∙ ap (user_at entries_now) started

-- ---- changes that make the marks of a case those of another
module _ (l m : LiveModel) (after : Kept m) (changes : List (ℕ × Option Mark)) (up : Ascends first changes) (becomes : changed changes (marks_in l) ≡ marks_in m) where
  told-after : (es : List (ℕ × Entry)) (next : ℕ) (e : Option Entry) (old : List (ℕ × Item)) →
      ((n p : ℕ) → position_of (is_start_of n) m.trail.entries ≡ Some p → position_of (is_end_of n) m.trail.entries ≡ None → user_from next e (item_at n old) p ≡ user_at es (Some p)) →
      (n : ℕ) (x : Option Mark) → item_at n changes ≡ Some x → (p : ℕ) → (mark_or x).started ≡ Some p → (mark_or x).ended ≡ None → user_from next e (item_at n old) p ≡ user_at es (Some p)
  told-after es next e old back n x at p started open_ =
      let mark : item_at n (marks_in m) ≡ x =
      ap (item_at n) (sym becomes) ∙ item_at-changed n changes (marks_in l) up (ascends-listed (mark_of (flat_of l.schema) l.trail.entries) (cards_of l.schema)) ∙ ap (λ c. item_after c (item_at n (marks_in l))) at in
      let begun : started_in (marks_in m) n ≡ Some p = ap (λ o. (mark_or o).started) mark ∙ started in
      let found = mark-told m after n p begun in
      back n p (sym (started-told m after n) ∙ begun) (sym found.2 ∙ ap (λ o. (mark_or o).ended) mark ∙ open_)

-- ---- one entry more
position-before : (test : Entry → Bool) (es : List (ℕ × Entry)) (q : ℕ) (e : Entry) (p : ℕ) → position_of test (es ++ (q, e) ∷ []) ≡ Some p → (p == q) ≡ false → position_of test es ≡ Some p
position-before test [] q e p at away =
    elim (cases_Bool (test e)) [
      | inl it ↦ let same : q ≡ p = same_Some q p (rw it at at) in absurd (both_ways _ away (eq-eqb p q (sym same)))
      | inr other ↦ rw other at at
    ]
position-before test (x ∷ xs) q e p at away =
    elim (cases_Bool (test x.1)) [
      | inl it ↦ rw it (rw it at at)
      | inr other ↦ rw other (position-before test xs q e p (rw other at at) away)
    ]

none-before : (test : Entry → Bool) (es ys : List (ℕ × Entry)) → position_of test (es ++ ys) ≡ None → position_of test es ≡ None
none-before test [] ys at = refl
none-before test (x ∷ xs) ys at =
    elim (cases_Bool (test x.1)) [
      | inl it ↦ let q : Some x.0 ≡ None = rw it at at in absurd (cc)
      | inr other ↦ rw other (none-before test xs ys (rw other at at))
    ]

module _ (l : LiveModel) (kept : Kept l) (old : List (ℕ × Item)) (keeps : KeepsItems l old) where
  -- who comes next, or who held the node before
  next-user : (e : Entry) (n p : ℕ) → ((p == l.trail.next) ≡ false → position_of (is_start_of n) l.trail.entries ≡ Some p) → position_of (is_end_of n) l.trail.entries ≡ None →
      user_from l.trail.next (Some e) (item_at n old) p ≡ user_at (entries_with l.trail (Some e)) (Some p)
  next-user e n p start_ end_ =
      elim (cases_Bool (p == l.trail.next)) [
        | inl here ↦ rw here (user-of_next l.trail e p kept.rises (eqb-true p l.trail.next here))
        | inr away ↦
            rw away (
            held-user l kept old keeps n p (start_ away) end_
            ∙ user-of_other l.trail e p (λ same. both_ways _ away (eq-eqb p l.trail.next same)))
      ]

  pub pushed-made : (e : Entry) → Kept (with_trail l (pushed e l.trail)) → (changes : List (ℕ × Option Mark)) → Ascends first changes → Remarks l (pushed e l.trail) changes → (next : ℕ) → next ≡ l.trail.next → (taken : List (ℕ × Option Item)) →
      MakesItems (cards_of l.schema) next (Some e) old changes taken → ChangesItems (cards_of l.schema) (entries_with l.trail (Some e)) changes taken
  pushed-made e after changes up remarks next next_is taken makes =
      changes-made (cards_of l.schema) (entries_with l.trail (Some e)) l.trail.next (Some e) old changes taken
      (subst (λ q. MakesItems (cards_of l.schema) q (Some e) old changes taken) next_is makes)
      (told-after l (with_trail l (pushed e l.trail)) after changes up remarks (entries_with l.trail (Some e)) l.trail.next (Some e) old
      (λ n p started open_. next-user e n p (position-before (is_start_of n) l.trail.entries l.trail.next e p started) (none-before (is_end_of n) l.trail.entries ((l.trail.next, e) ∷ []) open_)))

  -- a loop that goes on
  again-back : (body : List ℕ) (node : ℕ) (writes : Written) (n p : ℕ) → position_of (is_start_of n) (pushed (entry.Again node writes) (cut_by body l.trail)).entries ≡ Some p →
      position_of (is_end_of n) (pushed (entry.Again node writes) (cut_by body l.trail)).entries ≡ None → (position_of (is_start_of n) l.trail.entries ≡ Some p) × (position_of (is_end_of n) l.trail.entries ≡ None)
  again-back body node writes n p started open_ =
      let facts : Cleared body (facts_of l.trail.entries) (facts_of (pushed (entry.Again node writes) (cut_by body l.trail)).entries) = cleared body l.trail.entries l.trail.next node writes in
      elim (cases_Bool (is_one_of n body)) [
        | inl inside ↦ let q : None ≡ Some p = sym (facts.no_start n inside) ∙ started in absurd (cc)
        | inr out ↦ (sym (facts.started n out) ∙ started, sym (facts.ended n out) ∙ open_)
      ]

  pub again-made : (body : List ℕ) (node : ℕ) (writes : Written) → Kept (with_trail l (pushed (entry.Again node writes) (cut_by body l.trail))) → (changes : List (ℕ × Option Mark)) → Ascends first changes → Remarks l (pushed (entry.Again node writes) (cut_by body l.trail)) changes →
      (next : ℕ) → next ≡ l.trail.next → (taken : List (ℕ × Option Item)) →
      MakesItems (cards_of l.schema) next (Some (entry.Again node writes)) old changes taken → ChangesItems (cards_of l.schema) (entries_with l.trail (Some (entry.Again node writes))) changes taken
  again-made body node writes after changes up remarks next next_is taken makes =
      let e : Entry = entry.Again node writes in
      changes-made (cards_of l.schema) (entries_with l.trail (Some e)) l.trail.next (Some e) old changes taken
      (subst (λ q. MakesItems (cards_of l.schema) q (Some e) old changes taken) next_is makes)
      (told-after l (with_trail l (pushed e (cut_by body l.trail))) after changes up remarks (entries_with l.trail (Some e)) l.trail.next (Some e) old
      (λ n p started open_. let back = again-back body node writes n p started open_ in next-user e n p (λ away. back.0) back.1))

  -- a node that is given back
  no-end : (k n : ℕ) (x : Entry) → is_start_of k x ≡ true → is_end_of n x ≡ false
  no-end k n (entry.Start node user reads) h = refl
  no-end k n (entry.End node writes choice) h = absurd (both_ways _ refl h)
  no-end k n (entry.Again node writes) h = absurd (both_ways _ refl h)
  no-end k n (entry.Wrote writes) h = absurd (both_ways _ refl h)

  no-start : (k n : ℕ) → eqb k n ≡ false → (x : Entry) → is_start_of k x ≡ true → is_start_of n x ≡ false
  no-start k n away (entry.Start node user reads) h = ap (λ j. eqb j n) (eqb-true node k h) ∙ away
  no-start k n away (entry.End node writes choice) h = refl
  no-start k n away (entry.Again node writes) h = refl
  no-start k n away (entry.Wrote writes) h = refl

  left-back : (node n p : ℕ) → position_of (is_start_of n) (without_start node l.trail.entries) ≡ Some p → position_of (is_end_of n) (without_start node l.trail.entries) ≡ None →
      (position_of (is_start_of n) l.trail.entries ≡ Some p) × (position_of (is_end_of n) l.trail.entries ≡ None)
  left-back node n p started open_ =
      let end_ : position_of (is_end_of n) l.trail.entries ≡ None = sym (ap (option_map (λ (x : ℕ × Entry). x.0)) (find-without node (is_end_of n) (no-end node n) l.trail.entries)) ∙ open_ in
      elim (cases_Bool (eqb node n)) [
        | inl same ↦
            let gone : position_of (is_start_of n) (without_start node l.trail.entries) ≡ None =
            ap (λ k. position_of (is_start_of k) (without_start node l.trail.entries)) (sym (eqb-true node n same)) ∙ ap (option_map (λ (x : ℕ × Entry). x.0)) (start-gone node l.trail.entries) in
            let q : None ≡ Some p = sym gone ∙ started in
            absurd (cc)
        | inr away ↦ (sym (ap (option_map (λ (x : ℕ × Entry). x.0)) (find-without node (is_start_of n) (no-start node n away) l.trail.entries)) ∙ started, end_)
      ]

  pub left-made : (node : ℕ) → Kept (with_trail l (withdrawn node l.trail)) → (changes : List (ℕ × Option Mark)) → Ascends first changes → Remarks l (withdrawn node l.trail) changes → (next : ℕ) (taken : List (ℕ × Option Item)) →
      MakesItems (cards_of l.schema) next None old changes taken → ChangesItems (cards_of l.schema) (entries_with l.trail None) changes taken
  left-made node after changes up remarks next taken makes =
      changes-made (cards_of l.schema) l.trail.entries next None old changes taken makes
      (told-after l (with_trail l (withdrawn node l.trail)) after changes up remarks l.trail.entries next None old
      (λ n p started open_. let back = left-back node n p started open_ in held-user l kept old keeps n p back.0 back.1))

  -- another schema
  pub moved-made : (base : VersionModel) (own : List Op) (s : SchemaModel) → Kept (on_schema l base own s) → (changes : List (ℕ × Option Mark)) → Ascends first changes → Moves l s changes → (next : ℕ) (taken : List (ℕ × Option Item)) →
      MakesItems (cards_of s) next None old changes taken → ChangesItems (cards_of s) l.trail.entries changes taken
  moved-made base own s after changes up moves next taken makes =
      changes-made (cards_of s) l.trail.entries next None old changes taken makes
      (told-after l (on_schema l base own s) after changes up moves.marks l.trail.entries next None old
      (λ n p started open_. held-user l kept old keeps n p started open_))
