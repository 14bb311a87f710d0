-- Work items that are made while rows are gone over.
use Rattle.case_core.proofs.Common.{[], ℕ, ◌++◌, ◌+◌, ◌<◌, ◌∙◌, ◌∷◌, ◌≡◌, ◌≢◌, ap, arith, Ascends, Card, card_at, cards_of, cases_Bool, change_row, cond, drop, drop_more, entries_with, Entry, entry_at, eq-eqb, eqb, eqb-true, false, first}
use Rattle.case_core.proofs.Common.{get_or, inl, inr, IsOfNode, Item, item_after, item_at, item_at-above, item_at-changed, item_at-put, item_by, item_for, item_node, item_then, length, List, MakesItems, Mark, mark_or, mark_spot, ne_eqb}
use Rattle.case_core.proofs.Common.{no_mark, None, Option, option_map, refl, RenewsItems, rises-le, SchemaModel, Some, State, subst, suc, sym, TrailModel, true, user_at, user_of, user_then, with_item, work_item, worked_on, zero}
use Rattle.wsm_schema.specs.declared.states.State.TheVariants as state
use Rattle.wsm_trail.specs.TrailWithRoom.{Rises}

-- ---- what is held of a number while rows are gone over: what was held before as long as its row is ahead
abbrev pub Held : {M I : Type 0} → Option I → (Option M → Option I) → Option M → Option I → Option M → Type 0
Held start f (Some m) held all = (held ≡ start) × (all ≡ Some m)
Held start f None held all = held ≡ f all

ascends-behind : {M : Type 0} (i : ℕ) (xs : List (ℕ × M)) → Ascends first xs → Ascends first (drop i xs)
ascends-behind zero xs up = up
ascends-behind (suc i) [] up = tt
ascends-behind (suc i) (x ∷ xs) up = ascends-behind i xs up.1

module _ {M I : Type 0} (start : Option I) (f : Option M → Option I) where
  pub held-first : f None ≡ start → (all : Option M) → Held start f all start all
  held-first none None = sym none
  held-first none (Some m) = (refl, refl)

  pub held-next : (xs : List (ℕ × M)) → Ascends first xs → (i : ℕ) (d : ℕ × M) → i < length xs → (n : ℕ) (held held' : Option I) (all : Option M) →
      (eqb (get_or xs i d).0 n ≡ true → held ≡ start → held' ≡ f (Some (get_or xs i d).1)) → (eqb (get_or xs i d).0 n ≡ false → held' ≡ held) → Held start f (item_at n (drop i xs)) held all → Held start f (item_at n (drop (i + 1) xs)) held' all
  held-next xs up i d lt n held held' all same other h =
      let c : ℕ × M = get_or xs i d in
      let rest : List (ℕ × M) = drop (i + 1) xs in
      let split : drop i xs ≡ c ∷ rest = drop_more xs i d lt in
      let ascends : Ascends first (c ∷ rest) = subst (Ascends first) split (ascends-behind i xs up) in
      let before : Held start f (item_at n (c ∷ rest)) held all = subst (λ l. Held start f (item_at n l) held all) split h in
      elim (cases_Bool (eqb c.0 n)) [
        | inl here ↦
            let none : item_at n rest ≡ None = item_at-above n c rest ascends.0 here in
            let now : Held start f (Some c.1) held all = rw here at before in
            subst (λ o. Held start f o held' all) (sym none) (same here now.0 ∙ ap f (sym now.1))
        | inr away ↦
            let now : Held start f (item_at n rest) held all = rw away at before in
            subst (λ x. Held start f (item_at n rest) x all) (sym (other away)) now
      ]

-- ---- each item is of its node
of-state : (n role user : ℕ) (s : State) → IsOfNode n (work_item n role s user)
of-state n role user state.NotActivated = tt
of-state n role user state.Activated = refl
of-state n role user state.Running = refl
of-state n role user state.Completed = tt
of-state n role user state.Skipped = tt

of-card : (n : ℕ) (o : Option Card) (m : Mark) (user : ℕ) → IsOfNode n (item_by o n m user)
of-card n None m user = tt
of-card n (Some c) m user =
    elim (cases_Bool (worked_on c.kind)) [
      | inl works ↦ rw works (of-state n c.role user (mark_spot c.kind n m).state)
      | inr silent ↦ rw silent tt
    ]

pub of-node : (cards : List Card) (es : List (ℕ × Entry)) (n : ℕ) (m : Option Mark) → IsOfNode n (item_for cards es n m)
of-node cards es n m = of-card n (card_at n cards) (mark_or m) (user_at es (mark_or m).started)

pub of-held : (cards : List Card) (next : ℕ) (e : Option Entry) (held : Option Item) (n : ℕ) (m : Option Mark) → IsOfNode n (item_then cards next e held n m)
of-held cards next e held n m = of-card n (card_at n cards) (mark_or m) (user_then next e held (mark_or m).started)

-- nobody started a node of a trail without entries
pub nobody : (o : Option ℕ) → user_at [] o ≡ 0
nobody None = refl
nobody (Some p) = refl

-- a node with no mark has none
unmarked-card : (n : ℕ) (o : Option Card) (user : ℕ) → item_by o n no_mark user ≡ None
unmarked-card n None user = refl
unmarked-card n (Some c) user = elim (cases_Bool (worked_on c.kind)) [ inl works ↦ rw works refl | inr silent ↦ rw silent refl ]

pub unmarked-none : (cards : List Card) (es : List (ℕ × Entry)) (n : ℕ) → item_for cards es n None ≡ None
unmarked-none cards es n = unmarked-card n (card_at n cards) (user_at es None)

-- ---- one more item
pub with-own : (n : ℕ) (o : Option Item) (rows : List (ℕ × Item)) → IsOfNode n o → item_at n rows ≡ None → item_at n (with_item o rows) ≡ o
with-own n None rows of none = none
with-own n (Some i) rows of none =
    item_at-put n (item_node i, i) rows ∙ ap (λ b. cond b (Some i) (item_at n rows)) (eq-eqb (item_node i) n (sym of))

pub with-other : (k n : ℕ) (o : Option Item) (rows : List (ℕ × Item)) → IsOfNode k o → eqb k n ≡ false → item_at n (with_item o rows) ≡ item_at n rows
with-other k n None rows of away = refl
with-other k n (Some i) rows of away =
    item_at-put n (item_node i, i) rows ∙ ap (λ b. cond b (Some i) (item_at n rows)) (ap (λ j. eqb j n) (sym of) ∙ away)

-- ---- the next row
pub item-next : (cards : List Card) (es : List (ℕ × Entry)) (marks : List (ℕ × Mark)) → Ascends first marks → (i : ℕ) (d : ℕ × Mark) → i < length marks → (now new : List (ℕ × Item)) →
    new ≡ with_item (item_for cards es (get_or marks i d).0 (Some (get_or marks i d).1)) now → (n : ℕ) → Held None (item_for cards es n) (item_at n (drop i marks)) (item_at n now) (item_at n marks) → Held None (item_for cards es n) (item_at n (drop (i + 1) marks)) (item_at n new) (item_at n marks)
item-next cards es marks up i d lt now new put n h =
    let c : ℕ × Mark = get_or marks i d in
    let o : Option Item = item_for cards es c.0 (Some c.1) in
    held-next None (item_for cards es n) marks up i d lt n (item_at n now) (item_at n new) (item_at n marks)
    (λ here none. ap (item_at n) put ∙ with-own n o now (subst (λ k. IsOfNode k o) (eqb-true c.0 n here) (of-node cards es c.0 (Some c.1))) none ∙ ap (λ k. item_for cards es k (Some c.1)) (eqb-true c.0 n here))
    (λ away. ap (item_at n) put ∙ with-other c.0 n o now (of-node cards es c.0 (Some c.1)) away) h

-- ---- the next change
module _ (cards : List Card) (next : ℕ) (e : Option Entry) (old : List (ℕ × Item)) where
  -- of a number, by what the changes say of it
  abbrev pub renewed : ℕ → Option (Option Mark) → Option Item
  renewed n all = item_after (option_map (item_then cards next e (item_at n old) n) all) (item_at n old)

  pub renew-next : (changes : List (ℕ × Option Mark)) → Ascends first changes → (i : ℕ) (d : ℕ × Option Mark) → i < length changes → (now new : List (ℕ × Item)) → Ascends first now → (o : Option Item) →
      o ≡ item_then cards next e (item_at (get_or changes i d).0 now) (get_or changes i d).0 (get_or changes i d).1 → new ≡ change_row (get_or changes i d).0 o now → (n : ℕ) →
      Held (item_at n old) (renewed n) (item_at n (drop i changes)) (item_at n now) (item_at n changes) → Held (item_at n old) (renewed n) (item_at n (drop (i + 1) changes)) (item_at n new) (item_at n changes)
  renew-next changes up i d lt now new sorted o is put n h =
      let c : ℕ × Option Mark = get_or changes i d in
      let one : List (ℕ × Option Item) = (c.0, o) ∷ [] in
      let at : item_at n new ≡ item_after (item_at n one) (item_at n now) = ap (item_at n) put ∙ item_at-changed n one now (tt, tt) sorted in
      held-next (item_at n old) (renewed n) changes up i d lt n (item_at n now) (item_at n new) (item_at n changes)
      (λ here held.
      let now_own : item_at n new ≡ o = at ∙ (rw here refl) in
      now_own ∙ is ∙ ap (λ k. item_then cards next e (item_at k now) k c.1) (eqb-true c.0 n here) ∙ ap (λ h. item_then cards next e h n c.1) held)
      (λ away. at ∙ (rw away refl)) h

  -- what becomes of the items, told as changes
  abbrev pub renewed_changes : List (ℕ × Option Mark) → List (ℕ × Option Item)
  renewed_changes [] = []
  renewed_changes (c ∷ cs) = (c.0, item_then cards next e (item_at c.0 old) c.0 c.1) ∷ renewed_changes cs

  pub made-so : (changes : List (ℕ × Option Mark)) → MakesItems cards next e old changes (renewed_changes changes)
  made-so [] n = refl
  made-so (c ∷ cs) n =
      elim (cases_Bool (eqb c.0 n)) [
        | inl here ↦ let same : c.0 ≡ n = eqb-true c.0 n here in rw here (ap (λ k. Some (item_then cards next e (item_at k old) k c.1)) same)
        | inr away ↦ rw away (made-so cs n)
      ]

  pub renewed-so : (changes : List (ℕ × Option Mark)) (new : List (ℕ × Item)) → RenewsItems cards next e old changes new → (n : ℕ) → item_at n new ≡ item_after (item_at n (renewed_changes changes)) (item_at n old)
  renewed-so changes new renews n = renews n ∙ ap (λ i. item_after i (item_at n old)) (sym (made-so changes n))

-- the same of a schema and of items that are told otherwise
pub renews-of : (s t : SchemaModel) → t ≡ s → (next : ℕ) (e : Option Entry) (held old : List (ℕ × Item)) → held ≡ old → (changes : List (ℕ × Option Mark)) (new : List (ℕ × Item)) →
    RenewsItems (cards_of t) next e held changes new → RenewsItems (cards_of s) next e old changes new
renews-of s t same next e held old are changes new renews =
    subst (λ (x : SchemaModel). RenewsItems (cards_of x) next e old changes new) same (subst (λ (is : List (ℕ × Item)). RenewsItems (cards_of t) next e is changes new) are renews)

-- ---- who stands at a position of a trail with one entry more
last-here : (low next : ℕ) (e : Entry) (es : List (ℕ × Entry)) → Rises low next es → entry_at next (es ++ (next, e) ∷ []) ≡ Some e
last-here low next e [] rises = rw (eq-eqb next next refl) refl
last-here low next e (x ∷ xs) rises =
    let le = rises-le (x.0 + 1) next xs rises.1 in
    let apart : eqb x.0 next ≡ false = ne_eqb x.0 next (omega (arith, le)) in
    rw apart (last-here (x.0 + 1) next e xs rises.1)

others-here : (p next : ℕ) (e : Entry) (es : List (ℕ × Entry)) → eqb next p ≡ false → entry_at p (es ++ (next, e) ∷ []) ≡ entry_at p es
others-here p next e [] apart = rw apart refl
others-here p next e (x ∷ xs) apart =
    elim (cases_Bool (eqb x.0 p)) [
      | inl here ↦ rw here refl
      | inr away ↦ rw away (others-here p next e xs apart)
    ]

pub user-of_next : (t : TrailModel) (e : Entry) (p : ℕ) → Rises 1 t.next t.entries → p ≡ t.next → user_of (Some (0, e)) ≡ user_at (entries_with t (Some e)) (Some p)
user-of_next t e p rises same =
    ap (λ o. user_of (option_map (λ x. (p, x)) o)) (sym (ap (λ q. entry_at q (t.entries ++ (t.next, e) ∷ [])) same ∙ last-here 1 t.next e t.entries rises))

pub user-of_other : (t : TrailModel) (e : Entry) (p : ℕ) → p ≢ t.next → user_at t.entries (Some p) ≡ user_at (entries_with t (Some e)) (Some p)
user-of_other t e p other =
    ap (λ o. user_of (option_map (λ x. (p, x)) o)) (sym (others-here p t.next e t.entries (ne_eqb t.next p (λ same. other (sym same)))))
