-- The changes make the new table of marks of the old one.
use Rattle.wsm_adapt.proofs.Common.{[], ℕ, ◌∙◌, ◌∷◌, ◌≡◌, ap, Ascends, ascends-changed, ascends-listed, Bool, both_ways, Card, card_at, cards_of, cases_Bool, changed, Changes, Entries, eqb, false, first, flat_of, Found, if◌then◌else◌, inl}
use Rattle.wsm_adapt.proofs.Common.{inr, is_one_of, item_after, item_at, item_at-changed, item_at-put, items-same, List, listed, listed-item, Mark, mark_now, mark_or, marks_of, None, Option, put_row, refl, replay_of, said, said-mark}
use Rattle.wsm_adapt.proofs.{Common.{SchemaModel, Some, Spots, Standing, subst, sym, true, whole, whole-marks, without}, KnownMisfits.all-new, OldMarks.{kept, kept-listed}}

-- what the row of a node that went holds
abbrev no_row : Option (Option Mark)
no_row = Some None

-- the rows of the nodes that went say so, and others stay
pub item-without : (ns : List ℕ) (rows : List (ℕ × Option Mark)) (n : ℕ) → item_at n (without ns rows) ≡ (if is_one_of n ns then Some None else item_at n rows)
item-without [] rows n = refl
item-without (k ∷ ks) rows n =
    item-without ks (put_row first (k, None) rows) n
    ∙ ap (λ x. if is_one_of n ks then Some None else x) (item_at-put n (k, None) rows)
    ∙ elim (cases_Bool (eqb k n)) [
      | inl here ↦ rw here (both (is_one_of n ks))
      | inr away ↦ rw away refl
    ]
  where
    both : (u : Bool) → (if u then no_row else no_row) ≡ no_row
    both true = refl
    both false = refl

module _ (before_ after : SchemaModel) (rank touched : List ℕ) (es : Entries) (ch : Changes before_ after rank touched es) (gone : List ℕ) (found : Found)
    (st : Standing (cards_of after) rank (mark_now after rank es) (kept before_ after rank touched es ch) touched [] found)
    (all_gone : (n : ℕ) → is_one_of n touched ≡ true → card_at n (cards_of after) ≡ None → is_one_of n gone ≡ true)
    (absent : (n : ℕ) → is_one_of n gone ≡ true → card_at n (cards_of after) ≡ None) where
  abbrev goal : ℕ → Mark
  goal = mark_now after rank es

  abbrev was : ℕ → Mark
  was = mark_now before_ ch.rank_before es

  abbrev old : ℕ → Option Mark
  old n = item_at n (kept before_ after rank touched es ch)

  old-is : (n : ℕ) → old n ≡ listed (card_at n (cards_of before_)) (was n)
  old-is n = ap (item_at n) (kept-listed before_ after rank touched es ch) ∙ listed-item was n (cards_of before_)

  -- what is kept of a node says something
  old-said : (n : ℕ) → old n ≡ said (mark_or (old n))
  old-said n = subst (λ o. o ≡ said (mark_or o)) (sym (old-is n)) (go (card_at n (cards_of before_)))
    where
      go : (o : Option Card) → listed o (was n) ≡ said (mark_or (listed o (was n)))
      go None = refl
      go (Some c) = ap said (sym (said-mark (was n)))

  item-new : (n : ℕ) → item_after (item_at n (without gone found.changes)) (old n) ≡ listed (card_at n (cards_of after)) (goal n)
  item-new n = ap (λ o. item_after o (old n)) (item-without gone found.changes n) ∙ go (card_at n (cards_of after)) refl
    where
      not_gone : (c : Card) → card_at n (cards_of after) ≡ Some c → is_one_of n gone ≡ false
      not_gone c at = elim (cases_Bool (is_one_of n gone)) [ inl it ↦ absurd (let q : None ≡ Some c = sym (absent n it) ∙ at in cc) | inr other ↦ other ]

      -- a node of the schema is seen with its new mark, and the changes say what they show
      says : (c : Card) → card_at n (cards_of after) ≡ Some c → (x : Option (Option Mark)) → item_at n found.changes ≡ x → item_after x (old n) ≡ said (goal n)
      says c at None is = old-said n ∙ ap said (ap (λ o. mark_or (item_after o (old n))) (sym is) ∙ all-new before_ after rank touched es ch found st n c at)
      says c at (Some o) is = (st.stands.says n o is).0 ∙ ap said (ap (λ x. mark_or (item_after x (old n))) (sym is) ∙ all-new before_ after rank touched es ch found st n c at)

      -- a node that went has no row
      no-row : card_at n (cards_of after) ≡ None → (x : Option (Option Mark)) → item_at n found.changes ≡ x → x ≡ None
      no-row at None is = refl
      no-row at (Some o) is = let has = (st.stands.says n o is).1 in absurd (let q : None ≡ Some has.0 = sym at ∙ has.1 in cc)

      go : (o : Option Card) → card_at n (cards_of after) ≡ o → item_after (if is_one_of n gone then Some None else item_at n found.changes) (old n) ≡ listed o (goal n)
      go (Some c) at = rw (not_gone c at) (says c at (item_at n found.changes) refl)
      go None at =
          elim (cases_Bool (is_one_of n gone)) [
            | inl lost ↦ rw lost refl
            | inr other ↦
                let no_seed : is_one_of n touched ≡ false = elim (cases_Bool (is_one_of n touched)) [ inl seed ↦ absurd (both_ways _ other (all_gone n seed at)) | inr fine ↦ fine ] in
                rw other (ap (λ o. item_after o (old n)) (no-row at (item_at n found.changes) refl) ∙ old-is n ∙ ap (λ o. listed o (was n)) ((ch.untouched n no_seed).card ∙ at))
          ]

  pub new-table : (t : Spots) → replay_of (flat_of after) es ≡ whole t → Ascends first (without gone found.changes) → changed (without gone found.changes) (kept before_ after rank touched es ch) ≡ marks_of (flat_of after) es
  new-table t is_whole ascends =
      let rows : List (ℕ × Mark) = kept before_ after rank touched es ch in
      let sorted : Ascends first rows = subst (Ascends first) (sym (kept-listed before_ after rank touched es ch)) (ascends-listed was (cards_of before_)) in
      items-same _ _ (ascends-changed (without gone found.changes) rows sorted) (ascends-listed goal (cards_of after)) (λ n.
      item_at-changed n (without gone found.changes) rows ascends sorted ∙ item-new n ∙ sym (listed-item goal n (cards_of after)))
      ∙ sym (whole-marks (flat_of after) rank ch.ranked_after es t ch.rises is_whole)
