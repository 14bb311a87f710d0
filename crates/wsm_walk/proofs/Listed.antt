-- The table of all marks holds, of each node of the net, its mark where that says something; and what changes make of it.
use Rattle.wsm_walk.proofs.Common.{[], ℕ, ◌∙◌, ◌∷◌, ◌≡◌, ap, Ascends, ascends-changed, ascends_put, Card, card_at, cases_Bool, changed, eqb, eqb-true, false, first, fold, if◌then◌else◌, inl, inr, item_after, item_at, item_at-changed}
use Rattle.wsm_walk.proofs.{Common.{item_at-put, items-same, List, list_marks, listed, Mark, mark_key, mark_or, None, Option, put_row, refl, said, says_something, Some, sym, true}, Kept.silent-none}

-- what is said of a mark is that mark
pub said-mark : (m : Mark) → mark_or (said m) ≡ m
said-mark m = elim (cases_Bool (says_something m)) [ inl says ↦ rw says refl | inr silent ↦ rw silent (sym (silent-none m silent)) ]

module _ (mark : ℕ → Mark) where
  abbrev step : List (ℕ × Mark) → Card → List (ℕ × Mark)
  step ms c = if says_something (mark c.node) then put_row mark_key (c.node, mark c.node) ms else ms

  module _ (n : ℕ) where
    after-own : (ms : List (ℕ × Mark)) (c : Card) → eqb c.node n ≡ true → item_at n ms ≡ None → item_at n (step ms c) ≡ said (mark n)
    after-own ms c same none =
        let e : mark c.node ≡ mark n = ap mark (eqb-true c.node n same) in
        elim (cases_Bool (says_something (mark c.node))) [
          | inl says ↦ let own : says_something (mark n) ≡ true = ap says_something (sym e) ∙ says in rw (says, own) (item_at-put n (c.node, mark c.node) ms ∙ rw same (ap Some e))
          | inr silent ↦ let own : says_something (mark n) ≡ false = ap says_something (sym e) ∙ silent in rw (silent, own) none
        ]

    after-any : (ms : List (ℕ × Mark)) (c : Card) → item_at n ms ≡ said (mark n) → item_at n (step ms c) ≡ said (mark n)
    after-any ms c h =
        elim (cases_Bool (says_something (mark c.node))) [
          | inr silent ↦ rw silent h
          | inl says ↦ elim (cases_Bool (eqb c.node n)) [
            | inl same ↦
                let e : mark c.node ≡ mark n = ap mark (eqb-true c.node n same) in
                let own : says_something (mark n) ≡ true = ap says_something (sym e) ∙ says in
                rw (says, own) (item_at-put n (c.node, mark c.node) ms ∙ rw same (ap Some e))
            | inr other ↦ rw says (item_at-put n (c.node, mark c.node) ms ∙ (rw other h))
          ]
        ]

    stays-said : (cards : List Card) (ms : List (ℕ × Mark)) → item_at n ms ≡ said (mark n) → item_at n (fold step ms cards) ≡ said (mark n)
    stays-said [] ms h = h
    stays-said (c ∷ cs) ms h = stays-said cs (step ms c) (after-any ms c h)

    after-other : (ms : List (ℕ × Mark)) (c : Card) → eqb c.node n ≡ false → item_at n ms ≡ None → item_at n (step ms c) ≡ None
    after-other ms c other none = elim (cases_Bool (says_something (mark c.node))) [ inl says ↦ rw says (item_at-put n (c.node, mark c.node) ms ∙ rw other none) | inr silent ↦ rw silent none ]

    folded : (cards : List Card) (ms : List (ℕ × Mark)) → item_at n ms ≡ None → item_at n (fold step ms cards) ≡ listed (card_at n cards) (mark n)
    folded [] ms none = none
    folded (c ∷ cs) ms none =
        elim (cases_Bool (eqb c.node n)) [
          | inl same ↦ rw same (stays-said cs (step ms c) (after-own ms c same none))
          | inr other ↦ rw other (folded cs (step ms c) (after-other ms c other none))
        ]

    -- what the table of all marks holds of a node
    pub listed-item : (cards : List Card) → item_at n (list_marks mark cards) ≡ listed (card_at n cards) (mark n)
    listed-item cards = folded cards [] refl

  ascends-folded : (cards : List Card) (ms : List (ℕ × Mark)) → Ascends first ms → Ascends first (fold step ms cards)
  ascends-folded [] ms s = s
  ascends-folded (c ∷ cs) ms s = ascends-folded cs (step ms c) (elim (cases_Bool (says_something (mark c.node))) [ inl says ↦ rw says (ascends_put first (c.node, mark c.node) ms s) | inr silent ↦ rw silent s ])

  -- it ascends by node
  pub ascends-listed : (cards : List Card) → Ascends first (list_marks mark cards)
  ascends-listed cards = ascends-folded cards [] tt

-- where changes say of each node what its mark becomes, they make the new table of the old one
pub changes-list : (old new : ℕ → Mark) (cards : List Card) (rows : List (ℕ × Mark)) (changes : List (ℕ × Option Mark)) → rows ≡ list_marks old cards → Ascends first changes →
    ((n : ℕ) → item_after (item_at n changes) (listed (card_at n cards) (old n)) ≡ listed (card_at n cards) (new n)) → changed changes rows ≡ list_marks new cards
changes-list old new cards rows changes are s say =
    ap (changed changes) are
    ∙ items-same _ _ (ascends-changed changes (list_marks old cards) (ascends-listed old cards)) (ascends-listed new cards) (λ n.
    item_at-changed n changes (list_marks old cards) s (ascends-listed old cards)
    ∙ ap (item_after (item_at n changes)) (listed-item old n cards)
    ∙ say n
    ∙ sym (listed-item new n cards))
