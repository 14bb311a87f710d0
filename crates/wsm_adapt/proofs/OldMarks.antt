-- What the kept marks tell of the new ones: the facts of each node; and from them a walk may begin.
use Rattle.wsm_adapt.proofs.Common.{ℕ, ◌∙◌, ◌≡◌, all-rows-map, ap, Begins, Card, card_at, cards_of, Changes, Entries, facts_by, facts_of, false, flat_of, is_one_of, item_at, List, list_marks, listed, listed-item, listed-read, Mark}
use Rattle.wsm_adapt.proofs.Common.{mark_now, mark_or, Marking, marks_of, None, Option, refl, SchemaModel, sig_at, sig_by, Some, sources-have_cards, subst, sym, timed_of, timed_of-by, times_by, trail-aim, untimed, whole-marks, with_time}
use Rattle.wsm_marks.specs.Solving.{solution}
use Rattle.wsm_marks.proofs.Solutions.{eq_of-same, solution-solves}
use Rattle.wsm_walk.proofs.Told.{untold}

module _ (before after : SchemaModel) (rank touched : List ℕ) (es : Entries) (ch : Changes before after rank touched es) where
  abbrev pub kept : List (ℕ × Mark)
  kept = marks_of (flat_of before) es

  abbrev pub goal : ℕ → Mark
  goal = mark_now after rank es

  abbrev pub m1 : Marking
  m1 = solution (cards_of before) ch.rank_before (facts_of es)

  abbrev pub m2 : Marking
  m2 = solution (cards_of after) rank (facts_of es)

  pub kept-listed : kept ≡ list_marks (mark_now before ch.rank_before es) (cards_of before)
  kept-listed = whole-marks (flat_of before) ch.rank_before ch.ranked_before es ch.marking ch.rises ch.replays

  old-read : (n : ℕ) (c : Card) → card_at n (cards_of before) ≡ Some c → mark_or (item_at n kept) ≡ mark_now before ch.rank_before es n
  old-read n c at = ap (λ l. mark_or (item_at n l)) kept-listed ∙ listed-read (mark_now before ch.rank_before es) n (cards_of before) c at

  -- what the kept marks tell of the trail is what it tells
  pub old-facts : (n : ℕ) → untimed (mark_or (item_at n kept)) ≡ untimed (goal n)
  old-facts n = go (card_at n (cards_of before)) refl
    where
      go : (o : Option Card) → card_at n (cards_of before) ≡ o → untimed (mark_or (item_at n kept)) ≡ untimed (goal n)
      go (Some c) at = ap untimed (old-read n c at)
      go None at =
          let none : item_at n kept ≡ None = ap (item_at n) kept-listed ∙ listed-item (mark_now before ch.rank_before es) n (cards_of before) ∙ none-listed at in
          ap (λ o. untimed (mark_or o)) none ∙ sym (untold before ch.rank_before ch.ranked_before es ch.marking ch.rises ch.replays n at)
        where
          none-listed : card_at n (cards_of before) ≡ None → listed (card_at n (cards_of before)) (mark_now before ch.rank_before es n) ≡ None
          none-listed at = rw at refl

  -- a node that has its old mark has its old time
  pub same-time : (n : ℕ) (c d : Card) → card_at n (cards_of before) ≡ Some c → card_at n (cards_of after) ≡ Some d → goal n ≡ mark_or (item_at n kept) → m1 n ≡ m2 n
  same-time n c d was at same = sym (timed_of-by m1 es n) ∙ ap timed_of (sym (same ∙ old-read n c was)) ∙ timed_of-by m2 es n

  abbrev K : ℕ → Mark
  K n = mark_or (item_at n kept)

  -- an edge from a node that is not touched signals over them what it did
  old-signal : (label : Option ℕ) (n : ℕ) → is_one_of n touched ≡ false → sig_at (cards_of before) (facts_of es) m1 label n ≡ sig_at (cards_of after) (facts_by K) (times_by K) label n
  old-signal label n out =
      ap (λ o. sig_by o (m1 n) ((facts_of es).ended n) ((facts_of es).choice n) label) (ch.untouched n out).card
      ∙ go (card_at n (cards_of after)) refl
    where
      go : (o : Option Card) → card_at n (cards_of after) ≡ o → sig_by o (m1 n) ((facts_of es).ended n) ((facts_of es).choice n) label ≡ sig_by o (timed_of (K n)) (K n).ended (K n).choice label
      go None at = refl
      go (Some d) at =
          ap (λ x. sig_by (Some d) x ((facts_of es).ended n) ((facts_of es).choice n) label) (sym (timed_of-by m1 es n))
          ∙ ap (λ (m : Mark). sig_by (Some d) (timed_of m) m.ended m.choice label) (sym (old-read n d ((ch.untouched n out).card ∙ at)))

  old-times : (n : ℕ) → K n ≡ with_time (timed_of (K n)) (K n)
  old-times n = go (card_at n (cards_of before)) refl
    where
      none-kept : card_at n (cards_of before) ≡ None → item_at n kept ≡ None
      none-kept at = ap (item_at n) kept-listed ∙ listed-item (mark_now before ch.rank_before es) n (cards_of before) ∙ ap (λ o. listed o (mark_now before ch.rank_before es n)) at

      go : (o : Option Card) → card_at n (cards_of before) ≡ o → K n ≡ with_time (timed_of (K n)) (K n)
      go (Some c) at = subst (λ m. m ≡ with_time (timed_of m) m) (sym (old-read n c at)) ((trail-aim before ch.regular_before ch.rank_before ch.ranked_before es).times n)
      go None at = subst (λ m. m ≡ with_time (timed_of m) m) (sym (ap mark_or (none-kept at))) refl

  -- a walk may begin from them
  pub old-begins : Begins (cards_of after) goal kept touched
  old-begins = record {
    facts = λ n c at. old-facts n;
    times = old-times;
    meets = λ n c at out none.
        let was : card_at n (cards_of before) ≡ Some c = (ch.untouched n out).card ∙ at in
        ap timed_of (old-read n c was)
        ∙ timed_of-by m1 es n
        ∙ (solution-solves (cards_of before) ch.rank_before ch.ranked_before (facts_of es)).meets n c was
        ∙ eq_of-same c _ _ _ _ (all-rows-map _ _ (λ x away. old-signal x.label x.node away) c.ins none.0) (all-rows-map _ _ (λ x away. old-signal None x away) c.syncs_in none.1);
    sources = λ n c at. sources-have_cards after ch.regular_after n c at;
  }
