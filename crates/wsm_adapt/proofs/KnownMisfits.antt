-- What does not fit of a node is told by the marks that are known after the pass.
use Rattle.wsm_adapt.proofs.Common.{[], ℕ, ◌&&◌, ◌∙◌, ◌∷◌, ◌≡◌, again_misfit, again_misfit_in, AllRows, ap, before, both_ways, Card, card_at, cards_of, cases_Bool, Changes, early, ElementKind, end_misfit, Entries, Entry, eqb, Facts}
use Rattle.wsm_adapt.proofs.Common.{facts_of, false, fits, fits_edges, flat_of, Found, if◌then◌else◌, inl, inr, is_again_of, is_known, is_loop_end, is_of_kind, is_one_of, is_yes, IsAsKept, item_at, kind_in, lesser, List, Mark, misfit_in}
use Rattle.wsm_adapt.proofs.Common.{misfit_of, None, on_card, on_card-same, Option, partner_done, partner_in, position_of, refl, same_card, SchemaModel, seen, Some, Standing, start_misfit, sym, Timed, timed_of, timed_of-by, trail-aim, true}
use Rattle.wsm_adapt.proofs.{Common.{unless, untimed, value_below, whole-fits, worked_on, Written}, Filtered.known-row, Fitted.again-fitted, OldMarks.{goal, kept, m1, m2, old-facts, same-time}, Partners.{end-of_start, start-of_end}}
use Rattle.wsm_adapt.proofs.Visiting.{shown}
use Rattle.wsm_marks.proofs.{Causality.solved_net, FirstFailure.fits-rows, WholeTrails.whole-orderly}
use Rattle.wsm_walk.proofs.Stands.{stands-end}

-- nothing fits a node that is gone, whatever its time
gone-start : (es : Entries) (x y : Timed) (o : Option ℕ) → start_misfit es None x o ≡ start_misfit es None y o
gone-start es x y None = refl
gone-start es x y (Some p) = refl

module _ (before_ after : SchemaModel) (rank touched : List ℕ) (es : Entries) (ch : Changes before_ after rank touched es) where
  abbrev f : Facts
  f = facts_of es

  abbrev M1 : ℕ → Timed
  M1 = m1 before_ after rank touched es ch

  abbrev M2 : ℕ → Timed
  M2 = m2 before_ after rank touched es ch

  abbrev Goal : ℕ → Mark
  Goal = goal before_ after rank touched es ch

  pub fit : AllRows (λ (e : ℕ × Entry). fits (flat_of before_) f M1 (λ d. value_below d e.0 es) e.0 e.1 ≡ true) es
  fit =
      fits-rows (flat_of before_) f M1 (λ d p. value_below d p es) es
      (whole-fits (flat_of before_) ch.rank_before es M1 (solved_net (cards_of before_) ch.rank_before ch.ranked_before f) (whole-orderly (flat_of before_) es ch.marking ch.rises ch.replays) ch.marking ch.replays)

  module _ (found : Found) (st : Standing (cards_of after) rank (goal before_ after rank touched es ch) (kept before_ after rank touched es ch) touched [] found) where
    abbrev last : List (ℕ × Option Mark)
    last = found.known

    -- each node of the schema is seen with its new mark
    pub all-new : (n : ℕ) (c : Card) → card_at n (cards_of after) ≡ Some c → seen (kept before_ after rank touched es ch) found.changes n ≡ Goal n
    all-new = stands-end (cards_of after) rank Goal (trail-aim after ch.regular_after rank ch.ranked_after es) (kept before_ after rank touched es ch) found.changes st.stands

    -- so what is known of it is new
    pub known-new : (n : ℕ) (c : Card) → card_at n (cards_of after) ≡ Some c → is_known last n ≡ true → seen [] last n ≡ Goal n
    known-new n c at known = let row = known-row (item_at n last) known in shown last n row.0 row.1 ∙ st.known n row.0 row.1 ∙ all-new n c at

    -- a node that has the mark that it had has the time that it had
    pub kept-time : (n : ℕ) (c d : Card) → card_at n (cards_of before_) ≡ Some c → card_at n (cards_of after) ≡ Some d → IsAsKept (kept before_ after rank touched es ch) found.changes n → M1 n ≡ M2 n
    kept-time n c d was at same = same-time before_ after rank touched es ch n c d was at (sym (all-new n d at) ∙ same)

    not-known : (n : ℕ) → is_known last n ≡ false → (is_one_of n touched ≡ false) × (is_one_of n found.nodes ≡ false)
    not-known n unknown = (
      elim (cases_Bool (is_one_of n touched)) [ inl it ↦ absurd (both_ways _ unknown (st.asked n it)) | inr other ↦ other ],
      elim (cases_Bool (is_one_of n found.nodes)) [ inl it ↦ absurd (both_ways _ unknown (st.visited n it)) | inr other ↦ other ],
    )

    -- a partner that is not known is as it was
    unknown-partner : (n p k : ℕ) (c : Card) → card_at n (cards_of after) ≡ Some c → position_of (is_again_of n) es ≡ Some p → is_loop_end c.kind ≡ true → c.partner ≡ Some k → is_known last k ≡ false →
        partner_done (cards_of after) f M2 p (Some k) ≡ true
    unknown-partner n p k c at again ends partner unknown =
        let away = not-known k unknown in
        let d = start-of_end after ch.regular_after n k c at ends partner in
        let card = (ch.untouched k away.0).card in
        let e = end-of_start before_ ch.regular_before n k d.0 (card ∙ d.1) d.2 d.3 in
        let was = again-fitted (flat_of before_) M1 es ch.rises fit n p again in
        let one : was.0.partner ≡ Some k = ap (λ (x : Card). x.partner) (same_card (cards_of before_) n was.0 e.0 was.1 e.1) ∙ e.3 in
        let done : partner_done (cards_of before_) f M1 p (Some k) ≡ true = ap (partner_done (cards_of before_) f M1 p) (sym one) ∙ was.3 in
        ap (λ o. on_card o (λ (x : Card). if worked_on x.kind then early p (f.ended k) else is_yes (before p (M2 k)))) (sym card)
        ∙ ap (λ y. on_card (card_at k (cards_of before_)) (λ (x : Card). if worked_on x.kind then early p (f.ended k) else is_yes (before p y))) (sym (kept-time k d.0 d.0 (card ∙ d.1) d.1 (st.others k away.1)))
        ∙ done

    partner-known : (n p : ℕ) (c : Card) → card_at n (cards_of after) ≡ Some c → position_of (is_again_of n) es ≡ Some p → is_loop_end c.kind ≡ true →
        partner_in (cards_of after) last p c.partner ≡ partner_done (cards_of after) f M2 p c.partner
    partner-known n p c at again ends = go c.partner refl
      where
        go : (o : Option ℕ) → c.partner ≡ o → partner_in (cards_of after) last p o ≡ partner_done (cards_of after) f M2 p o
        go None partner = refl
        go (Some k) partner =
            elim (cases_Bool (is_known last k)) [
              | inr unknown ↦ rw unknown (sym (unknown-partner n p k c at again ends partner unknown))
              | inl known ↦ rw known (on_card-same (card_at k (cards_of after)) _ _ (λ d at_k.
                  ap (λ (m : Mark). if worked_on d.kind then early p m.ended else is_yes (before p (timed_of m))) (known-new k d at_k known)
                  ∙ ap (λ x. if worked_on d.kind then early p (f.ended k) else is_yes (before p x)) (timed_of-by M2 es k)))
            ]

    pub again-same : (n : ℕ) → again_misfit_in (cards_of after) last (card_at n (cards_of after)) (position_of (is_again_of n) es) ≡ again_misfit (cards_of after) f M2 (card_at n (cards_of after)) (position_of (is_again_of n) es)
    again-same n = go (card_at n (cards_of after)) (position_of (is_again_of n) es) refl refl
      where
        go : (o : Option Card) (q : Option ℕ) → card_at n (cards_of after) ≡ o → position_of (is_again_of n) es ≡ q → again_misfit_in (cards_of after) last o q ≡ again_misfit (cards_of after) f M2 o q
        go o None at again = refl
        go None (Some p) at again = refl
        go (Some c) (Some p) at again =
            ap (λ t. unless t p) (elim (cases_Bool (is_loop_end c.kind)) [
              | inl ends ↦ rw ends (partner-known n p c at again ends)
              | inr other ↦ rw other refl
            ])

    abbrev all_of : ℕ → Mark → Option ℕ
    all_of n m =
        lesser (start_misfit es (card_at n (cards_of after)) (timed_of m) m.started)
        (lesser (end_misfit (flat_of before_) (flat_of after) (card_at n (cards_of before_)) (card_at n (cards_of after)) m.ended m.choice) (again_misfit_in (cards_of after) last (card_at n (cards_of after)) m.again))

    -- of a node that is known
    pub known-misfit : (n : ℕ) (c : Card) → card_at n (cards_of after) ≡ Some c → is_known last n ≡ true → misfit_in (flat_of before_) (flat_of after) last es n ≡ misfit_of (flat_of before_) (flat_of after) f M2 es n
    known-misfit n c at known =
        ap (all_of n) (known-new n c at known)
        ∙ ap (λ x. lesser (start_misfit es (card_at n (cards_of after)) x (f.started n)) (lesser (end_misfit (flat_of before_) (flat_of after) (card_at n (cards_of before_)) (card_at n (cards_of after)) (f.ended n) (f.choice n))
        (again_misfit_in (cards_of after) last (card_at n (cards_of after)) (position_of (is_again_of n) es)))) (timed_of-by M2 es n)
        ∙ ap (λ x. lesser (start_misfit es (card_at n (cards_of after)) (M2 n) (f.started n)) (lesser (end_misfit (flat_of before_) (flat_of after) (card_at n (cards_of before_)) (card_at n (cards_of after)) (f.ended n) (f.choice n)) x)) (again-same n)

    -- and of one that is gone
    pub gone-misfit : (n : ℕ) → is_one_of n touched ≡ true → is_one_of n found.nodes ≡ false → card_at n (cards_of after) ≡ None → misfit_in (flat_of before_) (flat_of after) last es n ≡ misfit_of (flat_of before_) (flat_of after) f M2 es n
    gone-misfit n seed away none =
        let row = known-row (item_at n last) (st.asked n seed) in
        let facts : untimed (seen [] last n) ≡ untimed (Goal n) = ap untimed (shown last n row.0 row.1 ∙ st.known n row.0 row.1 ∙ st.others n away) ∙ old-facts before_ after rank touched es ch n in
        ap (λ (m : Mark). lesser (start_misfit es (card_at n (cards_of after)) (timed_of (seen [] last n)) m.started)
        (lesser (end_misfit (flat_of before_) (flat_of after) (card_at n (cards_of before_)) (card_at n (cards_of after)) m.ended m.choice) (again_misfit_in (cards_of after) last (card_at n (cards_of after)) m.again))) facts
        ∙ ap (λ x. lesser x (lesser (end_misfit (flat_of before_) (flat_of after) (card_at n (cards_of before_)) (card_at n (cards_of after)) (f.ended n) (f.choice n))
        (again_misfit_in (cards_of after) last (card_at n (cards_of after)) (position_of (is_again_of n) es))))
        (ap (λ o. start_misfit es o (timed_of (seen [] last n)) (f.started n)) none ∙ gone-start es (timed_of (seen [] last n)) (M2 n) (f.started n) ∙ ap (λ o. start_misfit es o (M2 n) (f.started n)) (sym none))
        ∙ ap (λ x. lesser (start_misfit es (card_at n (cards_of after)) (M2 n) (f.started n)) (lesser (end_misfit (flat_of before_) (flat_of after) (card_at n (cards_of before_)) (card_at n (cards_of after)) (f.ended n) (f.choice n)) x)) (again-same n)
