-- What is found of a changed schema is what the replay answers.
use Rattle.wsm_adapt.proofs.Common.{[], ℕ, ◌∙◌, ◌≡◌, AdaptsRight, ap, Ascends, both_ways, Card, card_at, cards_of, changed, Changes, Confined, Ends, Entries, facts_of, first, flat_of, FlatModel, Found, gone_of, is_one_of, is_reached}
use Rattle.wsm_adapt.proofs.Common.{is_some, IsAdapted, IsFound, last_position, List, Mark, mark_now, marks_of, None, not, Option, refl, region_misfit, replay_of, SchemaModel, Some, Standing, subst, suc, sym, trail-aim, true, without}
use Rattle.wsm_adapt.proofs.{Filtered.{filtered, filtered-passes}, NewTable.new-table, OldMarks.{m2, old-begins}, RegionMisfits.region-ends}
use Rattle.wsm_adapt.specs.declared.adapting.Adapted.{Adapted}
use Rattle.wsm_adapt.specs.declared.adapting.Adapted.TheVariants as adapted

none-of : (o : Option Card) → not (is_some o) ≡ true → o ≡ None
none-of None h = refl
none-of (Some c) h = absurd (both_ways _ refl h)

module _ (before_ after : SchemaModel) (rank touched : List ℕ) (es : Entries) (ch : Changes before_ after rank touched es) (found : Found)
    (right : IsFound (cards_of after) rank (marks_of (flat_of before_) es) touched found) (con : Confined (cards_of after) rank (is_reached (cards_of after) rank touched) [] found.nodes) where
  st : Standing (cards_of after) rank (mark_now after rank es) (marks_of (flat_of before_) es) touched [] found
  st = right (mark_now after rank es) (trail-aim after ch.regular_after rank ch.ranked_after es) (old-begins before_ after rank touched es ch)

  abbrev gone : List ℕ
  gone = gone_of (cards_of after) touched

  abbrev position : Option ℕ
  position = region_misfit (flat_of before_) (flat_of after) found.known es touched found.nodes

  all_gone : (n : ℕ) → is_one_of n touched ≡ true → card_at n (cards_of after) ≡ None → is_one_of n gone ≡ true
  all_gone n seed at = filtered (λ k. not (is_some (card_at k (cards_of after)))) touched n seed (ap (λ o. not (is_some o)) at)

  absent : (n : ℕ) → is_one_of n gone ≡ true → card_at n (cards_of after) ≡ None
  absent n lost = none-of (card_at n (cards_of after)) (filtered-passes (λ k. not (is_some (card_at k (cards_of after)))) touched n lost)

  ends-at : (o : Option ℕ) → position ≡ o → Ends (cards_of after) (facts_of es) (m2 before_ after rank touched es ch) (suc (last_position 0 es)) o (replay_of (flat_of after) es)
  ends-at o at =
      subst (λ x. Ends (cards_of after) (facts_of es) (m2 before_ after rank touched es ch) (suc (last_position 0 es)) x (replay_of (flat_of after) es)) at
      (region-ends before_ after rank touched es ch found st con)

  moved : (changes : List (ℕ × Option Mark)) → position ≡ None → changes ≡ without gone found.changes → Ascends first changes → IsAdapted (flat_of after) (marks_of (flat_of before_) es) es (adapted.Moved changes)
  moved changes none are ascends =
      let done = ends-at None none in (
        done.0,
        done.1,
        ap (λ cs. changed cs (marks_of (flat_of before_) es)) are ∙ new-table before_ after rank touched es ch gone found st all_gone absent done.0 done.1 (subst (Ascends first) are ascends),
      )

  blocked : (p : ℕ) → position ≡ Some p → IsAdapted (flat_of after) (marks_of (flat_of before_) es) es (adapted.Blocked p)
  blocked p at = ends-at (Some p) at

module _ (old new : FlatModel) (rank touched : List ℕ) (kept : List (ℕ × Mark)) (es : Entries) (found : Found) (right : IsFound new.cards rank kept touched found)
    (con : Confined new.cards rank (is_reached new.cards rank touched) [] found.nodes) where
  module _ (before_ after : SchemaModel) (old_is : old ≡ flat_of before_) (new_is : new ≡ flat_of after) (kept_is : kept ≡ marks_of old es) where
    kept_was : kept ≡ marks_of (flat_of before_) es
    kept_was = kept_is ∙ ap (λ g. marks_of g es) old_is

    right_was : IsFound (cards_of after) rank (marks_of (flat_of before_) es) touched found
    right_was = subst (λ (g : FlatModel). IsFound g.cards rank (marks_of (flat_of before_) es) touched found) new_is (subst (λ k. IsFound new.cards rank k touched found) kept_was right)

    con_was : Confined (cards_of after) rank (is_reached (cards_of after) rank touched) [] found.nodes
    con_was = subst (λ (g : FlatModel). Confined g.cards rank (is_reached g.cards rank touched) [] found.nodes) new_is con

    position_was : region_misfit old new found.known es touched found.nodes ≡ region_misfit (flat_of before_) (flat_of after) found.known es touched found.nodes
    position_was = λ i. region_misfit (old_is i) (new_is i) found.known es touched found.nodes

    gone_was : gone_of new.cards touched ≡ gone_of (cards_of after) touched
    gone_was = ap (λ (g : FlatModel). gone_of g.cards touched) new_is

    back : (a : Adapted) → IsAdapted (flat_of after) (marks_of (flat_of before_) es) es a → IsAdapted new kept es a
    back a h = subst (λ (g : FlatModel). IsAdapted g kept es a) (sym new_is) (subst (λ k. IsAdapted (flat_of after) k es a) (sym kept_was) h)

  pub adapt-moved : (changes : List (ℕ × Option Mark)) → region_misfit old new found.known es touched found.nodes ≡ None → changes ≡ without (gone_of new.cards touched) found.changes → Ascends first changes →
      AdaptsRight old new rank touched kept es (adapted.Moved changes)
  adapt-moved changes none are ascends before_ after old_is new_is ch kept_is =
      back before_ after old_is new_is kept_is (adapted.Moved changes)
      (moved before_ after rank touched es ch found (right_was before_ after old_is new_is kept_is) (con_was before_ after old_is new_is kept_is) changes (sym (position_was before_ after old_is new_is kept_is) ∙ none)
      (are ∙ ap (λ gs. without gs found.changes) (gone_was before_ after old_is new_is kept_is)) ascends)

  pub adapt-blocked : (p : ℕ) → region_misfit old new found.known es touched found.nodes ≡ Some p → AdaptsRight old new rank touched kept es (adapted.Blocked p)
  adapt-blocked p at before_ after old_is new_is ch kept_is =
      back before_ after old_is new_is kept_is (adapted.Blocked p)
      (blocked before_ after rank touched es ch found (right_was before_ after old_is new_is kept_is) (con_was before_ after old_is new_is kept_is) p (sym (position_was before_ after old_is new_is kept_is) ∙ at))
