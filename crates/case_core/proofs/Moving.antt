-- What another schema makes of a case's marks and of its work items.
use Rattle.case_core.proofs.Common.{ℕ, ◌∙◌, ◌≡◌, AdaptsRight, ap, Ascends, ascends-listed, both_ways, card_at, cards_of, cases_Bool, ChangesItems, Entry, Err, false, first, flat_of, FlatModel, inl, inr, is_one_of, is_sound, is_whole}
use Rattle.case_core.proofs.Common.{IsAdapted, IsAdaptedTo, IsChecked, IsRank, Item, item_after, item_at, item_at-changed, item_by, item_for, KeepsItems, Kept, List, LiveModel, Mark, mark_of, mark_or, marks_in, marks_of, Moves, None, Ok}
use Rattle.case_core.proofs.{Common.{Option, option_map, refl, Result, rises-after, SchemaModel, Some, sound-regular, subst, sym, TellsItems, TellsTouched, user_at}, Marked.table}
use Rattle.std.specs.Prelude.{IfOk, is_some}
use Rattle.wsm_adapt.specs.{Adapting.Changes, Border.is_known, Region.IsNet, declared.adapting.Adapted.Adapted}
use Rattle.wsm_adapt.specs.declared.adapting.Adapted.TheVariants as adapted
use Rattle.wsm_walk.specs.Untouched.{Untouched}

-- a sound schema is a net with its rank
pub net-of : (s : SchemaModel) → IsChecked s → (flat : FlatModel) → flat ≡ flat_of s → (rank : List ℕ) → IsRank (cards_of s) rank → IsNet flat rank
net-of s checked flat flat_is rank ranked = (s, flat_is, sound-regular s (is_sound s checked.sound).blocks, ranked)

module _ (l : LiveModel) (kept : Kept l) (s : SchemaModel) (checked : IsChecked s) (old new : FlatModel) (old_is : old ≡ flat_of l.schema) (new_is : new ≡ flat_of s) (rank touched : List ℕ) (ranked : IsRank (cards_of s) rank)
    (others : (n : ℕ) → is_one_of n touched ≡ false → Untouched old new n) (rows : List (ℕ × Mark)) (rows_are : rows ≡ marks_in l) (es : List (ℕ × Entry)) (es_are : es ≡ l.trail.entries) where
  schemas : Changes l.schema s rank touched l.trail.entries
  schemas = record {
    regular_before = sound-regular l.schema (is_sound l.schema kept.checked.sound).blocks;
    regular_after = sound-regular s (is_sound s checked.sound).blocks;
    rank_before = kept.checked.rank;
    ranked_before = kept.checked.ranked;
    ranked_after = ranked;
    untouched = λ n away. subst (λ (f : FlatModel). Untouched f (flat_of s) n) old_is (subst (λ (f : FlatModel). Untouched old f n) new_is (others n away));
    rises = rises-after 0 l.trail.next l.trail.entries kept.rises;
    marking = (table l kept).0;
    replays = (table l kept).1;
  }

  adapts : (a : Adapted) → AdaptsRight old new rank touched rows es a → IsAdapted (flat_of s) (marks_in l) l.trail.entries a
  adapts a right =
      let right_on : AdaptsRight old new rank touched (marks_in l) l.trail.entries a = subst (λ (xs : List (ℕ × Entry)). AdaptsRight old new rank touched (marks_in l) xs a) es_are (subst (λ rs. AdaptsRight old new rank touched rs es a) rows_are right) in
      subst (λ (f : FlatModel). IsAdapted f (marks_in l) l.trail.entries a) new_is (right_on l.schema s old_is new_is schemas (ap (λ (f : FlatModel). marks_of f l.trail.entries) (sym old_is)))

  -- a node without a change is not touched
  same-card : (changes : List (ℕ × Option Mark)) → TellsTouched touched (adapted.Moved changes) → (n : ℕ) → item_at n changes ≡ None → card_at n (cards_of l.schema) ≡ card_at n (cards_of s)
  same-card changes tells n none =
      elim (cases_Bool (is_one_of n touched)) [
        | inl seed ↦ absurd (both_ways (is_known changes n) (ap is_some none) (tells n seed))
        | inr away ↦ (schemas.untouched n away).card
      ]

  pub adapted-to : (a : Adapted) → AdaptsRight old new rank touched rows es a → TellsTouched touched a → IsAdaptedTo l s a
  adapted-to (adapted.Moved changes) right tells =
      let found = adapts (adapted.Moved changes) right in
      (ap is_whole found.1, record { marks = found.2; cards = same-card changes tells })
  adapted-to (adapted.Blocked position) right tells = adapts (adapted.Blocked position) right

-- two facts of one value, where there is one
pub both-ok : {X E : Type 0} (r : Result X E) (P Q S : X → Type 0) → ((x : X) → P x → Q x → S x) → IfOk r P → IfOk r Q → IfOk r S
both-ok (Ok x) P Q S both p q = both x p q
both-ok (Err e) P Q S both p q = tt

-- the work items on another schema
pub moved-items : (l : LiveModel) (s : SchemaModel) (changes : List (ℕ × Option Mark)) → Ascends first changes → Moves l s changes → (old now : List (ℕ × Item)) (taken : List (ℕ × Option Item)) → KeepsItems l old →
    ChangesItems (cards_of s) l.trail.entries changes taken → ((n : ℕ) → item_at n now ≡ item_after (item_at n taken) (item_at n old)) → TellsItems (cards_of s) l.trail.entries (marks_of (flat_of s) l.trail.entries) now
moved-items l s changes up moves old now taken keeps changed_so taken_in n = go (item_at n changes) refl
  where
    es : List (ℕ × Entry)
    es = l.trail.entries

    marks : item_at n (marks_of (flat_of s) es) ≡ item_after (item_at n changes) (item_at n (marks_in l))
    marks = ap (item_at n) (sym moves.marks) ∙ item_at-changed n changes (marks_in l) up (ascends-listed (mark_of (flat_of l.schema) es) (cards_of l.schema))

    go : (o : Option (Option Mark)) → item_at n changes ≡ o → item_at n now ≡ item_for (cards_of s) es n (item_at n (marks_of (flat_of s) es))
    go (Some x) at =
        taken_in n
        ∙ ap (λ i. item_after i (item_at n old)) (changed_so n ∙ ap (option_map (item_for (cards_of s) es n)) at)
        ∙ ap (item_for (cards_of s) es n) (sym (marks ∙ ap (λ c. item_after c (item_at n (marks_in l))) at))
    go None at =
        let k : Option Mark = item_at n (marks_in l) in
        taken_in n
        ∙ ap (λ i. item_after i (item_at n old)) (changed_so n ∙ ap (option_map (item_for (cards_of s) es n)) at)
        ∙ keeps n
        ∙ ap (λ c. item_by c n (mark_or k) (user_at es (mark_or k).started)) (moves.cards n at)
        ∙ ap (item_for (cards_of s) es n) (sym (marks ∙ ap (λ c. item_after c k) at))
