-- Each touched node has a row among the changes.
use Rattle.wsm_adapt.proofs.Common.{ℕ, ◌∙◌, ◌≡◌, ◌⊎◌, ap, Card, card_at, cases_Bool, false, gone_of, if◌then◌else◌, inl, inr, is_known, is_one_of, is_some, item_at, List, Mark, None, Option, refl, Some, subst, sym, TellsTouched, true}
use Rattle.wsm_adapt.proofs.{Common.without, Filtered.filtered, NewTable.item-without}
use Rattle.std.specs.Prelude.{not}
use Rattle.wsm_adapt.specs.declared.adapting.Adapted.TheVariants as adapted

known-without : (k : ℕ) (ns : List ℕ) (rows : List (ℕ × Option Mark)) → (is_one_of k ns ≡ true) ⊎ (is_known rows k ≡ true) → is_known (without ns rows) k ≡ true
known-without k ns rows either =
    ap is_some (item-without ns rows k)
    ∙ elim (cases_Bool (is_one_of k ns)) [
      | inl lost ↦ ap (λ b. is_some (if b then Some None else item_at k rows)) lost
      | inr stays ↦
          ap (λ b. is_some (if b then Some None else item_at k rows)) stays
          ∙ elim either [
            | inl lost ↦ absurd (let q : true ≡ false = sym lost ∙ stays in cc)
            | inr known ↦ known
          ]
    ]

pub tells-touched : (cards : List Card) (touched : List ℕ) (rows changes : List (ℕ × Option Mark)) → ((n : ℕ) (c : Card) → card_at n cards ≡ Some c → is_one_of n touched ≡ true → is_known rows n ≡ true) →
    changes ≡ without (gone_of cards touched) rows → TellsTouched touched (adapted.Moved changes)
tells-touched cards touched rows changes told are n seed = subst (λ l. is_known l n ≡ true) (sym are) (known-without n (gone_of cards touched) rows (among (card_at n cards) refl))
  where
    among : (o : Option Card) → card_at n cards ≡ o → (is_one_of n (gone_of cards touched) ≡ true) ⊎ (is_known rows n ≡ true)
    among None at = inl (filtered (λ m. not (is_some (card_at m cards))) touched n seed (ap (λ o. not (is_some o)) at))
    among (Some c) at = inr (told n c at seed)
