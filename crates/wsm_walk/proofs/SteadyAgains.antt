-- A repeat that fits at one position fits at each later one.
use Rattle.wsm_walk.proofs.Common.{ℕ, ◌&&◌, ◌<◌, ◌∙◌, ◌≡◌, and_parts, ap, arith, before, Bool, both_ways, Card, card_at, cases_Bool, early, Entry, eqb-true, Facts, false, fits, FlatModel, flow, if◌then◌else◌, inl, inr, is_again_of}
use Rattle.wsm_walk.proofs.{Common.{is_loop_end, is_yes, lt-ltb, ltb-true, Marking, nat_lt, None, not, on_card, Option, partner_done, refl, Some, subst, sym, time, Timed, true, Value, worked_on}, LeastMisfit.Steady}
use Rattle.wsm_schema.specs.declared.entries.Entry.TheVariants as entry

true-not : (b : Bool) → not b ≡ false → b ≡ true
true-not true h = refl
true-not false h = absurd (both_ways _ h refl)

later-fact : (p q : ℕ) (o : Option ℕ) → p < q → early p o ≡ true → early q o ≡ true
later-fact p q None less h = absurd (both_ways _ refl h)
later-fact p q (Some t) less h = let below = ltb-true t p h in lt-ltb t q (omega (arith, below, less))

later-time : (p q : ℕ) (x : Timed) → p < q → is_yes (before p x) ≡ true → is_yes (before q x) ≡ true
later-time p q x less h =
    elim (cases_Bool (nat_lt (time x) p)) [
      | inr late ↦ absurd (both_ways _ refl (rw late at h))
      | inl soon ↦
          let below = ltb-true (time x) p soon in
          let still : nat_lt (time x) q ≡ true = lt-ltb (time x) q (omega (arith, below, less)) in
          rw still (rw soon at h)
    ]

module _ (g : FlatModel) (f : Facts) (m : Marking) where
  later-partner : (p q : ℕ) (o : Option ℕ) → p < q → partner_done g.cards f m p o ≡ true → partner_done g.cards f m q o ≡ true
  later-partner p q None less h = absurd (both_ways _ refl h)
  later-partner p q (Some n) less h = go (card_at n g.cards) h
    where
      go : (o : Option Card) → on_card o (λ d. if worked_on d.kind then early p (f.ended n) else is_yes (before p (m n))) ≡ true → on_card o (λ d. if worked_on d.kind then early q (f.ended n) else is_yes (before q (m n))) ≡ true
      go None h = absurd (both_ways _ refl h)
      go (Some d) h =
          elim (cases_Bool (worked_on d.kind)) [
            | inl works ↦ rw works (later-fact p q (f.ended n) less (rw works at h))
            | inr silent ↦ rw silent (later-time p q (m n) less (rw silent at h))
          ]

  later-again : (p q : ℕ) (o : Option Card) → p < q → on_card o (λ c. is_loop_end c.kind && partner_done g.cards f m p c.partner) ≡ true → on_card o (λ c. is_loop_end c.kind && partner_done g.cards f m q c.partner) ≡ true
  later-again p q None less h = absurd (both_ways _ refl h)
  later-again p q (Some c) less h =
      let parts = and_parts (is_loop_end c.kind) (partner_done g.cards f m p c.partner) h in
      rw parts.0 (later-partner p q c.partner less parts.1)

  pub steady-agains : (value : ℕ → ℕ → Option Value) (k : ℕ) → Steady (λ e. is_again_of k e.1) (λ e. not (fits g f m (λ d. value d e.0) e.0 e.1))
  steady-agains value k d e less it fine too = go d.0 e.0 d.1 e.1 less it fine too
    where
      go : (p q : ℕ) (x y : Entry) → p < q → is_again_of k x ≡ true → not (fits g f m (λ d. value d p) p x) ≡ false → is_again_of k y ≡ true → not (fits g f m (λ d. value d q) q y) ≡ false
      go p q (entry.Again i v) (entry.Again j w) less it fine too =
          let same : i ≡ j = eqb-true i k it ∙ sym (eqb-true j k too) in
          let first = true-not (on_card (card_at i g.cards) (λ c. is_loop_end c.kind && partner_done g.cards f m p c.partner)) fine in
          ap not (ap (λ n. on_card (card_at n g.cards) (λ c. is_loop_end c.kind && partner_done g.cards f m q c.partner)) (sym same) ∙ later-again p q (card_at i g.cards) less first)
      go p q (entry.Again i v) (entry.Start n user reads) less it fine too = absurd (both_ways _ refl too)
      go p q (entry.Again i v) (entry.End n writes choice) less it fine too = absurd (both_ways _ refl too)
      go p q (entry.Again i v) (entry.Wrote writes) less it fine too = absurd (both_ways _ refl too)
      go p q (entry.Start n user reads) y less it fine too = absurd (both_ways _ refl it)
      go p q (entry.End n writes choice) y less it fine too = absurd (both_ways _ refl it)
      go p q (entry.Wrote writes) y less it fine too = absurd (both_ways _ refl it)
