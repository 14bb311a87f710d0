-- What of a trail that replays whole fitted the old schema, node by node.
use Rattle.wsm_adapt.proofs.Common.{ℕ, ◌&&◌, ◌∙◌, ◌≡◌, AllRows, and_parts, ap, before, both_ways, Card, card_at, choice_of, Entries, Entry, entry_at, eqb-true, Facts, facts_of, fits, fits_choice, fits_edges, fits_reads, FlatModel}
use Rattle.wsm_adapt.proofs.Common.{found-entry, found-row, is_again_of, is_end_of, is_loop_end, is_start_of, is_yes, Marking, on_card-true, partner_done, position-found, position_of, reads-fit, reads_fit, reads_in, refl, RisesAfter, Some}
use Rattle.wsm_adapt.proofs.Common.{sym, true, value_below, worked_on, Written}
use Rattle.wsm_schema.specs.declared.entries.Entry.TheVariants as entry

module _ (a : FlatModel) (m : Marking) (es : Entries) (rises : RisesAfter 0 es) (fit : AllRows (λ (e : ℕ × Entry). fits a (facts_of es) m (λ d. value_below d e.0 es) e.0 e.1 ≡ true) es) where
  abbrev f : Facts
  f = facts_of es

  abbrev Fit : ℕ × Entry → Type 0
  Fit e = fits a f m (λ d. value_below d e.0 es) e.0 e.1 ≡ true

  pub start-fitted : (n p : ℕ) → f.started n ≡ Some p → (c : Card) × (card_at n a.cards ≡ Some c) × (worked_on c.kind ≡ true) × (is_yes (before p (m n)) ≡ true) × (reads_fit (reads_in (entry_at p es)) c.reads ≡ true)
  start-fitted n p h =
      let x = position-found (is_start_of n) es p h in
      let r = found-row Fit (is_start_of n) es (p, x.0) fit x.1 in
      go x.0 r.0 r.1 (found-entry (is_start_of n) 0 es (p, x.0) rises x.1)
    where
      go : (e : Entry) → fits a f m (λ d. value_below d p es) p e ≡ true → is_start_of n e ≡ true → entry_at p es ≡ Some e →
          (c : Card) × (card_at n a.cards ≡ Some c) × (worked_on c.kind ≡ true) × (is_yes (before p (m n)) ≡ true) × (reads_fit (reads_in (entry_at p es)) c.reads ≡ true)
      go (entry.Start k user reads) fits_here it here =
          let o = on_card-true (card_at k a.cards) _ fits_here in
          let both = and_parts (worked_on o.0.kind && is_yes (before p (m k))) (fits_reads (λ d. value_below d p es) reads o.0.reads) o.2 in (
            o.0,
            ap (λ j. card_at j a.cards) (sym (eqb-true k n it)) ∙ o.1,
            (and_parts (worked_on o.0.kind) (is_yes (before p (m k))) both.0).0,
            ap (λ j. is_yes (before p (m j))) (sym (eqb-true k n it)) ∙ (and_parts (worked_on o.0.kind) (is_yes (before p (m k))) both.0).1,
            ap (λ q. reads_fit (reads_in q) o.0.reads) here ∙ sym (reads-fit (λ d. value_below d p es) reads o.0.reads o.0.reads both.1) ∙ both.1,
          )
      go (entry.End k writes choice) fits_here it here = absurd (both_ways _ refl it)
      go (entry.Again k writes) fits_here it here = absurd (both_ways _ refl it)
      go (entry.Wrote writes) fits_here it here = absurd (both_ways _ refl it)

  pub end-fitted : (n p : ℕ) → f.ended n ≡ Some p → (c : Card) × (w : Written) × (card_at n a.cards ≡ Some c) × (fits_edges a.elements w c.writes ≡ true) × (fits_choice c (f.choice n) ≡ true)
  end-fitted n p h =
      let x = position-found (is_end_of n) es p h in
      let r = found-row Fit (is_end_of n) es (p, x.0) fit x.1 in
      go x.0 r.0 r.1 (ap choice_of x.1)
    where
      go : (e : Entry) → fits a f m (λ d. value_below d p es) p e ≡ true → is_end_of n e ≡ true → f.choice n ≡ choice_of (Some (p, e)) →
          (c : Card) × (w : Written) × (card_at n a.cards ≡ Some c) × (fits_edges a.elements w c.writes ≡ true) × (fits_choice c (f.choice n) ≡ true)
      go (entry.End k writes choice) fits_here it chosen =
          let o = on_card-true (card_at k a.cards) _ fits_here in
          let both = and_parts (fits_edges a.elements writes o.0.writes) (fits_choice o.0 choice) o.2 in
          (o.0, writes, ap (λ j. card_at j a.cards) (sym (eqb-true k n it)) ∙ o.1, both.0, ap (fits_choice o.0) chosen ∙ both.1)
      go (entry.Start k user reads) fits_here it chosen = absurd (both_ways _ refl it)
      go (entry.Again k writes) fits_here it chosen = absurd (both_ways _ refl it)
      go (entry.Wrote writes) fits_here it chosen = absurd (both_ways _ refl it)

  pub again-fitted : (n p : ℕ) → position_of (is_again_of n) es ≡ Some p → (c : Card) × (card_at n a.cards ≡ Some c) × (is_loop_end c.kind ≡ true) × (partner_done a.cards f m p c.partner ≡ true)
  again-fitted n p h =
      let x = position-found (is_again_of n) es p h in
      let r = found-row Fit (is_again_of n) es (p, x.0) fit x.1 in
      go x.0 r.0 r.1
    where
      go : (e : Entry) → fits a f m (λ d. value_below d p es) p e ≡ true → is_again_of n e ≡ true →
          (c : Card) × (card_at n a.cards ≡ Some c) × (is_loop_end c.kind ≡ true) × (partner_done a.cards f m p c.partner ≡ true)
      go (entry.Again k writes) fits_here it =
          let o = on_card-true (card_at k a.cards) _ fits_here in
          let both = and_parts (is_loop_end o.0.kind) (partner_done a.cards f m p o.0.partner) o.2 in
          (o.0, ap (λ j. card_at j a.cards) (sym (eqb-true k n it)) ∙ o.1, both.0, both.1)
      go (entry.Start k user reads) fits_here it = absurd (both_ways _ refl it)
      go (entry.End k writes choice) fits_here it = absurd (both_ways _ refl it)
      go (entry.Wrote writes) fits_here it = absurd (both_ways _ refl it)
