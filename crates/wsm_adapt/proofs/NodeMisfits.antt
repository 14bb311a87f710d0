-- What of a node does not fit a new schema is told by its cards, its mark and the new marks, if all of it fitted the old one.
use Rattle.wsm_adapt.proofs.Common.{ℕ, ◌&&◌, ◌∙◌, ◌≡◌, again_fits, again_misfit, AllRows, and_parts, ap, bad_at, before, Bool, both_ways, Card, card_at, choice_of, edges-fit, end_fits, end_misfit, Entries, Entry, entry_at, eqb-true, Facts}
use Rattle.wsm_adapt.proofs.Common.{facts_of, false, find, fits, fits_choice, fits_edges, fits_reads, FlatModel, found-entry, found-row, if◌then◌else◌, is_again_of, is_end_of, is_start_of, is_yes, lesser, List, Marking, misfit_of, node_bad}
use Rattle.wsm_adapt.proofs.Common.{None, not, on_card, Option, option_map, reads-fit, reads_in, refl, RisesAfter, Some, start_fits, start_misfit, sym, Timed, true, unless, Value, value_below, worked_on, Written}
use Rattle.wsm_schema.specs.declared.entries.Entry.TheVariants as entry

flip : (t : Bool) (p : ℕ) → (if not t then Some p else None) ≡ unless t p
flip true p = refl
flip false p = refl

-- reads and writes by the cards alone
start-same : (value : ℕ → Option Value) (reads : List (ℕ × Option Value)) (before_p : Bool) (test : Card → Bool) (o c : Option Card) → on_card o (λ d. test d && fits_reads value reads d.reads) ≡ true → (x : Timed) (p : ℕ) →
    on_card c (λ d. (worked_on d.kind && is_yes (before p x)) && fits_reads value reads d.reads) ≡ start_fits c x p reads
start-same value reads before_p test None c h x p = absurd (both_ways _ refl h)
start-same value reads before_p test (Some o) None h x p = refl
start-same value reads before_p test (Some o) (Some d) h x p =
    ap (λ t. (worked_on d.kind && is_yes (before p x)) && t) (reads-fit value reads o.reads d.reads (and_parts (test o) (fits_reads value reads o.reads) h).1)

end-same : (a b : FlatModel) (writes : Written) (choice : Option ℕ) (o c : Option Card) → on_card o (λ d. fits_edges a.elements writes d.writes && fits_choice d choice) ≡ true →
    on_card c (λ d. fits_edges b.elements writes d.writes && fits_choice d choice) ≡ end_fits a b o c choice
end-same a b writes choice None c h = absurd (both_ways _ refl h)
end-same a b writes choice (Some o) None h = refl
end-same a b writes choice (Some o) (Some d) h =
    ap (λ t. t && fits_choice d choice) (edges-fit a.elements b.elements writes o.writes d.writes (and_parts (fits_edges a.elements writes o.writes) (fits_choice o choice) h).0)

module _ (a b : FlatModel) (es : Entries) (rises : RisesAfter 0 es) (m1 m2 : Marking) (fit : AllRows (λ (e : ℕ × Entry). fits a (facts_of es) m1 (λ d. value_below d e.0 es) e.0 e.1 ≡ true) es) where
  abbrev f : Facts
  f = facts_of es

  abbrev Fit : ℕ × Entry → Type 0
  Fit e = fits a f m1 (λ d. value_below d e.0 es) e.0 e.1 ≡ true

  abbrev bad : ℕ × Entry → Bool
  bad e = not (fits b f m2 (λ d. value_below d e.0 es) e.0 e.1)

  start-is : (n : ℕ) → bad_at bad (find (λ e. is_start_of n e.1) es) ≡ start_misfit es (card_at n b.cards) (m2 n) (f.started n)
  start-is n = go (find (λ e. is_start_of n e.1) es) refl
    where
      go : (o : Option (ℕ × Entry)) → find (λ e. is_start_of n e.1) es ≡ o → bad_at bad o ≡ start_misfit es (card_at n b.cards) (m2 n) (option_map (λ e. e.0) o)
      go None at = refl
      go (Some (p, entry.Start k user reads)) at =
          let found = found-row Fit (is_start_of n) es (p, entry.Start k user reads) fit at in
          let same : k ≡ n = eqb-true k n found.1 in
          let here : entry_at p es ≡ Some (entry.Start k user reads) = found-entry (is_start_of n) 0 es (p, entry.Start k user reads) rises at in
          flip (fits b f m2 (λ d. value_below d p es) p (entry.Start k user reads)) p
          ∙ ap (λ t. unless t p) (start-same (λ d. value_below d p es) reads true (λ d. worked_on d.kind && is_yes (before p (m1 k))) (card_at k a.cards) (card_at k b.cards) found.0 (m2 k) p)
          ∙ ap (λ j. unless (start_fits (card_at j b.cards) (m2 j) p reads) p) same
          ∙ ap (λ x. unless (start_fits (card_at n b.cards) (m2 n) p (reads_in x)) p) (sym here)
      go (Some (p, entry.End k writes choice)) at = absurd (both_ways _ refl (found-row Fit (is_start_of n) es (p, entry.End k writes choice) fit at).1)
      go (Some (p, entry.Again k writes)) at = absurd (both_ways _ refl (found-row Fit (is_start_of n) es (p, entry.Again k writes) fit at).1)
      go (Some (p, entry.Wrote writes)) at = absurd (both_ways _ refl (found-row Fit (is_start_of n) es (p, entry.Wrote writes) fit at).1)

  end-is : (n : ℕ) → bad_at bad (find (λ e. is_end_of n e.1) es) ≡ end_misfit a b (card_at n a.cards) (card_at n b.cards) (f.ended n) (f.choice n)
  end-is n = go (find (λ e. is_end_of n e.1) es) refl
    where
      go : (o : Option (ℕ × Entry)) → find (λ e. is_end_of n e.1) es ≡ o → bad_at bad o ≡ end_misfit a b (card_at n a.cards) (card_at n b.cards) (option_map (λ e. e.0) o) (choice_of o)
      go None at = refl
      go (Some (p, entry.End k writes choice)) at =
          let found = found-row Fit (is_end_of n) es (p, entry.End k writes choice) fit at in
          let same : k ≡ n = eqb-true k n found.1 in
          flip (fits b f m2 (λ d. value_below d p es) p (entry.End k writes choice)) p
          ∙ ap (λ t. unless t p) (end-same a b writes choice (card_at k a.cards) (card_at k b.cards) found.0)
          ∙ ap (λ j. unless (end_fits a b (card_at j a.cards) (card_at j b.cards) choice) p) same
      go (Some (p, entry.Start k user reads)) at = absurd (both_ways _ refl (found-row Fit (is_end_of n) es (p, entry.Start k user reads) fit at).1)
      go (Some (p, entry.Again k writes)) at = absurd (both_ways _ refl (found-row Fit (is_end_of n) es (p, entry.Again k writes) fit at).1)
      go (Some (p, entry.Wrote writes)) at = absurd (both_ways _ refl (found-row Fit (is_end_of n) es (p, entry.Wrote writes) fit at).1)

  again-is : (n : ℕ) → bad_at bad (find (λ e. is_again_of n e.1) es) ≡ again_misfit b.cards f m2 (card_at n b.cards) (option_map (λ e. e.0) (find (λ e. is_again_of n e.1) es))
  again-is n = go (find (λ e. is_again_of n e.1) es) refl
    where
      go : (o : Option (ℕ × Entry)) → find (λ e. is_again_of n e.1) es ≡ o → bad_at bad o ≡ again_misfit b.cards f m2 (card_at n b.cards) (option_map (λ e. e.0) o)
      go None at = refl
      go (Some (p, entry.Again k writes)) at =
          let found = found-row Fit (is_again_of n) es (p, entry.Again k writes) fit at in
          flip (fits b f m2 (λ d. value_below d p es) p (entry.Again k writes)) p ∙ ap (λ j. unless (again_fits b.cards f m2 (card_at j b.cards) p) p) (eqb-true k n found.1)
      go (Some (p, entry.Start k user reads)) at = absurd (both_ways _ refl (found-row Fit (is_again_of n) es (p, entry.Start k user reads) fit at).1)
      go (Some (p, entry.End k writes choice)) at = absurd (both_ways _ refl (found-row Fit (is_again_of n) es (p, entry.End k writes choice) fit at).1)
      go (Some (p, entry.Wrote writes)) at = absurd (both_ways _ refl (found-row Fit (is_again_of n) es (p, entry.Wrote writes) fit at).1)

  pub misfit-is : (n : ℕ) → node_bad bad es n ≡ misfit_of a b f m2 es n
  misfit-is n = λ i. lesser (start-is n i) (lesser (end-is n i) (again-is n i))
