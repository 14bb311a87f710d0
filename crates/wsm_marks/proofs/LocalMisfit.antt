-- A trail that fits one net misfits another only in the region where they differ.
use Rattle.wsm_marks.proofs.Common.{[], ℕ, ◌&&◌, ◌∙◌, ◌∷◌, ◌≡◌, AllRows, ap, Bool, Card, card_at, cases_Bool, Closed, Ends, Entries, Entry, Facts, facts_of, false, first_misfit, fits, fits_choice, FlatModel, if◌then◌else◌, inl, inr}
use Rattle.wsm_marks.proofs.Common.{is_loop_end, is_of, IsRank, last_position, List, Marking, misfit_in, None, on_card, Option, Orderly, partner_done, refl, Region, replay_of, RisesAfter, solution, Solves, Some, Spots, subst, suc, sym}
use Rattle.wsm_marks.proofs.{Common.{true, Value, value_below, whole}, Cards.on_card-same, Causality.solved_net, FirstFailure.fits-rows, MarksOfTrails.whole-fits, Remark.{closed-bordered, remark}, Telling.trail-ends}
use Rattle.wsm_marks.proofs.WholeTrails.{whole-orderly}
use Rattle.wsm_schema.specs.declared.entries.Entry.TheVariants as entry

-- such a region is closed, whatever a trail tells
region-closed : (g1 g2 : FlatModel) (inside : ℕ → Bool) → Region g1 g2 inside → (f : Facts) → Closed g1.cards f g2.cards f inside
region-closed g1 g2 inside region f = record {
  cards = region.cards;
  ended = λ n out. refl;
  choice = λ n out. refl;
  ins = region.ins;
  syncs = region.syncs;
}

module _ (g1 g2 : FlatModel) (inside : ℕ → Bool) (region : Region g1 g2 inside) (f : Facts) (m1 m2 : Marking) (rank : List ℕ) (is : IsRank g2.cards rank) (s1 : Solves g1.cards f m1) (s2 : Solves g2.cards f m2) where
  same_mark : (n : ℕ) (c : Card) → card_at n g2.cards ≡ Some c → inside n ≡ false → m1 n ≡ m2 n
  same_mark = remark g1.cards f m1 g2.cards f m2 inside rank is (closed-bordered g1.cards f m1 g2.cards f m2 inside (region-closed g1 g2 inside region f)) s1 s2

  -- the tests on one card, where the node is outside
  on_same : (n : ℕ) → inside n ≡ false → (t1 t2 : Card → Bool) → ((c : Card) → card_at n g2.cards ≡ Some c → t1 c ≡ t2 c) → on_card (card_at n g1.cards) t1 ≡ on_card (card_at n g2.cards) t2
  on_same n out t1 t2 h = ap (λ o. on_card o t1) (region.cards n out) ∙ on_card-same (card_at n g2.cards) t1 t2 h

  partner-same : (q n : ℕ) (c : Card) → card_at n g2.cards ≡ Some c → inside n ≡ false → is_loop_end c.kind ≡ true → partner_done g1.cards f m1 q c.partner ≡ partner_done g2.cards f m2 q c.partner
  partner-same q n c at out ends = go c.partner refl
    where
      go : (o : Option ℕ) → c.partner ≡ o → partner_done g1.cards f m1 q o ≡ partner_done g2.cards f m2 q o
      go None h = refl
      go (Some k) h = let out_k = region.partners n k c at out ends h in on_same k out_k _ _ (λ d at_k. rw (same_mark k d at_k out_k) refl)

  fits-outside : (value : ℕ → Option Value) (p : ℕ) (x : Entry) → is_of inside x ≡ false → fits g1 f m1 value p x ≡ fits g2 f m2 value p x
  fits-outside value p (entry.Start node user reads) out = on_same node out _ _ (λ c at. rw (same_mark node c at out) refl)
  fits-outside value p (entry.End node writes choice) out = on_same node out _ _ (λ c at. ap (λ b. b && fits_choice c choice) (region.kinds node c at out writes))
  fits-outside value p (entry.Again node writes) out =
      on_same node out _ _ (λ c at. elim (cases_Bool (is_loop_end c.kind)) [
        | inl ends ↦ rw ends (partner-same p node c at out ends)
        | inr other ↦ rw other refl
      ])
  fits-outside value p (entry.Wrote writes) out = refl

  -- a trail that fits one net misfits another, first, at an entry of the region or not at all
  pub misfit-local : (value : ℕ → ℕ → Option Value) (es : Entries) → AllRows (λ e. fits g1 f m1 (λ d. value d e.0) e.0 e.1 ≡ true) es → first_misfit g2 f m2 value es ≡ misfit_in inside g2 f m2 value es
  misfit-local value [] h = refl
  misfit-local value (e ∷ es) h =
      elim (cases_Bool (is_of inside e.1)) [
        | inl it ↦ rw it (ap (λ r. if fits g2 f m2 (λ d. value d e.0) e.0 e.1 then r else Some e.0) (misfit-local value es h.1))
        | inr out ↦ rw (out, sym (fits-outside (λ d. value d e.0) e.0 e.1 out) ∙ h.0) (misfit-local value es h.1)
      ]

-- a trail that replays whole on the first flat form fails on the second at the first misfit of the region, else it ends with the marking behind the last position
pub replay-local : (g1 g2 : FlatModel) (inside : ℕ → Bool) → Region g1 g2 inside → (rank1 rank2 : List ℕ) → IsRank g1.cards rank1 → IsRank g2.cards rank2 →
    (es : Entries) (t : Spots) → RisesAfter 0 es → replay_of g1 es ≡ whole t → (m2 : Marking) → Solves g2.cards (facts_of es) m2 →
    Ends g2.cards (facts_of es) m2 (suc (last_position 0 es)) (misfit_in inside g2 (facts_of es) m2 (λ d p. value_below d p es) es) (replay_of g2 es)
replay-local g1 g2 inside region rank1 rank2 is1 is2 es t rises is_whole m2 s2 =
    let f : Facts = facts_of es in
    let value : ℕ → ℕ → Option Value = λ d p. value_below d p es in
    let net1 = solved_net g1.cards rank1 is1 f in
    let orderly : Orderly es = whole-orderly g1 es t rises is_whole in
    let fit = fits-rows g1 f (solution g1.cards rank1 f) value es (whole-fits g1 rank1 es (solution g1.cards rank1 f) net1 orderly t is_whole) in
    subst (λ o. Ends g2.cards f m2 (suc (last_position 0 es)) o (replay_of g2 es))
    (misfit-local g1 g2 inside region f (solution g1.cards rank1 f) m2 rank2 is2 net1.solves s2 value es fit)
    (trail-ends g2 rank2 es m2 (record { ranked = is2; solves = s2 }) orderly)
