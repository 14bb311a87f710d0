-- Outside a region two solutions are one.
use Rattle.wsm_marks.proofs.{Common.{ℕ, ◌∙◌, ◌≡◌, all-rows-map, all_rows, AllRows, ap, Bool, both_rows, Card, card_at, Closed, Facts, false, IsRank, List, Marking, None, Option, refl, sig_at, sig_by, Solves, Some, sym}, RankInduction.Known}
use Rattle.wsm_marks.proofs.{RankInduction.rank_induction, Solutions.eq_of-same}

module _ (cards1 : List Card) (f1 : Facts) (m1 : Marking) (cards2 : List Card) (f2 : Facts) (m2 : Marking) (inside : ℕ → Bool) where
  -- a source outside has one mark in both
  abbrev pub Agrees : ℕ → Type 0
  Agrees n = inside n ≡ false → m1 n ≡ m2 n

  -- an edge from a source signals the same in both, if the source's marks are the same
  abbrev pub SameSignal : Option ℕ → ℕ → Type 0
  SameSignal label n = Known cards2 Agrees n → sig_at cards1 f1 m1 label n ≡ sig_at cards2 f2 m2 label n

  -- each node outside has one card in both, and its sources signal the same, if those outside have one mark
  pub record Bordered : Type 0 where
    pub card : (n : ℕ) (c : Card) → card_at n cards2 ≡ Some c → inside n ≡ false → card_at n cards1 ≡ Some c
    pub ins : (n : ℕ) (c : Card) → card_at n cards2 ≡ Some c → inside n ≡ false → AllRows (λ e. SameSignal e.label e.node) c.ins
    pub syncs : (n : ℕ) (c : Card) → card_at n cards2 ≡ Some c → inside n ≡ false → AllRows (SameSignal None) c.syncs_in

  -- outside the region the solutions are one
  pub remark : (rank : List ℕ) → IsRank cards2 rank → Bordered → Solves cards1 f1 m1 → Solves cards2 f2 m2 → (n : ℕ) (c : Card) → card_at n cards2 ≡ Some c → Agrees n
  remark rank is border s1 s2 =
      rank_induction cards2 rank is Agrees (λ n c e ins syncs out.
      s1.meets n c (border.card n c e out)
      ∙ eq_of-same c _ _ _ _
      (both_rows (λ x. Known cards2 Agrees x.node) (λ x. SameSignal x.label x.node) _ (λ x known same. same known) c.ins ins (border.ins n c e out))
      (both_rows (λ x. Known cards2 Agrees x) (SameSignal None) _ (λ x known same. same known) c.syncs_in syncs (border.syncs n c e out))
      ∙ sym (s2.meets n c e))

  -- an edge from outside a closed region signals the same
  pub same_outside : Closed cards1 f1 cards2 f2 inside → (label : Option ℕ) (n : ℕ) → inside n ≡ false → SameSignal label n
  same_outside closed label n out known =
      ap (λ o. sig_by o (m1 n) (f1.ended n) (f1.choice n) label) (closed.cards n out)
      ∙ go (card_at n cards2) known
    where
      go : (o : Option Card) → ((c : Card) → o ≡ Some c → Agrees n) → sig_by o (m1 n) (f1.ended n) (f1.choice n) label ≡ sig_by o (m2 n) (f2.ended n) (f2.choice n) label
      go None h = refl
      go (Some c) h = rw (h c refl out, closed.ended n out, closed.choice n out) refl

  -- a closed region is such a region
  pub closed-bordered : Closed cards1 f1 cards2 f2 inside → Bordered
  closed-bordered closed = record {
    card = λ n c e out. closed.cards n out ∙ e;
    ins = λ n c e out. all-rows-map _ _ (λ x o. same_outside closed x.label x.node o) c.ins (closed.ins n c e out);
    syncs = λ n c e out. all-rows-map _ _ (λ x o. same_outside closed None x o) c.syncs_in (closed.syncs n c e out);
  }

-- no equation reads a start: where two trails tell the same of ends and choices, the solutions are one
pub starts-change_none : (cards : List Card) (rank : List ℕ) → IsRank cards rank → (f f' : Facts) (m m' : Marking) → Solves cards f m → Solves cards f' m' →
    ((n : ℕ) → f.ended n ≡ f'.ended n) → ((n : ℕ) → f.choice n ≡ f'.choice n) → (n : ℕ) (c : Card) → card_at n cards ≡ Some c → m n ≡ m' n
starts-change_none cards rank is f f' m m' s s' ended choice n c at =
    remark cards f m cards f' m' (λ _. false) rank is (closed-bordered cards f m cards f' m' (λ _. false) (record {
      cards = λ k out. refl;
      ended = λ k out. ended k;
      choice = λ k out. choice k;
      ins = λ k d found out. all_rows _ (λ x. refl) d.ins;
      syncs = λ k d found out. all_rows _ (λ x. refl) d.syncs_in;
    })) s s' n c at refl
