-- A replay over tables with the same spots answers the same.
use Rattle.wsm_replay.proofs.Common.{[], ℕ, ◌&&◌, ◌+◌, ◌<◌, ◌∙◌, ◌∷◌, ◌≡◌, ◌≤◌, add-one, after, AllRows, answer, ap, applicable, applicable_end, applicable_start, Bool, by_node, Card, card_at, cases_Bool, drop, drop-cons, drop_of_length-le}
use Rattle.wsm_replay.proofs.Common.{Entry, eq-eqb, eqb, fails, false, FlatModel, get_or, inl, inr, is_in_state, IsRank, length, List, marking_of, None, on_card, Option, partner_completed, put_row, refl, replay_from, SameSpots, Some}
use Rattle.wsm_replay.proofs.{Common.{spot_in, Spots, suc, sym, true, Value, whole}, Agreement.after-same}
use Rattle.std.specs.List.{fold}
use Rattle.wsm_schema.specs.Kinds.{is_loop_end}
use Rattle.wsm_schema.specs.declared.entries.Entry.TheVariants as entry
use Rattle.wsm_schema.specs.declared.states.State.TheVariants as state
use Rattle.wsm_replay.specs.declared.Replayed.TheVariants as replayed

-- ---- applicable entries

on_card-same : (o : Option Card) (f g : Card → Bool) → ((c : Card) → o ≡ Some c → f c ≡ g c) → on_card o f ≡ on_card o g
on_card-same None f g h = refl
on_card-same (Some c) f g h = h c refl

module _ (f : FlatModel) (a b : Spots) (same : SameSpots f.cards a b) where
  partner-same : (p : Option ℕ) → partner_completed f.cards a p ≡ partner_completed f.cards b p
  partner-same None = refl
  partner-same (Some n) = on_card-same (card_at n f.cards) _ _ (λ c e. ap (λ s. is_in_state s.state state.Completed) (same n c e))

  pub applicable-same : (value : ℕ → Option Value) (e : Entry) → applicable f a value e ≡ applicable f b value e
  applicable-same value (entry.Start node user reads) =
      on_card-same (card_at node f.cards) _ _ (λ c e. ap (λ s. applicable_start c s.state value reads) (same node c e))
  applicable-same value (entry.End node writes choice) =
      on_card-same (card_at node f.cards) _ _ (λ c e. ap (λ s. applicable_end f.elements c s.state writes choice) (same node c e))
  applicable-same value (entry.Again node writes) =
      on_card-same (card_at node f.cards) _ _ (λ c e. ap (λ p. is_loop_end c.kind && p) (partner-same c.partner))
  applicable-same value (entry.Wrote writes) = refl

-- ---- markings

-- each card's node has a card
all-found : (cards : List Card) → AllRows (λ c. (d : Card) × (card_at c.node cards ≡ Some d)) cards
all-found [] = tt
all-found (c ∷ cs) = ((c, rw (eq-eqb c.node c.node refl) refl), more cs (all-found cs))
  where
    more : (ds : List Card) → AllRows (λ x. (d : Card) × (card_at x.node cs ≡ Some d)) ds → AllRows (λ x. (d : Card) × (card_at x.node (c ∷ cs) ≡ Some d)) ds
    more [] h = tt
    more (x ∷ xs) h = (
      elim (cases_Bool (eqb c.node x.node)) [
        | inl same ↦ (c, rw same refl)
        | inr other ↦ (h.0.0, rw other h.0.1)
      ],
      more xs h.1,
    )

pub marking_of-same : (cards : List Card) (a b : Spots) → SameSpots cards a b → marking_of cards a ≡ marking_of cards b
marking_of-same cards a b same = go cards [] (all-found cards)
  where
    go : (cs : List Card) (m : Spots) → AllRows (λ c. (d : Card) × (card_at c.node cards ≡ Some d)) cs →
        fold (λ m c. put_row by_node (spot_in c.node a) m) m cs ≡ fold (λ m c. put_row by_node (spot_in c.node b) m) m cs
    go [] m h = refl
    go (c ∷ cs) m h =
        ap (λ s. fold (λ m c. put_row by_node (spot_in c.node a) m) (put_row by_node s m) cs) (same c.node h.0.0 h.0.1)
        ∙ go cs (put_row by_node (spot_in c.node b) m) h.1

-- ---- the replay

module _ (f : FlatModel) (rank : List ℕ) (is : IsRank f.cards rank) (value : ℕ → ℕ → Option Value) where
  pub replay_from-same : (es : List (ℕ × Entry)) (a b : Spots) → SameSpots f.cards a b → answer f.cards (replay_from f value es a) ≡ answer f.cards (replay_from f value es b)
  replay_from-same [] a b same = ap replayed.Whole (marking_of-same f.cards a b same)
  replay_from-same (e ∷ es) a b same =
      elim (cases_Bool (applicable f b (λ d. value d e.0) e.1)) [
        | inl fits ↦ rw (applicable-same f a b same (λ d. value d e.0) e.1, fits) (replay_from-same es _ _ (after-same f.cards rank is e.1 a b same))
        | inr misfits ↦ rw (applicable-same f a b same (λ d. value d e.0) e.1, misfits) refl
      ]

  -- an entry that is applicable, and the table after it
  pub replay_goes_on : (es : List (ℕ × Entry)) (i : ℕ) (e : ℕ × Entry) (t new : Spots) → i < length es → e ≡ get_or es i e →
      applicable f t (λ d. value d e.0) e.1 ≡ true → SameSpots f.cards new (after f.cards e.1 t) →
      answer f.cards (replay_from f value (drop (i + 1) es) new) ≡ answer f.cards (replay_from f value (drop i es) t)
  replay_goes_on es i e t new lt is_there fits same =
      let split : drop i es ≡ e ∷ drop (i + 1) es = rw (add-one, drop-cons es i e lt) (ap (λ x. x ∷ drop (suc i) es) (sym is_there)) in
      rw (split, fits) (replay_from-same (drop (i + 1) es) new (after f.cards e.1 t) same)

  pub replay_stops : (es : List (ℕ × Entry)) (i : ℕ) (e : ℕ × Entry) (t : Spots) → i < length es → e ≡ get_or es i e →
      applicable f t (λ d. value d e.0) e.1 ≡ false → fails e.0 ≡ replay_from f value (drop i es) t
  replay_stops es i e t lt is_there misfits =
      let split : drop i es ≡ e ∷ drop (i + 1) es = rw (add-one, drop-cons es i e lt) (ap (λ x. x ∷ drop (suc i) es) (sym is_there)) in
      rw (split, misfits) refl

  pub replay_ends : (es : List (ℕ × Entry)) (i : ℕ) (t : Spots) → length es ≤ i → whole t ≡ replay_from f value (drop i es) t
  replay_ends es i t le = rw (drop_of_length-le es le) refl
