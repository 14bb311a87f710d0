-- The replay of a trail with one entry more.
use Rattle.wsm_replay.proofs.Common.{[], ℕ, ◌++◌, ◌+◌, ◌∙◌, ◌∷◌, ◌≡◌, ◌≤◌, ◌⊎◌, after, AllRows, ap, applicable, arith, below-append, both_ways, by_node, Card, card_at, cases_Bool, Entry, eqb, eqb-true, fails, false, FlatModel, fold, inl}
use Rattle.wsm_replay.proofs.Common.{inr, is_some, le-ltb, List, marking_of, node_of-spot_in, Option, Outcome, put_row, refl, replay_from, replay_of, Rises, rises-le, row_at-put, SameSpots, Spot, spot_in, Spots, true, Value, value_below}
use Rattle.wsm_replay.proofs.{Common.whole, Agreement.spot_in-rows}
use Rattle.std.specs.Bool.{if◌then◌else◌}

-- ---- a marking has the spots that it was made from

spot_in-put : (n : ℕ) (s : Spot) (m : Spots) → spot_in n (put_row by_node s m) ≡ spot_in n (s ∷ m)
spot_in-put n s m = spot_in-rows (put_row by_node s m) (s ∷ m) (λ k. row_at-put by_node (k, 0) s m) n

-- the spot of a node after the spot of another, or its own, was put
put_told : (n k : ℕ) (t m : Spots) → eqb k n ≡ true ⊎ (spot_in n m ≡ spot_in n t) → spot_in n (put_row by_node (spot_in k t) m) ≡ spot_in n t
put_told n k t m told =
    spot_in-put n (spot_in k t) m
    ∙ elim (cases_Bool (eqb k n)) [
      | inl same ↦ rw (node_of-spot_in k t, same) (ap (λ j. spot_in j t) (eqb-true k n same))
      | inr other ↦ rw (node_of-spot_in k t, other) (from_before told other)
    ]
  where
    from_before : eqb k n ≡ true ⊎ (spot_in n m ≡ spot_in n t) → eqb k n ≡ false → spot_in n m ≡ spot_in n t
    from_before (inl same) other = absurd (both_ways _ other same)
    from_before (inr before) other = before

marked : (n : ℕ) (t : Spots) (cs : List Card) (m : Spots) → (spot_in n m ≡ spot_in n t) ⊎ (is_some (card_at n cs) ≡ true) →
    spot_in n (fold (λ m c. put_row by_node (spot_in c.node t) m) m cs) ≡ spot_in n t
marked n t [] m (inl told) = told
marked n t [] m (inr found) = absurd (both_ways _ refl found)
marked n t (c ∷ cs) m (inl told) = marked n t cs (put_row by_node (spot_in c.node t) m) (inl (put_told n c.node t m (inr told)))
marked n t (c ∷ cs) m (inr found) =
    elim (cases_Bool (eqb c.node n)) [
      | inl same ↦ marked n t cs (put_row by_node (spot_in c.node t) m) (inl (put_told n c.node t m (inl same)))
      | inr other ↦ marked n t cs (put_row by_node (spot_in c.node t) m) (inr (rw other at found))
    ]

pub marking_of-spots : (cards : List Card) (t : Spots) → SameSpots cards (marking_of cards t) t
marking_of-spots cards t n c e = marked n t cards [] (inr (ap is_some e))

-- ---- values before the last position

pub value-append : (d p next : ℕ) (e : Entry) (es : List (ℕ × Entry)) → p ≤ next → value_below d p (es ++ (next, e) ∷ []) ≡ value_below d p es
value-append d p next e es le = below-append d p es ((next, e) ∷ []) (rw (le-ltb next p le) refl)

values_stay : (low next : ℕ) (e : Entry) (all es : List (ℕ × Entry)) → Rises low next es →
    AllRows (λ x. (d : ℕ) → value_below d x.0 (all ++ (next, e) ∷ []) ≡ value_below d x.0 all) es
values_stay low next e all [] h = tt
values_stay low next e all (x ∷ xs) h =
    let below = rises-le (x.0 + 1) next xs h.1 in
    ((λ d. value-append d x.0 next e all (omega (arith, below))), values_stay (x.0 + 1) next e all xs h.1)

-- ---- the replay

abbrev pub extended : FlatModel → (ℕ → Option Value) → ℕ × Entry → Outcome → Outcome
extended f value x (whole t) = if applicable f t value x.1 then whole (after f.cards x.1 t) else fails x.0
extended f value x (fails p) = fails p

replay_from-append : (f : FlatModel) (v w : ℕ → ℕ → Option Value) (es : List (ℕ × Entry)) (x : ℕ × Entry) (t : Spots) →
    AllRows (λ e. (d : ℕ) → v d e.0 ≡ w d e.0) es → replay_from f v (es ++ x ∷ []) t ≡ extended f (λ d. v d x.0) x (replay_from f w es t)
replay_from-append f v w [] x t h = refl
replay_from-append f v w (e ∷ es) x t h =
    elim (cases_Bool (applicable f t (λ d. w d e.0) e.1)) [
      | inl fits ↦ rw (same, fits) (replay_from-append f v w es x (after f.cards e.1 t) h.1)
      | inr misfits ↦ rw (same, misfits) refl
    ]
  where
    same : applicable f t (λ d. v d e.0) e.1 ≡ applicable f t (λ d. w d e.0) e.1
    same = ap (λ value. applicable f t value e.1) (λ i d. h.0 d i)

module _ (f : FlatModel) (es : List (ℕ × Entry)) (next : ℕ) (e : Entry) (rises : Rises 1 next es) where
  -- the values before the entry
  abbrev values : ℕ → Option Value
  values d = value_below d next (es ++ (next, e) ∷ [])

  pub replay_of-append : replay_of f (es ++ (next, e) ∷ []) ≡ extended f values (next, e) (replay_of f es)
  replay_of-append = replay_from-append f _ _ es (next, e) _ (values_stay 1 next e es es rises)
