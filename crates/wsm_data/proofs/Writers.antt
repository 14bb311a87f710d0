-- What cards write, and cards without writes.
use Rattle.wsm_data.proofs.Common.{[], ℕ, ◌&&◌, ◌∙◌, ◌∷◌, ◌≡◌, all_rows, AllRows, ap, arith, Ascends, both, Card, card_of, cards_of, cases_Bool, eqb, eqb-true, filter, find, first_some, inl, InOrder, inr, is_one_of, key_lt, List, lt_from}
use Rattle.wsm_data.proofs.Common.{lt_means, map, None, not, number, option_map, option_or, parallel_write, parallel_writes, parts_apart, Place, places, refl, rows-map, SchemaModel, subst, sym, synced, true, WritesInOrder}
use Rattle.wsm_schema.specs.declared.faults.DataFault.TheVariants.{ParallelWrite}

no-write : (s : SchemaModel) (a b : Card) → a.writes ≡ [] → parallel_write s a b ≡ None
no-write s a b none =
    elim (cases_Bool (parts_apart s.body a.node b.node && not (synced s a.node b.node))) [
      | inl test ↦ rw test (ap (λ ws. option_map (ParallelWrite a.node b.node) (find (λ d. is_one_of d b.writes) ws)) none)
      | inr test ↦ rw test refl
    ]

-- a node without writes writes beside none
pub no-writes : (s : SchemaModel) (a : Card) (others : List Card) → a.writes ≡ [] → None ≡ first_some (parallel_write s a) others
no-writes s a [] none = refl
no-writes s a (b ∷ bs) none = no-writes s a bs none ∙ ap (λ o. option_or o (first_some (parallel_write s a) bs)) (sym (no-write s a b none))

-- where no node writes, none writes beside another
pub nothing-written : (s : SchemaModel) → s.writes ≡ [] → None ≡ parallel_writes s (cards_of s)
nothing-written s none = go (places s.start s.body s.finish)
  where
    go : (ps : List Place) → None ≡ parallel_writes s (map (card_of s) ps)
    go [] = refl
    go (p ∷ ps) =
        go ps
        ∙ ap (λ o. option_or o (parallel_writes s (map (card_of s) ps))) (no-writes s (card_of s p) (map (card_of s) ps) (ap (λ ws. map (λ (w : ℕ × ℕ). w.1) (filter (λ w. eqb w.0 p.node) ws)) none))

-- what one node writes ascends as the write edges do
seconds-above : (n x : ℕ) (ws : List (ℕ × ℕ)) → AllRows (λ w. key_lt (n, x) w ≡ true) ws → AllRows (λ y. key_lt (number x) (number y) ≡ true) (map (λ w. w.1) (filter (λ w. eqb w.0 n) ws))
seconds-above n x [] h = tt
seconds-above n x (w ∷ ws) h =
    elim (cases_Bool (eqb w.0 n)) [
      | inl same ↦ rw same (
        lt_from (number x) (number w.1)
            (inl (elim (lt_means (n, x) w h.0) [ inl less ↦ absurd (let one = eqb-true w.0 n same in omega (arith, less, one)) | inr later ↦ later.1 ])),
        seconds-above n x ws h.1,
      )
      | inr other ↦ rw other (seconds-above n x ws h.1)
    ]

seconds-ascend : (n : ℕ) (ws : List (ℕ × ℕ)) → Ascends both ws → InOrder (map (λ w. w.1) (filter (λ w. eqb w.0 n) ws))
seconds-ascend n [] h = tt
seconds-ascend n (w ∷ ws) h =
    elim (cases_Bool (eqb w.0 n)) [
      | inl same ↦ rw same (seconds-above n w.1 ws (ap-first (eqb-true w.0 n same) h.0), seconds-ascend n ws h.1)
      | inr other ↦ rw other (seconds-ascend n ws h.1)
    ]
  where
    ap-first : w.0 ≡ n → AllRows (λ v. key_lt w v ≡ true) ws → AllRows (λ v. key_lt (n, w.1) v ≡ true) ws
    ap-first one above = subst (λ m. AllRows (λ v. key_lt (m, w.1) v ≡ true) ws) one above

pub writes-ascend : (s : SchemaModel) → Ascends both s.writes → WritesInOrder (cards_of s)
writes-ascend s order =
    rows-map (λ (c : Card). InOrder c.writes) (card_of s) (places s.start s.body s.finish)
    (all_rows _ (λ (p : Place). seconds-ascend p.node s.writes order) (places s.start s.body s.finish))
