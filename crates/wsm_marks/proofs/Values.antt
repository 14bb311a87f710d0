-- Values that entries wrote, and which nodes write.
use Rattle.wsm_marks.proofs.Common.{[], ℕ, ◌&&◌, ◌||◌, ◌∙◌, ◌∷◌, ◌≡◌, ◌≤◌, all-rows-card_at, all-rows-map, all_rows, AllRows, and_parts, ap, arith, Bool, both_ways, Card, card_at, card_at-node, card_of, cards_of, cases_Bool, data_fault}
use Rattle.wsm_marks.proofs.Common.{Distinct, Entries, Entry, eqb, eqb-true, false, filter, find, fits_edges, HasEdge, if◌then◌else◌, inl, inr, is_one_of, is_some, is_worked_on_in, later_or, List, list_any, lt-ltb, ltb-true, map, nat_lt}
use Rattle.wsm_marks.proofs.Common.{None, Option, or_cases, or_left, or_right, Place, places, refl, Regular, rows-map, same_Some, SchemaModel, Some, subst, sym, true, unknown, Value, value_below, value_in, worked_on, writes_of, Written}
use Rattle.wsm_marks.proofs.{Common.written_by, Lists.eqb-swap, LoopOfSchema.places-edged, NoFault.{no_either, no_first, no_when, not_false}}
use Rattle.wsm_lists.specs.declared.values.ElementKind.{ElementKind}

some-later : (a b : Option Value) → is_some (later_or a b) ≡ (is_some a || is_some b)
some-later None b = refl
some-later (Some v) b = refl

-- whether an entry before q gives an element a value
abbrev gives : ℕ → ℕ → ℕ × Entry → Bool
gives d q e = is_some (if nat_lt e.0 q then value_in d (written_by e.1) else None)

gives-in_time : (d q : ℕ) (e : ℕ × Entry) → nat_lt e.0 q ≡ true → is_some (value_in d (written_by e.1)) ≡ true → gives d q e ≡ true
gives-in_time d q e soon h = rw soon h

gives-later : (d q q' : ℕ) (e : ℕ × Entry) → q ≤ q' → gives d q e ≡ true → gives d q' e ≡ true
gives-later d q q' e le h =
    elim (cases_Bool (nat_lt e.0 q)) [
      | inl soon ↦ gives-in_time d q' e (lt-ltb e.0 q' (omega (arith, ltb-true e.0 q soon))) (rw soon at h)
      | inr late ↦ absurd (both_ways _ refl (rw late at h))
    ]

-- a value that is there stays
pub value-later : (d q q' : ℕ) → q ≤ q' → (es : Entries) → is_some (value_below d q es) ≡ true → is_some (value_below d q' es) ≡ true
value-later d q q' le [] h = h
value-later d q q' le (e ∷ es) h =
    some-later (value_below d q' es) _
    ∙ elim (or_cases (is_some (value_below d q es)) (gives d q e) (sym (some-later (value_below d q es) _) ∙ h)) [
      | inl before_it ↦ or_left (is_some (value_below d q' es)) (gives d q' e) (value-later d q q' le es before_it)
      | inr by_it ↦ or_right (is_some (value_below d q' es)) (gives d q' e) (gives-later d q q' e le by_it)
    ]

-- what an entry of the trail wrote is there
pub value-of_entry : (d p q : ℕ) (x : Entry) (test : Entry → Bool) (es : Entries) → find (λ e. test e.1) es ≡ Some (p, x) → nat_lt p q ≡ true → is_some (value_in d (written_by x)) ≡ true →
    is_some (value_below d q es) ≡ true
value-of_entry d p q x test [] found soon h = absurd (cc)
value-of_entry d p q x test (e ∷ es) found soon h =
    some-later (value_below d q es) _
    ∙ elim (cases_Bool (test e.1)) [
      | inl it ↦
          let same : e ≡ (p, x) = same_Some e (p, x) (rw it at found) in
          or_right (is_some (value_below d q es)) (gives d q e) (subst (λ y. gives d q y ≡ true) (sym same) (gives-in_time d q (p, x) soon h))
      | inr other ↦ or_left (is_some (value_below d q es)) (gives d q e) (value-of_entry d p q x test es (rw other at found) soon h)
    ]

-- writes that fit the write edges give each of their elements a value
pub edges-write : (elements : List (ℕ × ElementKind)) (d : ℕ) (ws : Written) (ds : List ℕ) → fits_edges elements ws ds ≡ true → is_one_of d ds ≡ true → is_some (value_in d ws) ≡ true
edges-write elements d [] [] fit h = absurd (both_ways _ refl h)
edges-write elements d [] (x ∷ ds) fit h = absurd (both_ways _ refl fit)
edges-write elements d (w ∷ ws) [] fit h = absurd (both_ways _ refl fit)
edges-write elements d (w ∷ ws) (x ∷ ds) fit h =
    let r = and_parts (eqb w.0 x && _) (fits_edges elements ws ds) fit in
    let named : w.0 ≡ x = eqb-true w.0 x (and_parts (eqb w.0 x) _ r.0).0 in
    elim (cases_Bool (eqb w.0 d)) [
      | inl same ↦ rw same refl
      | inr other ↦ rw other (edges-write elements d ws ds r.1 (rw (sym named, other) at h))
    ]

-- ---- what a schema's data owes
-- the writes of a node are listed there
writes-listed : (n d : ℕ) (ws : List (ℕ × ℕ)) → list_any (λ w. eqb w.0 n && eqb w.1 d) ws ≡ true → is_one_of d (map (λ w. w.1) (filter (λ w. eqb w.0 n) ws)) ≡ true
writes-listed n d [] h = h
writes-listed n d (w ∷ ws) h =
    elim (cases_Bool (eqb w.0 n)) [
      | inl same ↦
          let now : (eqb w.1 d || list_any (λ x. eqb x.0 n && eqb x.1 d) ws) ≡ true = rw same at h in
          rw same (elim (or_cases (eqb w.1 d) _ now) [ inl it ↦ or_left (eqb w.1 d) _ it | inr later ↦ or_right (eqb w.1 d) _ (writes-listed n d ws later) ])
      | inr other ↦ rw other (writes-listed n d ws (rw other at h))
    ]

module _ (s : SchemaModel) (regular : Regular s) where
  -- the card of a node has the writes of the node
  pub card-writes : (n d : ℕ) (c : Card) → card_at n (cards_of s) ≡ Some c → writes_of s n d ≡ true → is_one_of d c.writes ≡ true
  card-writes n d c at h =
      all-rows-card_at (λ x. writes_of s x.node d ≡ true → is_one_of d x.writes ≡ true) n (cards_of s) c
      (rows-map _ (card_of s) (places s.start s.body s.finish) (all_rows _ (λ p. writes-listed p.node d s.writes) (places s.start s.body s.finish))) at
      (ap (λ k. writes_of s k d) (card_at-node n (cards_of s) c at) ∙ h)

  -- each node but the start has an edge into it
  pub card-edged : (n : ℕ) (c : Card) → card_at n (cards_of s) ≡ Some c → HasEdge c.kind c.ins
  card-edged n c at =
      all-rows-card_at (λ x. HasEdge x.kind x.ins) n (cards_of s) c (rows-map _ (card_of s) (places s.start s.body s.finish) (places-edged s.start s.finish s.body regular.full)) at

none-worked : (s : SchemaModel) (n : ℕ) (ps : List Place) → AllRows (λ p. eqb n p.node ≡ false) ps → is_worked_on_in (map (card_of s) ps) n ≡ false
none-worked s n [] h = refl
none-worked s n (p ∷ ps) h = rw (eqb-swap n p.node h.0) (none-worked s n ps h.1)

-- where nodes are distinct, a node that is worked on has such a card
pub worked-card : (s : SchemaModel) (n : ℕ) (c : Card) (ps : List Place) → Distinct ps → is_worked_on_in (map (card_of s) ps) n ≡ true → card_at n (map (card_of s) ps) ≡ Some c → worked_on c.kind ≡ true
worked-card s n c [] distinct h at = absurd (cc)
worked-card s n c (p ∷ ps) distinct h at =
    elim (cases_Bool (eqb p.node n)) [
      | inl same ↦
          let here : card_of s p ≡ c = same_Some (card_of s p) c (rw same at at) in
          let now : (worked_on p.kind || is_worked_on_in (map (card_of s) ps) n) ≡ true = rw same at h in
          let none : is_worked_on_in (map (card_of s) ps) n ≡ false = none-worked s n ps (subst (λ k. AllRows (λ q. eqb k q.node ≡ false) ps) (eqb-true p.node n same) distinct.0) in
          subst (λ x. worked_on x.kind ≡ true) here (elim (or_cases (worked_on p.kind) _ now) [ inl it ↦ it | inr later ↦ absurd (both_ways _ none later) ])
      | inr other ↦ worked-card s n c ps distinct.1 (rw other at h) (rw other at at)
    ]

-- only nodes that are worked on write
abbrev pub WritersWork : SchemaModel → Type 0
WritersWork s = (n d : ℕ) (c : Card) → card_at n (cards_of s) ≡ Some c → writes_of s n d ≡ true → worked_on c.kind ≡ true

-- what holds of each writer
pub writer-found : (P : ℕ → Type 0) (n d : ℕ) (ws : List (ℕ × ℕ)) → AllRows (λ w. P w.0) ws → list_any (λ w. eqb w.0 n && eqb w.1 d) ws ≡ true → P n
writer-found P n d [] rows h = absurd (both_ways _ refl h)
writer-found P n d (w ∷ ws) rows h =
    elim (or_cases (eqb w.0 n && eqb w.1 d) _ h) [
      | inl it ↦ subst P (eqb-true w.0 n (and_parts (eqb w.0 n) (eqb w.1 d) it).0) rows.0
      | inr later ↦ writer-found P n d ws rows.1 later
    ]

-- so the clauses on data say
pub writers-work : (s : SchemaModel) → Regular s → data_fault s ≡ None → WritersWork s
writers-work s regular no_fault n d c at h =
    let rows = no_first (λ w. unknown s w.0 w.1) s.writes (no_either _ _ (no_either _ _ no_fault).1).0 in
    let each : AllRows (λ w. is_worked_on_in (cards_of s) w.0 ≡ true) s.writes =
    all-rows-map _ _ (λ w none. (and_parts (is_worked_on_in (cards_of s) w.0) _ (not_false _ (no_when _ _ none))).0) s.writes rows in
    worked-card s n c (places s.start s.body s.finish) regular.distinct (writer-found (λ k. is_worked_on_in (cards_of s) k ≡ true) n d s.writes each h) at
