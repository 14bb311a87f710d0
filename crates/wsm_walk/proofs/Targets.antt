-- Each edge into a node stands in its source's card.
use Rattle.wsm_walk.proofs.Common.{[], ℕ, ◌==◌, ◌||◌, ◌∙◌, ◌∷◌, ◌≡◌, all-rows-card_at, all-rows-map, all_rows, AllRows, ap, Bool, both_ways, Card, card_at, card_at-node, card_of, cards_of, cases_Bool, End, eq-eqb, eqb, eqb-true, false}
use Rattle.wsm_walk.proofs.{Common.{filter, inl, inr, Leads, leads_to, List, list_any, map, NoEdgeFrom, placed-rows, refl, Regular, rows-append, rows-map, rows-parts, same_card, SchemaModel, Some, subst, sym, true}, Reached.any-member}
use Rattle.wsm_walk.proofs.Reached.{or-true, rows-member}
use Rattle.wsm_schema.specs.{Ends.{first_node, first_of, last_of}, Places.{branch_heads, branch_tails, labelled, lanes_places, leaving, part_places, parts_places, places, plain_end}, Tree.{Lanes, Part, Parts, act, gate, lane, loop}}
use Rattle.wsm_schema.specs.{Tree.{no_lane, nothing, part}, declared.places.Place.Place}

module _ (R : ℕ → ℕ → Type 0) where
  -- the edges out of a place, and those into it, are of the relation
  abbrev pub Outs : Place → Type 0
  Outs p = AllRows (λ o. R p.node o.node) p.outs

  abbrev pub Ins : Place → Type 0
  Ins p = AllRows (λ e. R e.node p.node) p.ins

  mutual
    part-targets : (p : Part) (from : End) (to : ℕ) → R from.node (first_of p) → AllRows Outs (part_places p from to) → AllRows Ins (part_places p from to) × R (last_of p) to
    part-targets (act n) from to enters outs = (((enters, tt), tt), outs.0.0)
    part-targets (gate kind split join ls) from to enters outs =
        let rest = rows-parts Outs (lanes_places ls split join) _ outs.1 in
        let lanes = lanes-targets ls split join outs.0 rest.0 in
        (((enters, tt), rows-append Ins (lanes_places ls split join) _ lanes.0 (lanes.1, tt)), rest.1.0.0)
    part-targets (loop start end body) from to enters outs =
        let rest = rows-parts Outs (parts_places body (plain_end start) end) _ outs.1 in
        let inner = parts-targets body (plain_end start) end outs.0.0 rest.0 in
        (((enters, tt), rows-append Ins (parts_places body (plain_end start) end) _ inner.0 ((inner.1, tt), tt)), rest.1.0.0)

    parts-targets : (ps : Parts) (from : End) (to : ℕ) → R from.node (first_node ps to) → AllRows Outs (parts_places ps from to) → AllRows Ins (parts_places ps from to) × R (leaving ps from).node to
    parts-targets nothing from to enters outs = (tt, enters)
    parts-targets (part p ps) from to enters outs =
        let both = rows-parts Outs (part_places p from (first_node ps to)) _ outs in
        let one = part-targets p from (first_node ps to) enters both.0 in
        let more = parts-targets ps (plain_end (last_of p)) to one.1 both.1 in
        (rows-append Ins (part_places p from (first_node ps to)) _ one.0 more.0, more.1)

    lanes-targets : (ls : Lanes) (split join : ℕ) → AllRows (λ o. R split o.node) (branch_heads ls join) → AllRows Outs (lanes_places ls split join) → AllRows Ins (lanes_places ls split join) × AllRows (λ e. R e.node join) (branch_tails ls split)
    lanes-targets no_lane split join heads outs = (tt, tt)
    lanes-targets (lane code ps ls) split join heads outs =
        let both = rows-parts Outs (parts_places ps (labelled split code) join) _ outs in
        let one = parts-targets ps (labelled split code) join heads.0 both.0 in
        let more = lanes-targets ls split join heads.1 both.1 in
        (rows-append Ins (parts_places ps (labelled split code) join) _ one.0 more.0, (one.1, more.1))

  pub places-targets : (start : ℕ) (body : Parts) (finish : ℕ) → AllRows Outs (places start body finish) → AllRows Ins (places start body finish)
  places-targets start body finish outs =
      let rest = rows-parts Outs (parts_places body (plain_end start) finish) _ outs.1 in
      let inner = parts-targets body (plain_end start) finish outs.0.0 rest.0 in
      (tt, rows-append Ins (parts_places body (plain_end start) finish) _ inner.0 ((inner.1, tt), tt))

or-right : (a b : Bool) → b ≡ true → (a || b) ≡ true
or-right true b h = refl
or-right false b h = h

module _ (R : ℕ → ℕ → Type 0) where
  mutual
    part-sources : (p : Part) (from : End) (to : ℕ) → R (last_of p) to → AllRows (Ins R) (part_places p from to) → AllRows (Outs R) (part_places p from to) × R from.node (first_of p)
    part-sources (act n) from to leaves ins = (((leaves, tt), tt), ins.0.0)
    part-sources (gate kind split join ls) from to leaves ins =
        let rest = rows-parts (Ins R) (lanes_places ls split join) _ ins.1 in
        let lanes = lanes-sources ls split join rest.1.0 rest.0 in
        ((lanes.1, rows-append (Outs R) (lanes_places ls split join) _ lanes.0 ((leaves, tt), tt)), ins.0.0)
    part-sources (loop start end body) from to leaves ins =
        let rest = rows-parts (Ins R) (parts_places body (plain_end start) end) _ ins.1 in
        let inner = parts-sources body (plain_end start) end rest.1.0.0 rest.0 in
        (((inner.1, tt), rows-append (Outs R) (parts_places body (plain_end start) end) _ inner.0 ((leaves, tt), tt)), ins.0.0)

    parts-sources : (ps : Parts) (from : End) (to : ℕ) → R (leaving ps from).node to → AllRows (Ins R) (parts_places ps from to) → AllRows (Outs R) (parts_places ps from to) × R from.node (first_node ps to)
    parts-sources nothing from to leaves ins = (tt, leaves)
    parts-sources (part p ps) from to leaves ins =
        let both = rows-parts (Ins R) (part_places p from (first_node ps to)) _ ins in
        let more = parts-sources ps (plain_end (last_of p)) to leaves both.1 in
        let one = part-sources p from (first_node ps to) more.1 both.0 in
        (rows-append (Outs R) (part_places p from (first_node ps to)) _ one.0 more.0, one.1)

    lanes-sources : (ls : Lanes) (split join : ℕ) → AllRows (λ e. R e.node join) (branch_tails ls split) → AllRows (Ins R) (lanes_places ls split join) → AllRows (Outs R) (lanes_places ls split join) × AllRows (λ o. R split o.node) (branch_heads ls join)
    lanes-sources no_lane split join tails ins = (tt, tt)
    lanes-sources (lane code ps ls) split join tails ins =
        let both = rows-parts (Ins R) (parts_places ps (labelled split code) join) _ ins in
        let one = parts-sources ps (labelled split code) join tails.0 both.0 in
        let more = lanes-sources ls split join tails.1 both.1 in
        (rows-append (Outs R) (parts_places ps (labelled split code) join) _ one.0 more.0, (one.1, more.1))

  -- the other way round: where each edge into a place is of the relation, each edge out of one is
  pub places-sources : (start : ℕ) (body : Parts) (finish : ℕ) → AllRows (Ins R) (places start body finish) → AllRows (Outs R) (places start body finish)
  places-sources start body finish ins =
      let rest = rows-parts (Ins R) (parts_places body (plain_end start) finish) _ ins.1 in
      let inner = parts-sources body (plain_end start) finish rest.1.0.0 rest.0 in
      ((inner.1, tt), rows-append (Outs R) (parts_places body (plain_end start) finish) _ inner.0 (tt, tt))

-- a list has each of its rows
self-any : {X : Type 0} (key : X → ℕ) (xs : List X) → AllRows (λ x. list_any (λ y. eqb (key y) (key x)) xs ≡ true) xs
self-any key [] = tt
self-any key (x ∷ xs) = (
  rw (eq-eqb (key x) (key x) refl) refl,
  all-rows-map _ _ (λ y h. or-right (eqb (key x) (key y)) (list_any (λ z. eqb (key z) (key y)) xs) h) xs (self-any key xs),
)

or-left : (a b : Bool) → a ≡ true → (a || b) ≡ true
or-left true b h = refl
or-left false b h = absurd (both_ways _ refl h)

-- the control edges into each place stand in their sources' cards
pub control-leads : (s : SchemaModel) → Regular s → AllRows (λ p. AllRows (λ e. Leads s e.node p.node) p.ins) (places s.start s.body s.finish)
control-leads s regular =
    places-targets (Leads s) s.start s.body s.finish (all-rows-map _ _ (λ p placed.
    all-rows-map _ _ (λ o among c at. let same : card_of s p ≡ c = same_card (cards_of s) p.node (card_of s p) c placed at in
    subst (λ d. leads_to d o.node ≡ true) same (or-left (list_any (λ x. eqb x.node o.node) p.outs) _ among)) p.outs (self-any (λ x. x.node) p.outs))
    (places s.start s.body s.finish) (placed-rows s (places s.start s.body s.finish) regular.distinct))

-- each sync edge stands among those out of its source
sync-self : (syncs : List (ℕ × ℕ)) → AllRows (λ e. (n : ℕ) → eqb e.0 n ≡ true → list_any (λ m. eqb m e.1) (map (λ x. x.1) (filter (λ x. eqb x.0 n) syncs)) ≡ true) syncs
sync-self [] = tt
sync-self (e ∷ es) = (
  (λ n h. rw (h, eq-eqb e.1 e.1 refl) refl),
  all-rows-map _ _ (λ d among n h. elim (cases_Bool (eqb e.0 n)) [ inl it ↦ rw it (or-right (eqb e.1 d.1) _ (among n h)) | inr other ↦ rw other (among n h) ]) es (sync-self es),
)

-- what holds of each row holds of those that pass a test
rows-filter : {X : Type 0} (P : X → Type 0) (test : X → Bool) (xs : List X) → AllRows P xs → AllRows (λ x. P x × (test x ≡ true)) (filter test xs)
rows-filter P test [] h = tt
rows-filter P test (x ∷ xs) h = elim (cases_Bool (test x)) [ inl it ↦ rw it ((h.0, it), rows-filter P test xs h.1) | inr other ↦ rw other (rows-filter P test xs h.1) ]

-- the sync edges into a node stand in their sources' cards
sync-leads : (s : SchemaModel) (k : ℕ) → AllRows (λ m. Leads s m k) (map (λ e. e.0) (filter (λ e. eqb e.1 k) s.syncs))
sync-leads s k =
    rows-map (λ m. Leads s m k) (λ e. e.0) (filter (λ e. eqb e.1 k) s.syncs) (all-rows-map _ _ (λ e h c at.
    let outs : c.syncs_out ≡ map (λ x. x.1) (filter (λ x. eqb x.0 c.node) s.syncs) =
    all-rows-card_at (λ d. d.syncs_out ≡ map (λ x. x.1) (filter (λ x. eqb x.0 d.node) s.syncs)) e.0 (cards_of s) c (rows-map _ (card_of s) (places s.start s.body s.finish) (all_rows _ (λ p. refl) (places s.start s.body s.finish))) at in
    let among : list_any (λ m. eqb m e.1) c.syncs_out ≡ true = ap (list_any (λ m. eqb m e.1)) outs ∙ h.0 c.node (eq-eqb e.0 c.node (sym (card_at-node e.0 (cards_of s) c at))) in
    or-right (list_any (λ o. eqb o.node k) c.outs) _ (subst (λ x. list_any (λ m. eqb m x) c.syncs_out ≡ true) (eqb-true e.1 k h.1) among))
    (filter (λ e. eqb e.1 k) s.syncs) (rows-filter _ (λ e. eqb e.1 k) s.syncs (sync-self s.syncs)))

-- each edge into a node stands in its source's card
pub edges-lead : (s : SchemaModel) → Regular s → (k : ℕ) (d : Card) → card_at k (cards_of s) ≡ Some d → AllRows (λ e. Leads s e.node k) d.ins × AllRows (λ m. Leads s m k) d.syncs_in
edges-lead s regular k d at =
    let own = all-rows-card_at (λ c. AllRows (λ e. Leads s e.node c.node) c.ins × AllRows (λ m. Leads s m c.node) c.syncs_in) k (cards_of s) d
    (rows-map _ (card_of s) (places s.start s.body s.finish) (all-rows-map _ _ (λ p ins. (ins, sync-leads s p.node)) (places s.start s.body s.finish) (control-leads s regular))) at in
    subst (λ x. AllRows (λ e. Leads s e.node x) d.ins × AllRows (λ m. Leads s m x) d.syncs_in) (card_at-node k (cards_of s) d at) own

-- to a node that a card does not name no edge leads from the card's node
pub no-lead : (s : SchemaModel) → Regular s → (n : ℕ) (c : Card) → card_at n (cards_of s) ≡ Some c → (k : ℕ) (d : Card) → card_at k (cards_of s) ≡ Some d → leads_to c k ≡ false → NoEdgeFrom n d
no-lead s regular n c at_n k d at_k none =
    let lead = edges-lead s regular k d at_k in
    let other : (m : ℕ) → Leads s m k → eqb n m ≡ false =
    λ m leads. elim (cases_Bool (eqb n m)) [
      | inl same ↦ absurd (both_ways _ none (leads c (ap (λ x. card_at x (cards_of s)) (sym (eqb-true n m same)) ∙ at_n)))
      | inr apart ↦ apart
    ] in (
      all-rows-map _ _ (λ e. other e.node) d.ins lead.0,
      all-rows-map _ _ other d.syncs_in lead.1,
    )

-- an edge leads from m to n, as n's card tells
abbrev pub EntersFrom : SchemaModel → ℕ → ℕ → Type 0
EntersFrom s m n = (d : Card) → card_at n (cards_of s) ≡ Some d → (list_any (λ e. e.node == m) d.ins || list_any (λ k. k == m) d.syncs_in) ≡ true

-- the control edges out of each place stand in their targets' cards
pub control-enters : (s : SchemaModel) → Regular s → AllRows (λ p. AllRows (λ o. EntersFrom s p.node o.node) p.outs) (places s.start s.body s.finish)
control-enters s regular =
    places-sources (EntersFrom s) s.start s.body s.finish (all-rows-map _ _ (λ p placed.
    all-rows-map _ _ (λ e among d at. let same : card_of s p ≡ d = same_card (cards_of s) p.node (card_of s p) d placed at in
    subst (λ x. (list_any (λ y. eqb y.node e.node) x.ins || list_any (λ k. eqb k e.node) x.syncs_in) ≡ true) same (or-left (list_any (λ y. eqb y.node e.node) p.ins) _ among)) p.ins (self-any (λ x. x.node) p.ins))
    (places s.start s.body s.finish) (placed-rows s (places s.start s.body s.finish) regular.distinct))

-- the sync edges out of each node stand in their targets' cards
sync-mirrored : (syncs : List (ℕ × ℕ)) (n k : ℕ) → list_any (λ m. m == k) (map (λ x. x.1) (filter (λ x. eqb x.0 n) syncs)) ≡ true → list_any (λ m. m == n) (map (λ x. x.0) (filter (λ x. eqb x.1 k) syncs)) ≡ true
sync-mirrored [] n k h = absurd (both_ways _ refl h)
sync-mirrored (e ∷ es) n k h =
    elim (cases_Bool (eqb e.0 n)) [
      | inr apart ↦
          let more = sync-mirrored es n k (rw apart at h) in
          elim (cases_Bool (eqb e.1 k)) [ inl it ↦ rw it (or-right (eqb e.0 n) _ more) | inr other ↦ rw other more ]
      | inl same ↦ elim (cases_Bool (eqb e.1 k)) [
        | inl it ↦ rw (it, same) refl
        | inr other ↦ rw other (sync-mirrored es n k (rw (same, other) at h))
      ]
    ]

-- what a card names is entered from its node
pub lead-enters : (s : SchemaModel) → Regular s → (n : ℕ) (c : Card) → card_at n (cards_of s) ≡ Some c → (k : ℕ) → leads_to c k ≡ true → EntersFrom s n k
lead-enters s regular n c at_n k leads d at_k =
    elim (or-true (list_any (λ o. o.node == k) c.outs) (list_any (λ m. m == k) c.syncs_out) leads) [
      | inl control ↦
          let outs : AllRows (λ o. EntersFrom s c.node o.node) c.outs =
          all-rows-card_at (λ x. AllRows (λ o. EntersFrom s x.node o.node) x.outs) n (cards_of s) c
          (rows-map _ (card_of s) (places s.start s.body s.finish) (control-enters s regular)) at_n in
          let o = any-member (λ o. o.node == k) c.outs control in
          let enters : EntersFrom s c.node o.0.node = rows-member (λ x. EntersFrom s c.node x.node) c.outs o.0 outs o.1 in
          subst (λ x. (list_any (λ e. eqb e.node x) d.ins || list_any (λ m. eqb m x) d.syncs_in) ≡ true) (card_at-node n (cards_of s) c at_n)
          (enters d (ap (λ x. card_at x (cards_of s)) (eqb-true o.0.node k o.2) ∙ at_k))
      | inr sync ↦
          let outs : c.syncs_out ≡ map (λ x. x.1) (filter (λ x. eqb x.0 c.node) s.syncs) =
          all-rows-card_at (λ x. x.syncs_out ≡ map (λ y. y.1) (filter (λ y. eqb y.0 x.node) s.syncs)) n (cards_of s) c (rows-map _ (card_of s) (places s.start s.body s.finish) (all_rows _ (λ p. refl) (places s.start s.body s.finish))) at_n in
          let ins : d.syncs_in ≡ map (λ x. x.0) (filter (λ x. eqb x.1 d.node) s.syncs) =
          all-rows-card_at (λ x. x.syncs_in ≡ map (λ y. y.0) (filter (λ y. eqb y.1 x.node) s.syncs)) k (cards_of s) d (rows-map _ (card_of s) (places s.start s.body s.finish) (all_rows _ (λ p. refl) (places s.start s.body s.finish))) at_k in
          let mirrored : list_any (λ m. m == c.node) (map (λ x. x.0) (filter (λ x. eqb x.1 k) s.syncs)) ≡ true = sync-mirrored s.syncs c.node k (ap (list_any (λ m. m == k)) (sym outs) ∙ sync) in
          or-right (list_any (λ e. eqb e.node n) d.ins) _
          (ap (list_any (λ m. m == n)) (ins ∙ ap (λ x. map (λ y. y.0) (filter (λ y. eqb y.1 x) s.syncs)) (card_at-node k (cards_of s) d at_k))
          ∙ subst (λ x. list_any (λ m. m == x) (map (λ y. y.0) (filter (λ y. eqb y.1 k) s.syncs)) ≡ true) (card_at-node n (cards_of s) c at_n) mirrored)
    ]
