-- A loop of a schema's tree is one that a cut may take.
use Rattle.wsm_marks.proofs.Common.{[], ℕ, ◌++◌, ◌||◌, ◌∙◌, ◌∷◌, ◌≡◌, ◌⊎◌, act, all-rows-card_at, all-rows-map, AllRows, and_gate, ap, Bool, both_rows, both_ways, Card, card_at, card_at-node, card_of, cards_of, cases_Bool, Distinct, End}
use Rattle.wsm_marks.proofs.Common.{eq-eqb, eqb, eqb-false, eqb-true, false, filter, first_node, FullLanes, FullPart, FullParts, gate, HasEdge, inl, Inner, inr, is_loop_end, is_one_of, labelled, lane, Lanes, lanes_places, last_of, leaving}
use Rattle.wsm_marks.proofs.Common.{List, loop, LoopOf, map, no_lane, NodeKind, not, not-true, not_from_false, nothing, or_cases, or_left, or_right, Part, part, part_places, Parts, parts_places, Place, place, places, plain_end, refl}
use Rattle.wsm_marks.proofs.{Common.{rows-append, rows-map, rows-parts, SchemaModel, Some, subst, sym, SyncsApart, true, worked_on, xor_gate}, Cards.{nodes, not_among, self-among}, Lists.{eqb-swap, rows-swap}, LoopInTree.{EndsIn, FoundIn}}
use Rattle.wsm_marks.proofs.{LoopInTree.{InsIn, IsPaired, PairsIn, parts-closed}, LoopSets.WholeParts}
use Rattle.wsm_schema.specs.declared.cards.NodeKind.TheVariants as kind

-- ---- each place has an edge into it, and none but the first is a start
abbrev NotStart : NodeKind → Type 0
NotStart kind.Start = ⊥
NotStart _ = Unit {0}

-- a place with an edge into it, or a start
abbrev Entered : Place → Type 0
Entered p = HasEdge p.kind p.ins

mutual
  part-edged : (p : Part) (from : End) (to : ℕ) → FullPart p → AllRows Entered (part_places p from to)
  part-edged (act n) from to full = (tt, tt)
  part-edged (gate and_gate split join no_lane) from to full = absurd full
  part-edged (gate xor_gate split join no_lane) from to full = absurd full
  part-edged (gate and_gate split join (lane code ps ls)) from to full =
      (tt, rows-append _ (lanes_places (lane code ps ls) split join) _ (rows-append _ (parts_places ps (labelled split code) join) _ (parts-edged ps (labelled split code) join full.0) (lanes-edged ls split join full.1)) (tt, tt))
  part-edged (gate xor_gate split join (lane code ps ls)) from to full =
      (tt, rows-append _ (lanes_places (lane code ps ls) split join) _ (rows-append _ (parts_places ps (labelled split code) join) _ (parts-edged ps (labelled split code) join full.0) (lanes-edged ls split join full.1)) (tt, tt))
  part-edged (loop start end body) from to full = (tt, rows-append _ (parts_places body (plain_end start) end) _ (parts-edged body (plain_end start) end full) (tt, tt))

  parts-edged : (ps : Parts) (from : End) (to : ℕ) → FullParts ps → AllRows Entered (parts_places ps from to)
  parts-edged nothing from to full = tt
  parts-edged (part p ps) from to full = rows-append _ (part_places p from (first_node ps to)) _ (part-edged p from (first_node ps to) full.0) (parts-edged ps (plain_end (last_of p)) to full.1)

  lanes-edged : (ls : Lanes) (split join : ℕ) → FullLanes ls → AllRows Entered (lanes_places ls split join)
  lanes-edged no_lane split join full = tt
  lanes-edged (lane code ps ls) split join full = rows-append _ (parts_places ps (labelled split code) join) _ (parts-edged ps (labelled split code) join full.0) (lanes-edged ls split join full.1)

mutual
  part-no_start : (p : Part) (from : End) (to : ℕ) → AllRows (λ q. NotStart q.kind) (part_places p from to)
  part-no_start (act n) from to = (tt, tt)
  part-no_start (gate and_gate split join ls) from to = (tt, rows-append _ (lanes_places ls split join) _ (lanes-no_start ls split join) (tt, tt))
  part-no_start (gate xor_gate split join ls) from to = (tt, rows-append _ (lanes_places ls split join) _ (lanes-no_start ls split join) (tt, tt))
  part-no_start (loop start end body) from to = (tt, rows-append _ (parts_places body (plain_end start) end) _ (parts-no_start body (plain_end start) end) (tt, tt))

  parts-no_start : (ps : Parts) (from : End) (to : ℕ) → AllRows (λ q. NotStart q.kind) (parts_places ps from to)
  parts-no_start nothing from to = tt
  parts-no_start (part p ps) from to = rows-append _ (part_places p from (first_node ps to)) _ (part-no_start p from (first_node ps to)) (parts-no_start ps (plain_end (last_of p)) to)

  lanes-no_start : (ls : Lanes) (split join : ℕ) → AllRows (λ q. NotStart q.kind) (lanes_places ls split join)
  lanes-no_start no_lane split join = tt
  lanes-no_start (lane code ps ls) split join = rows-append _ (parts_places ps (labelled split code) join) _ (parts-no_start ps (labelled split code) join) (lanes-no_start ls split join)

-- each place but the start has an edge into it
pub places-edged : (start finish : ℕ) (body : Parts) → FullParts body → AllRows Entered (places start body finish)
places-edged start finish body full = (tt, rows-append _ (parts_places body (plain_end start) finish) _ (parts-edged body (plain_end start) finish full) (tt, tt))

inner-of : {X : Type 0} (k : NodeKind) (xs : List X) → NotStart k → HasEdge k xs → Inner k xs
inner-of kind.Start xs n h = absurd n
inner-of _ [] n h = absurd h
inner-of _ (x ∷ xs) n h = tt

-- ---- distinct nodes
distinct-parts : (xs ys : List Place) → Distinct (xs ++ ys) → Distinct xs × Distinct ys × AllRows (λ x. AllRows (λ y. eqb x.node y.node ≡ false) ys) xs
distinct-parts [] ys h = (tt, h, tt)
distinct-parts (x ∷ xs) ys h =
    let r = rows-parts (λ y. eqb x.node y.node ≡ false) xs ys h.0 in
    let d = distinct-parts xs ys h.1 in
    ((r.0, d.0), d.1, (r.1, d.2))

module _ (s : SchemaModel) (l e : ℕ) (found : FoundIn l e s.start s.body s.finish) where
  -- the places inside the loop
  abbrev pub inner_places : List Place
  inner_places = parts_places found.body (plain_end l) e

  -- the place of its end
  abbrev pub end_place : Place
  end_place = place e kind.LoopEnd (Some l) (leaving found.body (plain_end l) ∷ []) (plain_end found.to ∷ [])

  -- the place of its start
  abbrev pub start_place : Place
  start_place = place l kind.LoopStart (Some e) (found.from ∷ []) (plain_end (first_node found.body e) ∷ [])

  -- all of them
  abbrev pub own_places : List Place
  own_places = part_places (loop l e found.body) found.from found.to

  -- the loop's nodes
  abbrev pub body_nodes : List ℕ
  body_nodes = nodes own_places

  -- whether a node is one of the loop
  abbrev In : ℕ → Bool
  In n = is_one_of n body_nodes

  -- whether it is not
  abbrev Away : ℕ → Bool
  Away n = not (In n)

  module _ (distinct : Distinct (places s.start s.body s.finish)) where
    parted : Distinct found.pre × Distinct (own_places ++ found.post) × AllRows (λ x. AllRows (λ y. eqb x.node y.node ≡ false) (own_places ++ found.post)) found.pre
    parted = distinct-parts found.pre (own_places ++ found.post) (subst Distinct found.split distinct)

    parted_own : Distinct own_places × Distinct found.post × AllRows (λ x. AllRows (λ y. eqb x.node y.node ≡ false) found.post) own_places
    parted_own = distinct-parts own_places found.post parted.1

    -- nothing before the loop is in it
    pub pre_away : AllRows (λ p. In p.node ≡ false) found.pre
    pre_away = all-rows-map _ _ (λ p h. not_among p.node own_places (all-rows-map _ _ (λ q x. eqb-swap p.node q.node x) own_places (rows-parts _ own_places found.post h).0)) found.pre parted.2

    post_away : AllRows (λ p. In p.node ≡ false) found.post
    post_away = all-rows-map _ _ (λ p h. not_among p.node own_places h) found.post (rows-swap (λ x y. eqb x.node y.node ≡ false) own_places found.post parted_own.2)

    own_in : AllRows (λ p. In p.node ≡ true) own_places
    own_in = self-among own_places

    -- no other node of the loop is its start
    pub tail_apart : AllRows (λ p. eqb p.node l ≡ false) (inner_places ++ end_place ∷ [])
    tail_apart = all-rows-map _ _ (λ p h. eqb-swap l p.node h) (inner_places ++ end_place ∷ []) parted_own.0.0

    -- no node inside is its end
    pub inner_apart : AllRows (λ p. eqb p.node e ≡ false) inner_places
    inner_apart = all-rows-map _ _ (λ p h. h.0) inner_places (distinct-parts inner_places (end_place ∷ []) parted_own.0.1).2

    -- a property of all cards, by the places before, at the start, in the loop, and behind
    pub rows_by_places : (Q : Card → Type 0) → ((p : Place) → In p.node ≡ false → IsPaired Away p → EndsIn (λ n. Away n || eqb n e) p.ins → Q (card_of s p)) →
        ((Away found.from.node || eqb found.from.node e) ≡ true → Q (card_of s start_place)) → AllRows (λ p. Q (card_of s p)) (inner_places ++ end_place ∷ []) →
        AllRows Q (cards_of s)
    rows_by_places Q outside at_start at_tail =
        let away = λ (p : Place) (h : In p.node ≡ false). not_from_false (In p.node) h in
        let pairs = found.paired Away (all-rows-map _ _ away found.pre pre_away) (all-rows-map _ _ away found.post post_away) in
        let away_e = λ (p : Place) (h : In p.node ≡ false). or_left (Away p.node) (eqb p.node e) (away p h) in
        let A : ℕ → Bool = λ k. Away k || eqb k e in
        let e_in : A e ≡ true = or_right (Away e) (eqb e e) (eq-eqb e e refl) in
        let ins = found.closed A e_in (all-rows-map _ _ away_e found.pre pre_away) (all-rows-map _ _ away_e found.post post_away) e_in in
        let join = λ (ps : List Place) (a : AllRows (λ p. In p.node ≡ false) ps) (b : PairsIn Away ps) (d : InsIn A ps).
        both_rows (λ p. (In p.node ≡ false) × IsPaired Away p) (λ p. EndsIn A p.ins) (λ p. Q (card_of s p)) (λ p x y. outside p x.0 x.1 y) ps
        (both_rows (λ p. In p.node ≡ false) (IsPaired Away) (λ p. (In p.node ≡ false) × IsPaired Away p) (λ p x y. (x, y)) ps a b) d in
        let rows : AllRows (λ p. Q (card_of s p)) (found.pre ++ (own_places ++ found.post)) =
        rows-append _ found.pre (own_places ++ found.post) (join found.pre pre_away pairs.0 ins.0) (rows-append _ own_places found.post (at_start ins.1, at_tail) (join found.post post_away pairs.1 ins.2)) in
        rows-map Q (card_of s) (places s.start s.body s.finish) (subst (λ ps. AllRows (λ p. Q (card_of s p)) ps) (sym found.split) rows)

    by_places : (Q : Card → Type 0) → ((p : Place) → In p.node ≡ false → IsPaired Away p → EndsIn (λ n. Away n || eqb n e) p.ins → Q (card_of s p)) →
        ((Away found.from.node || eqb found.from.node e) ≡ true → Q (card_of s start_place)) → AllRows (λ p. Q (card_of s p)) (inner_places ++ end_place ∷ []) →
        (n : ℕ) (c : Card) → card_at n (cards_of s) ≡ Some c → Q c
    by_places Q outside at_start at_tail n c at = all-rows-card_at Q n (cards_of s) c (rows_by_places Q outside at_start at_tail) at

    -- outside the loop, or its start
    abbrev Out : ℕ → Type 0
    Out n = (In n ≡ false) ⊎ (n ≡ l)

    away_or_end : (n : ℕ) → (Away n || eqb n e) ≡ true → (In n ≡ false) ⊎ (n ≡ e)
    away_or_end n h = elim (or_cases (Away n) (eqb n e) h) [ inl a ↦ inl (not-true (In n) a) | inr b ↦ inr (eqb-true n e b) ]

    -- its start is in it
    pub l_in : In l ≡ true
    l_in = own_in.0

    e_in : In e ≡ true
    e_in = (rows-parts (λ p. In p.node ≡ true) inner_places (end_place ∷ []) own_in.1).1.0

    -- a node of the loop but its start is not outside
    not_out : (p : Place) → In p.node ≡ true → eqb p.node l ≡ false → Out p.node → ⊥
    not_out p a b (inl h) = both_ways _ h a
    not_out p a b (inr h) = eqb-false p.node l b h

    tail_rows : (Q : Place → Type 0) → ((p : Place) → In p.node ≡ true → eqb p.node l ≡ false → Q p) → AllRows Q (inner_places ++ end_place ∷ [])
    tail_rows Q h = both_rows (λ p. In p.node ≡ true) (λ p. eqb p.node l ≡ false) Q h (inner_places ++ end_place ∷ []) own_in.1 tail_apart

    tail_ins : AllRows (λ p. EndsIn In p.ins) (inner_places ++ end_place ∷ [])
    tail_ins =
        let c = parts-closed In found.body (plain_end l) e l_in (rows-parts (λ p. In p.node ≡ true) inner_places (end_place ∷ []) own_in.1).0 in
        rows-append _ inner_places (end_place ∷ []) c.0 ((c.1, tt), tt)

    tail_inner : FullParts s.body → AllRows (λ p. Inner p.kind p.ins) (inner_places ++ end_place ∷ [])
    tail_inner full =
        let entered : AllRows Entered (found.pre ++ (own_places ++ found.post)) = subst (AllRows Entered) found.split (places-edged s.start s.finish s.body full) in
        let own_entered : AllRows Entered own_places = (rows-parts Entered own_places found.post (rows-parts Entered found.pre (own_places ++ found.post) entered).1).0 in
        both_rows (λ p. NotStart p.kind) Entered (λ p. Inner p.kind p.ins) (λ p a b. inner-of p.kind p.ins a b) (inner_places ++ end_place ∷ [])
        (rows-append _ inner_places (end_place ∷ []) (parts-no_start found.body (plain_end l) e) (tt, tt)) own_entered.1

    syncs_out : (n : ℕ) → Out n → (xs : List (ℕ × ℕ)) → AllRows (λ x. (In x.0 ≡ In x.1) × (eqb x.1 l ≡ false)) xs → AllRows (λ k. In k ≡ false) (map (λ x. x.0) (filter (λ x. eqb x.1 n) xs))
    syncs_out n out [] h = tt
    syncs_out n out (x ∷ xs) h =
        elim (cases_Bool (eqb x.1 n)) [
          | inl same ↦ rw same (h.0.0 ∙ here (eqb-true x.1 n same) out h.0.1, syncs_out n out xs h.1)
          | inr other ↦ rw other (syncs_out n out xs h.1)
        ]
      where
        here : x.1 ≡ n → Out n → eqb x.1 l ≡ false → In x.1 ≡ false
        here same (inl away) other = ap In same ∙ away
        here same (inr is_l) other = absurd (eqb-false x.1 l other (same ∙ is_l))

    -- the loop is one that a cut may take
    pub loop-of : FullParts s.body → SyncsApart s.syncs body_nodes l → LoopOf (cards_of s) body_nodes l e
    loop-of full syncs = record {
      has_end = e_in;
      silent = λ c at. by_places (λ d. eqb d.node l ≡ true → worked_on d.kind ≡ false)
          (λ p away pair ins same. absurd (both_ways _ away (ap In (eqb-true p.node l same) ∙ l_in))) (λ from_in same. refl)
          (tail_rows _ (λ p a b same. absurd (both_ways _ b same))) l c at (eq-eqb c.node l (card_at-node l (cards_of s) c at));
      works = λ c at. by_places (λ d. eqb d.node e ≡ true → worked_on d.kind ≡ true)
          (λ p away pair ins same. absurd (both_ways _ away (ap In (eqb-true p.node e same) ∙ e_in)))
          (λ from_in same. absurd (eqb-false e l (rows-parts (λ p. eqb p.node l ≡ false) inner_places (end_place ∷ []) tail_apart).1.0 (sym (eqb-true l e same))))
          (rows-append (λ p. eqb p.node e ≡ true → worked_on p.kind ≡ true) inner_places (end_place ∷ []) (all-rows-map _ _ (λ p h same. absurd (both_ways _ h same)) inner_places inner_apart) (λ same. refl, tt))
          e c at (eq-eqb c.node e (card_at-node e (cards_of s) c at));
      inner = λ n c at inside other. by_places (λ d. In d.node ≡ true → eqb d.node l ≡ false → Inner d.kind d.ins)
          (λ p away pair ins a b. absurd (both_ways _ away a)) (λ from_in a b. absurd (both_ways _ b (eq-eqb l l refl)))
          (all-rows-map _ _ (λ p h a b. h) (inner_places ++ end_place ∷ []) (tail_inner full)) n c at
          (ap In (card_at-node n (cards_of s) c at) ∙ inside) (ap (λ k. eqb k l) (card_at-node n (cards_of s) c at) ∙ other);
      within = λ n c at inside other. by_places (λ d. In d.node ≡ true → eqb d.node l ≡ false → AllRows (λ x. In x.node ≡ true) d.ins)
          (λ p away pair ins a b. absurd (both_ways _ away a)) (λ from_in a b. absurd (both_ways _ b (eq-eqb l l refl)))
          (all-rows-map _ _ (λ p h a b. h) (inner_places ++ end_place ∷ []) tail_ins) n c at
          (ap In (card_at-node n (cards_of s) c at) ∙ inside) (ap (λ k. eqb k l) (card_at-node n (cards_of s) c at) ∙ other);
      ins = λ n c at out. by_places (λ d. Out d.node → AllRows (λ x. (In x.node ≡ false) ⊎ (x.node ≡ e)) d.ins)
          (λ p away pair ins o. all-rows-map _ _ (λ x h. away_or_end x.node h) p.ins ins) (λ from_in o. (away_or_end found.from.node from_in, tt))
          (tail_rows _ (λ p a b o. absurd (not_out p a b o))) n c at (subst Out (sym (card_at-node n (cards_of s) c at)) out);
      syncs = λ n c at out. by_places (λ d. Out d.node → AllRows (λ k. In k ≡ false) d.syncs_in)
          (λ p away pair ins o. syncs_out p.node o s.syncs syncs) (λ from_in o. syncs_out l o s.syncs syncs)
          (tail_rows _ (λ p a b o. absurd (not_out p a b o))) n c at (subst Out (sym (card_at-node n (cards_of s) c at)) out);
      partners = λ n k c at out ends partner. not-true (In k) (by_places (λ d. In d.node ≡ false → is_loop_end d.kind ≡ true → (j : ℕ) → d.partner ≡ Some j → Away j ≡ true)
          (λ p away pair ins o x j y. pair x j y) (λ from_in o x j y. absurd (both_ways _ o l_in))
          (tail_rows _ (λ p a b o x j y. absurd (both_ways _ o a))) n c at (ap In (card_at-node n (cards_of s) c at) ∙ out) ends k partner);
    }

    -- the loop's nodes are those of a whole loop
    pub whole_loop : WholeParts In s.body
    whole_loop = found.whole In pre_away post_away own_in
