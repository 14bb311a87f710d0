-- The nodes of a tree in document order, and what it says that none stands twice.
use Rattle.wsm_schema.proofs.Common.{[], ℕ, ◌++◌, ◌||◌, ◌∙◌, ◌∷◌, ◌≡◌, act, ap, Bool, both_ways, card_of, cards_of, cases_Bool, End, eq-eqb, eqb, eqb-true, false, first_node, gate, inl, inr, is_one_of, labelled, lane, Lanes, lanes_have}
use Rattle.wsm_schema.proofs.Common.{lanes_places, last_of, List, loop, map, map-append, no_lane, nodes_of, None, nothing, or_left, or_parts, or_right, Part, part, part_has, part_places, Parts, parts_have, parts_places, Place, places}
use Rattle.wsm_schema.proofs.{Common.{plain_end, refl, SchemaModel, Some, subst, sym, true, twice}, DocumentOrder.one_of-append}

abbrev mutual
  pub part_nodes : Part → List ℕ
  part_nodes (act node) = node ∷ []
  part_nodes (gate kind split join ls) = split ∷ (lanes_nodes ls ++ join ∷ [])
  part_nodes (loop start end body) = start ∷ (parts_nodes body ++ end ∷ [])

  pub parts_nodes : Parts → List ℕ
  parts_nodes nothing = []
  parts_nodes (part p ps) = part_nodes p ++ parts_nodes ps

  pub lanes_nodes : Lanes → List ℕ
  lanes_nodes no_lane = []
  lanes_nodes (lane code ps ls) = parts_nodes ps ++ lanes_nodes ls

-- ---- they are those of the cards
abbrev nodes : List Place → List ℕ
nodes ps = map (λ p. p.node) ps

-- behind an opening, with a closing node behind them
framed : (n : ℕ) (inside : List Place) (closing : Place) (ns : List ℕ) → nodes inside ≡ ns → n ∷ nodes (inside ++ closing ∷ []) ≡ n ∷ (ns ++ closing.node ∷ [])
framed n inside closing ns h = ap (λ ms. n ∷ ms) (map-append (λ p. p.node) inside (closing ∷ []) ∙ ap (λ ms. ms ++ closing.node ∷ []) h)

joined : (xs ys : List Place) (ns ms : List ℕ) → nodes xs ≡ ns → nodes ys ≡ ms → nodes (xs ++ ys) ≡ ns ++ ms
joined xs ys ns ms h k = map-append (λ p. p.node) xs ys ∙ ap (λ l. l ++ nodes ys) h ∙ ap (λ l. ns ++ l) k

mutual
  part-places : (p : Part) (from : End) (to : ℕ) → nodes (part_places p from to) ≡ part_nodes p
  part-places (act node) from to = refl
  part-places (gate kind split join ls) from to = framed split (lanes_places ls split join) _ (lanes_nodes ls) (lanes-places ls split join)
  part-places (loop start end body) from to = framed start (parts_places body (plain_end start) end) _ (parts_nodes body) (parts-places body (plain_end start) end)

  parts-places : (ps : Parts) (from : End) (to : ℕ) → nodes (parts_places ps from to) ≡ parts_nodes ps
  parts-places nothing from to = refl
  parts-places (part p ps) from to =
      joined (part_places p from (first_node ps to)) _ _ _ (part-places p from (first_node ps to)) (parts-places ps (plain_end (last_of p)) to)

  lanes-places : (ls : Lanes) (split join : ℕ) → nodes (lanes_places ls split join) ≡ lanes_nodes ls
  lanes-places no_lane split join = refl
  lanes-places (lane code ps ls) split join =
      joined (parts_places ps (labelled split code) join) _ _ _ (parts-places ps (labelled split code) join) (lanes-places ls split join)

of-cards : (s : SchemaModel) (ps : List Place) → nodes_of (map (card_of s) ps) ≡ nodes ps
of-cards s [] = refl
of-cards s (p ∷ ps) = ap (λ ns. p.node ∷ ns) (of-cards s ps)

pub nodes-of_tree : (s : SchemaModel) → nodes_of (cards_of s) ≡ s.start ∷ (parts_nodes s.body ++ s.finish ∷ [])
nodes-of_tree s =
    of-cards s (places s.start s.body s.finish)
    ∙ framed s.start (parts_places s.body (plain_end s.start) s.finish) _ (parts_nodes s.body) (parts-places s.body (plain_end s.start) s.finish)

-- ---- and those that the tree has
or_none : (a : Bool) → (a || false) ≡ a
or_none true = refl
or_none false = refl

turned : (a b c : Bool) → (a || b || c) ≡ (a || (c || (b || false)))
turned true b c = refl
turned false true true = refl
turned false true false = refl
turned false false true = refl
turned false false false = refl

between : (start end n : ℕ) (inside : List ℕ) (has : Bool) → has ≡ is_one_of n inside →
    (eqb start n || eqb end n || has) ≡ (eqb start n || is_one_of n (inside ++ end ∷ []))
between start end n inside has is =
    turned (eqb start n) (eqb end n) has ∙ ap (λ h. eqb start n || (h || (eqb end n || false))) is
    ∙ ap (λ h. eqb start n || h) (sym (one_of-append n inside (end ∷ [])))

mutual
  pub has-part_nodes : (p : Part) (n : ℕ) → part_has p n ≡ is_one_of n (part_nodes p)
  has-part_nodes (act node) n = sym (or_none (eqb node n))
  has-part_nodes (gate kind split join ls) n = between split join n (lanes_nodes ls) (lanes_have ls n) (have-lanes_nodes ls n)
  has-part_nodes (loop start end body) n = between start end n (parts_nodes body) (parts_have body n) (have-parts_nodes body n)

  pub have-parts_nodes : (ps : Parts) (n : ℕ) → parts_have ps n ≡ is_one_of n (parts_nodes ps)
  have-parts_nodes nothing n = refl
  have-parts_nodes (part p ps) n =
      ap (λ h. h || parts_have ps n) (has-part_nodes p n) ∙ ap (λ h. is_one_of n (part_nodes p) || h) (have-parts_nodes ps n)
      ∙ sym (one_of-append n (part_nodes p) (parts_nodes ps))

  pub have-lanes_nodes : (ls : Lanes) (n : ℕ) → lanes_have ls n ≡ is_one_of n (lanes_nodes ls)
  have-lanes_nodes no_lane n = refl
  have-lanes_nodes (lane code ps ls) n =
      ap (λ h. h || lanes_have ls n) (have-parts_nodes ps n) ∙ ap (λ h. is_one_of n (parts_nodes ps) || h) (have-lanes_nodes ls n)
      ∙ sym (one_of-append n (parts_nodes ps) (lanes_nodes ls))

-- ---- numbers that stand once
abbrev NoTwo : List ℕ → Type 0
NoTwo [] = Unit {0}
NoTwo (n ∷ ns) = (is_one_of n ns ≡ false) × NoTwo ns

not-later : (seen ns : List ℕ) → twice seen ns ≡ None → (m : ℕ) → is_one_of m seen ≡ true → is_one_of m ns ≡ false
not-later seen [] h m one = refl
not-later seen (n ∷ ns) h m one =
    elim (cases_Bool (is_one_of n seen)) [
      | inl old ↦ absurd (let bad : Some n ≡ None = rw old at h in cc)
      | inr new ↦ elim (cases_Bool (eqb n m)) [
        | inl same ↦ absurd (both_ways _ new (ap (λ x. is_one_of x seen) (eqb-true n m same) ∙ one))
        | inr other ↦ rw other (not-later (n ∷ seen) ns (rw new at h) m (or_right (eqb n m) _ one))
      ]
    ]

no-two : (seen ns : List ℕ) → twice seen ns ≡ None → NoTwo ns
no-two seen [] h = tt
no-two seen (n ∷ ns) h =
    elim (cases_Bool (is_one_of n seen)) [
      | inl old ↦ absurd (let bad : Some n ≡ None = rw old at h in cc)
      | inr new ↦ let rest : twice (n ∷ seen) ns ≡ None = rw new at h in (not-later (n ∷ seen) ns rest n (or_left _ _ (eq-eqb n n refl)), no-two (n ∷ seen) ns rest)
    ]

-- of two lists none has a number of the other
record Parted (xs ys : List ℕ) : Type 0 where
  front : NoTwo xs
  back : NoTwo ys
  behind : (n : ℕ) → is_one_of n xs ≡ true → is_one_of n ys ≡ false

parted : (xs ys : List ℕ) → NoTwo (xs ++ ys) → Parted xs ys
parted [] ys h = record { front = tt; back = h; behind = λ n one. absurd (both_ways _ refl one) }
parted (x ∷ xs) ys h =
    let rest = parted xs ys h.1 in
    let away = or_parts (is_one_of x xs) (is_one_of x ys) (sym (one_of-append x xs ys) ∙ h.0) in
    record {
      front = (away.0, rest.front);
      back = rest.back;
      behind = λ n one. elim (cases_Bool (eqb x n)) [
        | inl same ↦ ap (λ m. is_one_of m ys) (sym (eqb-true x n same)) ∙ away.1
        | inr other ↦ rest.behind n (rw other at one)
      ];
    }

-- ---- no node stands in two items or two branches, nor inside its own block
abbrev mutual
  pub PartOnce : Part → Type 0
  PartOnce (act node) = Unit {0}
  PartOnce (gate kind split join ls) = (lanes_have ls split ≡ false) × (lanes_have ls join ≡ false) × LanesOnce ls
  PartOnce (loop start end body) = (parts_have body start ≡ false) × (parts_have body end ≡ false) × PartsOnce body

  pub PartsOnce : Parts → Type 0
  PartsOnce nothing = Unit {0}
  PartsOnce (part p ps) = ((n : ℕ) → part_has p n ≡ true → parts_have ps n ≡ false) × PartOnce p × PartsOnce ps

  pub LanesOnce : Lanes → Type 0
  LanesOnce no_lane = Unit {0}
  LanesOnce (lane code ps ls) = ((n : ℕ) → parts_have ps n ≡ true → lanes_have ls n ≡ false) × PartsOnce ps × LanesOnce ls

-- the nodes of a block are not inside it
opening-out : (start end : ℕ) (inside : List ℕ) → NoTwo (start ∷ (inside ++ end ∷ [])) → is_one_of start inside ≡ false
opening-out start end inside h = (or_parts (is_one_of start inside) _ (sym (one_of-append start inside (end ∷ [])) ∙ h.0)).0

closing-out : (start end : ℕ) (inside : List ℕ) → NoTwo (start ∷ (inside ++ end ∷ [])) → is_one_of end inside ≡ false
closing-out start end inside h =
    elim (cases_Bool (is_one_of end inside)) [
      | inl here ↦ absurd (both_ways _ ((parted inside (end ∷ []) h.1).behind end here) (or_left _ _ (eq-eqb end end refl)))
      | inr away ↦ away
    ]

mutual
  part-once : (p : Part) → NoTwo (part_nodes p) → PartOnce p
  part-once (act node) h = tt
  part-once (gate kind split join ls) h = (
    have-lanes_nodes ls split ∙ opening-out split join (lanes_nodes ls) h,
    have-lanes_nodes ls join ∙ closing-out split join (lanes_nodes ls) h,
    lanes-once ls (parted (lanes_nodes ls) (join ∷ []) h.1).front,
  )
  part-once (loop start end body) h = (
    have-parts_nodes body start ∙ opening-out start end (parts_nodes body) h,
    have-parts_nodes body end ∙ closing-out start end (parts_nodes body) h,
    parts-once body (parted (parts_nodes body) (end ∷ []) h.1).front,
  )

  parts-once : (ps : Parts) → NoTwo (parts_nodes ps) → PartsOnce ps
  parts-once nothing h = tt
  parts-once (part p ps) h =
      let two = parted (part_nodes p) (parts_nodes ps) h in (
        λ n one. have-parts_nodes ps n ∙ two.behind n (sym (has-part_nodes p n) ∙ one),
        part-once p two.front,
        parts-once ps two.back,
      )

  lanes-once : (ls : Lanes) → NoTwo (lanes_nodes ls) → LanesOnce ls
  lanes-once no_lane h = tt
  lanes-once (lane code ps ls) h =
      let two = parted (parts_nodes ps) (lanes_nodes ls) h in (
        λ n one. have-lanes_nodes ls n ∙ two.behind n (sym (have-parts_nodes ps n) ∙ one),
        parts-once ps two.front,
        lanes-once ls two.back,
      )

-- so it is in a schema of distinct nodes, of which neither the start nor the finish is in the tree
pub record BodyOnce (s : SchemaModel) : Type 0 where
  pub start : parts_have s.body s.start ≡ false
  pub finish : parts_have s.body s.finish ≡ false
  pub body : PartsOnce s.body

pub body-once : (s : SchemaModel) → twice [] (nodes_of (cards_of s)) ≡ None → BodyOnce s
body-once s distinct =
    let all : NoTwo (s.start ∷ (parts_nodes s.body ++ s.finish ∷ [])) = subst NoTwo (nodes-of_tree s) (no-two [] (nodes_of (cards_of s)) distinct) in
    record {
      start = have-parts_nodes s.body s.start ∙ opening-out s.start s.finish (parts_nodes s.body) all;
      finish = have-parts_nodes s.body s.finish ∙ closing-out s.start s.finish (parts_nodes s.body) all;
      body = parts-once s.body (parted (parts_nodes s.body) (s.finish ∷ []) all.1).front;
    }
