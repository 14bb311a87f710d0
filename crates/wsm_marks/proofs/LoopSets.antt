-- A set that holds whole loops and nothing else: the innermost loop round a node is in the set exactly where the node is.
use Rattle.wsm_marks.proofs.Common.{ℕ, ◌||◌, ◌∙◌, ◌≡◌, ◌⊎◌, act, AllRows, ap, Bool, both_ways, cases_Bool, End, eqb, eqb-true, false, first_node, gate, inl, inr, labelled, lane, Lanes, lanes_have, lanes_loop, lanes_places, last_of, loop}
use Rattle.wsm_marks.proofs.Common.{no_lane, None, nothing, Option, or_cases, or_parts, Part, part, part_has, part_loop, part_places, Parts, parts_have, parts_loop, parts_places, plain_end, refl, rows-parts, Some, sym, true}

-- a fact of each node of a tree
abbrev mutual
  pub EachPart : (ℕ → Type 0) → Part → Type 0
  EachPart P (act n) = P n
  EachPart P (gate kind split join ls) = P split × P join × EachLanes P ls
  EachPart P (loop start end body) = P start × P end × EachParts P body

  pub EachParts : (ℕ → Type 0) → Parts → Type 0
  EachParts P nothing = Unit {0}
  EachParts P (part p ps) = EachPart P p × EachParts P ps

  pub EachLanes : (ℕ → Type 0) → Lanes → Type 0
  EachLanes P no_lane = Unit {0}
  EachLanes P (lane code ps ls) = EachParts P ps × EachLanes P ls

-- the nodes of the set are those of whole loops
abbrev mutual
  pub WholePart : (ℕ → Bool) → Part → Type 0
  WholePart A (act n) = A n ≡ false
  WholePart A (gate kind split join ls) = (A split ≡ false) × (A join ≡ false) × WholeLanes A ls
  WholePart A (loop start end body) = EachPart (λ n. A n ≡ true) (loop start end body) ⊎ ((A start ≡ false) × (A end ≡ false) × WholeParts A body)

  pub WholeParts : (ℕ → Bool) → Parts → Type 0
  WholeParts A nothing = Unit {0}
  WholeParts A (part p ps) = WholePart A p × WholeParts A ps

  pub WholeLanes : (ℕ → Bool) → Lanes → Type 0
  WholeLanes A no_lane = Unit {0}
  WholeLanes A (lane code ps ls) = WholeParts A ps × WholeLanes A ls

-- a fact of each place is one of each node
mutual
  pub part-each : (P : ℕ → Type 0) (p : Part) (from : End) (to : ℕ) → AllRows (λ q. P q.node) (part_places p from to) → EachPart P p
  part-each P (act n) from to h = h.0
  part-each P (gate kind split join ls) from to h =
      let r = rows-parts (λ q. P q.node) (lanes_places ls split join) _ h.1 in (h.0, r.1.0, lanes-each P ls split join r.0)
  part-each P (loop start end body) from to h =
      let r = rows-parts (λ q. P q.node) (parts_places body (plain_end start) end) _ h.1 in (h.0, r.1.0, parts-each P body (plain_end start) end r.0)

  pub parts-each : (P : ℕ → Type 0) (ps : Parts) (from : End) (to : ℕ) → AllRows (λ q. P q.node) (parts_places ps from to) → EachParts P ps
  parts-each P nothing from to h = tt
  parts-each P (part p ps) from to h =
      let r = rows-parts (λ q. P q.node) (part_places p from (first_node ps to)) _ h in
      (part-each P p from (first_node ps to) r.0, parts-each P ps (plain_end (last_of p)) to r.1)

  pub lanes-each : (P : ℕ → Type 0) (ls : Lanes) (split join : ℕ) → AllRows (λ q. P q.node) (lanes_places ls split join) → EachLanes P ls
  lanes-each P no_lane split join h = tt
  lanes-each P (lane code ps ls) split join h =
      let r = rows-parts (λ q. P q.node) (parts_places ps (labelled split code) join) _ h in
      (parts-each P ps (labelled split code) join r.0, lanes-each P ls split join r.1)

-- a set that holds no node of a tree holds whole loops of it: none
mutual
  pub part-none : (A : ℕ → Bool) (p : Part) → EachPart (λ n. A n ≡ false) p → WholePart A p
  part-none A (act n) h = h
  part-none A (gate kind split join ls) h = (h.0, h.1, lanes-none A ls h.2)
  part-none A (loop start end body) h = inr (h.0, h.1, parts-none A body h.2)

  pub parts-none : (A : ℕ → Bool) (ps : Parts) → EachParts (λ n. A n ≡ false) ps → WholeParts A ps
  parts-none A nothing h = tt
  parts-none A (part p ps) h = (part-none A p h.0, parts-none A ps h.1)

  pub lanes-none : (A : ℕ → Bool) (ls : Lanes) → EachLanes (λ n. A n ≡ false) ls → WholeLanes A ls
  lanes-none A no_lane h = tt
  lanes-none A (lane code ps ls) h = (parts-none A ps h.0, lanes-none A ls h.1)

-- whether the set holds the start of the loop round a node
abbrev pub holds : (ℕ → Bool) → Option ℕ → Bool
holds A None = false
holds A (Some k) = A k

only_first : (x y : Bool) → (x || y) ≡ true → y ≡ false → x ≡ true
only_first true y h none = refl
only_first false y h none = absurd (both_ways _ none h)

module _ (A : ℕ → Bool) (n : ℕ) where
  -- of two nodes
  one-of_two : (b : Bool) (x y : ℕ) → A x ≡ b → A y ≡ b → (eqb x n || eqb y n) ≡ true → A n ≡ b
  one-of_two b x y p q h =
      elim (or_cases (eqb x n) (eqb y n) h) [
        | inl same ↦ ap A (sym (eqb-true x n same)) ∙ p
        | inr same ↦ ap A (sym (eqb-true y n same)) ∙ q
      ]

  -- ---- all nodes of a tree are in the set, or all are out of it
  mutual
    part-alike : (b : Bool) (p : Part) (around : Option ℕ) → EachPart (λ k. A k ≡ b) p → holds A around ≡ b → holds A (part_loop p n around) ≡ b
    part-alike b (act node) around h a = a
    part-alike b (gate kind split join ls) around h a = lanes-alike b ls around h.2 a
    part-alike b (loop start end body) around h a = parts-alike b body (Some start) h.2 h.0

    parts-alike : (b : Bool) (ps : Parts) (around : Option ℕ) → EachParts (λ k. A k ≡ b) ps → holds A around ≡ b → holds A (parts_loop ps n around) ≡ b
    parts-alike b nothing around h a = a
    parts-alike b (part p ps) around h a =
        elim (cases_Bool (part_has p n)) [
          | inl there ↦ rw there (part-alike b p around h.0 a)
          | inr other ↦ rw other (parts-alike b ps around h.1 a)
        ]

    lanes-alike : (b : Bool) (ls : Lanes) (around : Option ℕ) → EachLanes (λ k. A k ≡ b) ls → holds A around ≡ b → holds A (lanes_loop ls n around) ≡ b
    lanes-alike b no_lane around h a = a
    lanes-alike b (lane code ps ls) around h a =
        elim (cases_Bool (parts_have ps n)) [
          | inl there ↦ rw there (parts-alike b ps around h.0 a)
          | inr other ↦ rw other (lanes-alike b ls around h.1 a)
        ]

  mutual
    part-node : (b : Bool) (p : Part) → EachPart (λ k. A k ≡ b) p → part_has p n ≡ true → A n ≡ b
    part-node b (act node) h there = ap A (sym (eqb-true node n there)) ∙ h
    part-node b (gate kind split join ls) h there =
        elim (or_cases (eqb split n || eqb join n) (lanes_have ls n) there) [ inl ends ↦ one-of_two b split join h.0 h.1 ends | inr inside ↦ lanes-node b ls h.2 inside ]
    part-node b (loop start end body) h there =
        elim (or_cases (eqb start n || eqb end n) (parts_have body n) there) [ inl ends ↦ one-of_two b start end h.0 h.1 ends | inr inside ↦ parts-node b body h.2 inside ]

    parts-node : (b : Bool) (ps : Parts) → EachParts (λ k. A k ≡ b) ps → parts_have ps n ≡ true → A n ≡ b
    parts-node b nothing h there = absurd (both_ways _ refl there)
    parts-node b (part p ps) h there = elim (or_cases (part_has p n) (parts_have ps n) there) [ inl first ↦ part-node b p h.0 first | inr later ↦ parts-node b ps h.1 later ]

    lanes-node : (b : Bool) (ls : Lanes) → EachLanes (λ k. A k ≡ b) ls → lanes_have ls n ≡ true → A n ≡ b
    lanes-node b no_lane h there = absurd (both_ways _ refl there)
    lanes-node b (lane code ps ls) h there = elim (or_cases (parts_have ps n) (lanes_have ls n) there) [ inl first ↦ parts-node b ps h.0 first | inr later ↦ lanes-node b ls h.1 later ]

  -- ---- a node that a tree does not have
  parts-absent : (ps : Parts) (around : Option ℕ) → parts_have ps n ≡ false → parts_loop ps n around ≡ around
  parts-absent nothing around h = refl
  parts-absent (part p ps) around h = let r = or_parts (part_has p n) (parts_have ps n) h in rw r.0 (parts-absent ps around r.1)

  lanes-absent : (ls : Lanes) (around : Option ℕ) → lanes_have ls n ≡ false → lanes_loop ls n around ≡ around
  lanes-absent no_lane around h = refl
  lanes-absent (lane code ps ls) around h = let r = or_parts (parts_have ps n) (lanes_have ls n) h in rw r.0 (lanes-absent ls around r.1)

  -- ---- whole loops
  mutual
    part-loops : (p : Part) (around : Option ℕ) → WholePart A p → holds A around ≡ false → part_has p n ≡ true → holds A (part_loop p n around) ≡ A n
    part-loops (act node) around w a there = a ∙ sym (ap A (sym (eqb-true node n there)) ∙ w)
    part-loops (gate kind split join ls) around w a there =
        elim (cases_Bool (lanes_have ls n)) [
          | inl inside ↦ lanes-loops ls around w.2 a inside
          | inr none ↦ ap (holds A) (lanes-absent ls around none) ∙ a ∙ sym (one-of_two false split join w.0 w.1 (only_first _ _ there none))
        ]
    part-loops (loop start end body) around (inl each) a there =
        parts-alike true body (Some start) each.2 each.0 ∙ sym (part-node true (loop start end body) each there)
    part-loops (loop start end body) around (inr w) a there =
        elim (cases_Bool (parts_have body n)) [
          | inl inside ↦ parts-loops body (Some start) w.2 w.0 inside
          | inr none ↦ ap (holds A) (parts-absent body (Some start) none) ∙ w.0 ∙ sym (one-of_two false start end w.0 w.1 (only_first _ _ there none))
        ]

    -- the loop round a node is in the set exactly where the node is
    pub parts-loops : (ps : Parts) (around : Option ℕ) → WholeParts A ps → holds A around ≡ false → parts_have ps n ≡ true → holds A (parts_loop ps n around) ≡ A n
    parts-loops nothing around w a there = absurd (both_ways _ refl there)
    parts-loops (part p ps) around w a there =
        elim (cases_Bool (part_has p n)) [
          | inl first ↦ rw first (part-loops p around w.0 a first)
          | inr other ↦ rw other (parts-loops ps around w.1 a (rw other at there))
        ]

    lanes-loops : (ls : Lanes) (around : Option ℕ) → WholeLanes A ls → holds A around ≡ false → lanes_have ls n ≡ true → holds A (lanes_loop ls n around) ≡ A n
    lanes-loops no_lane around w a there = absurd (both_ways _ refl there)
    lanes-loops (lane code ps ls) around w a there =
        elim (cases_Bool (parts_have ps n)) [
          | inl first ↦ rw first (parts-loops ps around w.0 a first)
          | inr other ↦ rw other (lanes-loops ls around w.1 a (rw other at there))
        ]
