-- A part with a node inside that is ready: the edge that enters is True, and where that node was not ended the edge that leaves signals nothing.
use Rattle.wsm_marks.proofs.Common.{[], ℕ, ◌||◌, ◌∙◌, ◌∷◌, ◌≡◌, ◌≤◌, act, all-rows-map, AllRows, and_gate, and_left, and_right, ap, Bool, both_ways, branch_heads, branch_tails, card_of, cards_of, cases_Bool, End, eq-eqb, eq_of, eqb}
use Rattle.wsm_marks.proofs.Common.{eqb-true, Facts, false, first_node, Flow, flow, FullLanes, FullPart, FullParts, Gate, gate, has_label, inl, inr, is_no, is_some, is_yes, join_kind, labelled, lane, Lanes, lanes_have, lanes_places}
use Rattle.wsm_marks.proofs.Common.{last_of, leaving, List, list_all, loop, map, Marking, no_lane, NodeKind, None, nothing, Option, or_cases, or_left, or_right, Part, part, part_has, part_places, Parts, parts_have, parts_places, Place}
use Rattle.wsm_marks.proofs.Common.{place, plain_end, refl, rows-append, rows-parts, SchemaModel, sig_at, sig_of, Solves, Some, split_kind, subst, sym, Timed, true, worked_on, xor_gate}
use Rattle.wsm_schema.specs.declared.cards.NodeKind.TheVariants as kind
use Rattle.wsm_schema.specs.declared.states.Flow.TheVariants.{Yes, No}
use Rattle.wsm_marks.proofs.BlockFlow.{Later, Sane, mark-is, node-one, node-silent, node-works, none-is, none_none, no_no, not_some, part-flow, parts-flow, sig, sig-is, yes_none, yes_yes}

-- ---- signals
-- what a True stands behind is True
later-yes : (x y : Timed) → Later x y → is_yes (flow y) ≡ true → is_yes (flow x) ≡ true
later-yes _ _ none_none h = h
later-yes _ _ (no_no t) h = h
later-yes _ _ (yes_none t) h = refl
later-yes _ _ (yes_yes t u le) h = refl

-- what is nothing is not True
pub no_true : (x : Timed) → x ≡ None → is_yes (flow x) ≡ true → ⊥
no_true x none h = both_ways _ (ap (λ y. is_yes (flow y)) none) h

-- when an End is told, the node was ready
abbrev EndsReady : Timed → Option ℕ → Type 0
EndsReady x en = (u : ℕ) → en ≡ Some u → (t : ℕ) × (x ≡ Some (t, Yes)) × (t ≤ u)

-- only a ready node signals True
sig-ready : (k : NodeKind) (x : Timed) (en choice label : Option ℕ) → EndsReady x en → is_yes (flow (sig_of k x en choice label)) ≡ true → is_yes (flow x) ≡ true
sig-ready k (Some (t, No)) en choice label ends h = h
sig-ready k (Some (t, Yes)) en choice label ends h = refl
sig-ready k None (Some u) choice label ends h = let r = ends u refl in absurd (not_some (r.0, Yes) r.1)
sig-ready k None None choice label ends h =
    elim (cases_Bool (worked_on k)) [
      | inl works ↦ absurd (both_ways _ refl (rw works at h))
      | inr silent ↦ absurd (both_ways _ refl (rw silent at h))
    ]

-- a branch of an XOR split gets a True where its code was chosen
pub sig-chosen : (x : Timed) (en choice : Option ℕ) (code : ℕ) → is_yes (flow (sig_of kind.XorSplit x en choice (Some code))) ≡ true → choice ≡ Some code
sig-chosen (Some (t, No)) en choice code h = absurd (both_ways _ refl h)
sig-chosen (Some (t, Yes)) None choice code h = absurd (both_ways _ refl h)
sig-chosen None None choice code h = absurd (both_ways _ refl h)
sig-chosen (Some (t, Yes)) (Some u) None code h = absurd (both_ways _ refl h)
sig-chosen None (Some u) None code h = absurd (both_ways _ refl h)
sig-chosen (Some (t, Yes)) (Some u) (Some c) code h =
    elim (cases_Bool (eqb c code)) [ inl same ↦ ap (λ k. Some k) (eqb-true c code same) | inr other ↦ absurd (both_ways _ refl (rw other at h)) ]
sig-chosen None (Some u) (Some c) code h =
    elim (cases_Bool (eqb c code)) [ inl same ↦ ap (λ k. Some k) (eqb-true c code same) | inr other ↦ absurd (both_ways _ refl (rw other at h)) ]

-- ---- joins
none-fails : (test : Option Flow → Bool) → test None ≡ false → (os : List (Option Flow)) → list_all is_some os ≡ false → list_all test os ≡ false
none-fails test none [] h = absurd (both_ways _ h refl)
none-fails test none (None ∷ os) h = and_left (test None) _ none
none-fails test none (Some x ∷ os) h = and_right (test (Some x)) _ (none-fails test none os h)

-- a join one of whose edges signals nothing waits
join-waits : (g : Gate) (ys ss : List Timed) → list_all is_some (map flow ys) ≡ false → eq_of (join_kind g) ys ss ≡ None
join-waits and_gate ys ss h = rw (none-fails is_yes refl (map flow ys) h, none-fails is_no refl (map flow ys) h) refl
join-waits xor_gate ys ss h = rw (h, none-fails is_no refl (map flow ys) h) refl

-- nobody works on a join
pub join-silent : (g : Gate) → worked_on (join_kind g) ≡ false
join-silent and_gate = refl
join-silent xor_gate = refl

-- ---- the nodes of a tree
mutual
  part-nodes : (p : Part) (from : End) (to : ℕ) → AllRows (λ q. part_has p q.node ≡ true) (part_places p from to)
  part-nodes (act n) from to = (eq-eqb n n refl, tt)
  part-nodes (gate g split join ls) from to = (
    or_left (eqb split split || eqb join split) (lanes_have ls split) (or_left (eqb split split) (eqb join split) (eq-eqb split split refl)),
    rows-append _ (lanes_places ls split join) _ (all-rows-map _ _ (λ q h. or_right (eqb split q.node || eqb join q.node) (lanes_have ls q.node) h) _ (lanes-nodes ls split join))
        (or_left (eqb split join || eqb join join) (lanes_have ls join) (or_right (eqb split join) (eqb join join) (eq-eqb join join refl)), tt),
  )
  part-nodes (loop start end body) from to = (
    or_left (eqb start start || eqb end start) (parts_have body start) (or_left (eqb start start) (eqb end start) (eq-eqb start start refl)),
    rows-append _ (parts_places body (plain_end start) end) _ (all-rows-map _ _ (λ q h. or_right (eqb start q.node || eqb end q.node) (parts_have body q.node) h) _ (parts-nodes body (plain_end start) end))
        (or_left (eqb start end || eqb end end) (parts_have body end) (or_right (eqb start end) (eqb end end) (eq-eqb end end refl)), tt),
  )

  -- each node of the places of parts stands in the parts
  pub parts-nodes : (ps : Parts) (from : End) (to : ℕ) → AllRows (λ q. parts_have ps q.node ≡ true) (parts_places ps from to)
  parts-nodes nothing from to = tt
  parts-nodes (part p ps) from to =
      rows-append _ (part_places p from (first_node ps to)) _
      (all-rows-map _ _ (λ q h. or_left (part_has p q.node) (parts_have ps q.node) h) _ (part-nodes p from (first_node ps to)))
      (all-rows-map _ _ (λ q h. or_right (part_has p q.node) (parts_have ps q.node) h) _ (parts-nodes ps (plain_end (last_of p)) to))

  lanes-nodes : (ls : Lanes) (split join : ℕ) → AllRows (λ q. lanes_have ls q.node ≡ true) (lanes_places ls split join)
  lanes-nodes no_lane split join = tt
  lanes-nodes (lane code ps ls) split join =
      rows-append _ (parts_places ps (labelled split code) join) _
      (all-rows-map _ _ (λ q h. or_left (parts_have ps q.node) (lanes_have ls q.node) h) _ (parts-nodes ps (labelled split code) join))
      (all-rows-map _ _ (λ q h. or_right (parts_have ps q.node) (lanes_have ls q.node) h) _ (lanes-nodes ls split join))

module _ (s : SchemaModel) (f : Facts) (m : Marking) where
  -- a node that is ready, and signals nothing
  pub record Held (n : ℕ) : Type 0 where
    pub ready : is_yes (flow (m n)) ≡ true
    pub silent : (label : Option ℕ) → sig_at (cards_of s) f m label n ≡ None

  -- a node that nobody works on is not held
  pub silent-free : (n : ℕ) (k : NodeKind) (partner : Option ℕ) (ins outs : List End) → Sane s f m (place n k partner ins outs) → worked_on k ≡ false → Held n → ⊥
  silent-free n k partner ins outs sane silent held = no_true (m n) (sym (node-silent s f m n k partner ins outs sane silent None) ∙ held.silent None) held.ready

  -- an edge that is True comes from a ready node
  pub edge-ready : (p : Place) → Sane s f m p → (label : Option ℕ) → is_yes (flow (sig_at (cards_of s) f m label p.node)) ≡ true → is_yes (flow (m p.node)) ≡ true
  edge-ready p sane label h =
      sig-ready p.kind (m p.node) (f.ended p.node) (f.choice p.node) label sane.ended (ap (λ x. is_yes (flow x)) (sym (sig-is s f m p sane label)) ∙ h)

  -- a node under another name of it
  ready-at : (n k : ℕ) → eqb n k ≡ true → is_yes (flow (m k)) ≡ true → is_yes (flow (m n)) ≡ true
  ready-at n k same h = ap (λ j. is_yes (flow (m j))) (eqb-true n k same) ∙ h

  -- the same of a held one
  pub held-at : (n k : ℕ) → eqb n k ≡ true → Held k → Held n
  held-at n k same h = subst Held (sym (eqb-true n k same)) h

  module _ (solves : Solves (cards_of s) f m) where
    pub split-entered : (g : Gate) (split : ℕ) (partner : Option ℕ) (from : End) (outs : List End) → Sane s f m (place split (split_kind g) partner (from ∷ []) outs) → Later (sig s f m from) (m split)
    split-entered and_gate split partner from outs sane = node-one s f m solves split kind.AndSplit partner from outs sane tt
    split-entered xor_gate split partner from outs sane = node-one s f m solves split kind.XorSplit partner from outs sane tt

    -- ---- where a node inside is ready, the edge that enters is True
    -- one of these branches gets a True
    abbrev pub TakenLane : Lanes → ℕ → ℕ → Type 0
    TakenLane ls split join = (code : ℕ) × (is_yes (flow (sig s f m (labelled split code))) ≡ true) × (has_label code (branch_heads ls join) ≡ true)

    mutual
      -- of a part
      pub part-entered : (p : Part) (from : End) (to n : ℕ) → FullPart p → AllRows (Sane s f m) (part_places p from to) → part_has p n ≡ true → is_yes (flow (m n)) ≡ true → is_yes (flow (sig s f m from)) ≡ true
      part-entered (act node) from to n full sane has ready =
          later-yes _ _ (node-one s f m solves node kind.Activity None from (plain_end to ∷ []) sane.0 tt) (ready-at node n has ready)
      part-entered (gate g split join no_lane) from to n full sane has ready = absurd full
      part-entered (gate g split join (lane code ps ls)) from to n full sane has ready =
          let r = rows-parts (Sane s f m) (lanes_places (lane code ps ls) split join) _ sane.1 in
          let first = split-entered g split (Some join) from (branch_heads (lane code ps ls) join) sane.0 in
          elim (or_cases (eqb split n || eqb join n) (lanes_have (lane code ps ls) n) has) [
            | inl ends ↦
                elim (or_cases (eqb split n) (eqb join n) ends) [
                  | inl same ↦ later-yes _ _ first (ready-at split n same ready)
                  | inr same ↦
                      later-yes _ _ (part-flow s f m solves (gate g split join (lane code ps ls)) from to full sane)
                      (ap (λ x. is_yes (flow x)) (node-silent s f m join (join_kind g) (Some split) (branch_tails (lane code ps ls) split) (plain_end to ∷ []) r.1.0 (join-silent g) None) ∙ ready-at join n same ready)
                ]
            | inr inside ↦
                let taken = lanes-entered (lane code ps ls) split join n full r.0 inside ready in
                later-yes _ _ first (edge-ready (place split (split_kind g) (Some join) (from ∷ []) (branch_heads (lane code ps ls) join)) sane.0 (Some taken.0) taken.1)
          ]
      part-entered (loop start end body) from to n full sane has ready =
          let r = rows-parts (Sane s f m) (parts_places body (plain_end start) end) _ sane.1 in
          let first = node-one s f m solves start kind.LoopStart (Some end) from (plain_end (first_node body end) ∷ []) sane.0 tt in
          let inside = λ (h : is_yes (flow (sig s f m (plain_end start))) ≡ true).
          later-yes _ _ first (edge-ready (place start kind.LoopStart (Some end) (from ∷ []) (plain_end (first_node body end) ∷ [])) sane.0 None h) in
          elim (or_cases (eqb start n || eqb end n) (parts_have body n) has) [
            | inl ends ↦
                elim (or_cases (eqb start n) (eqb end n) ends) [
                  | inl same ↦ later-yes _ _ first (ready-at start n same ready)
                  | inr same ↦
                      inside (later-yes _ _ (parts-flow s f m solves body (plain_end start) end full r.0)
                      (later-yes _ _ (node-one s f m solves end kind.LoopEnd (Some start) (leaving body (plain_end start)) (plain_end to ∷ []) r.1.0 tt) (ready-at end n same ready)))
                ]
            | inr within ↦ inside (parts-entered body (plain_end start) end n full r.0 within ready)
          ]

      -- of parts in a row
      pub parts-entered : (ps : Parts) (from : End) (to n : ℕ) → FullParts ps → AllRows (Sane s f m) (parts_places ps from to) → parts_have ps n ≡ true → is_yes (flow (m n)) ≡ true → is_yes (flow (sig s f m from)) ≡ true
      parts-entered nothing from to n full sane has ready = absurd (both_ways _ refl has)
      parts-entered (part p ps) from to n full sane has ready =
          let r = rows-parts (Sane s f m) (part_places p from (first_node ps to)) _ sane in
          elim (or_cases (part_has p n) (parts_have ps n) has) [
            | inl here ↦ part-entered p from (first_node ps to) n full.0 r.0 here ready
            | inr behind ↦ later-yes _ _ (part-flow s f m solves p from (first_node ps to) full.0 r.0) (parts-entered ps (plain_end (last_of p)) to n full.1 r.1 behind ready)
          ]

      -- of branches: the edge that enters one of them is True
      pub lanes-entered : (ls : Lanes) (split join n : ℕ) → FullLanes ls → AllRows (Sane s f m) (lanes_places ls split join) → lanes_have ls n ≡ true → is_yes (flow (m n)) ≡ true → TakenLane ls split join
      lanes-entered no_lane split join n full sane has ready = absurd (both_ways _ refl has)
      lanes-entered (lane code ps ls) split join n full sane has ready =
          let r = rows-parts (Sane s f m) (parts_places ps (labelled split code) join) _ sane in
          elim (or_cases (parts_have ps n) (lanes_have ls n) has) [
            | inl here ↦ (code, parts-entered ps (labelled split code) join n full.0 r.0 here ready, or_left (eqb code code) (has_label code (branch_heads ls join)) (eq-eqb code code refl))
            | inr behind ↦
                let taken = lanes-entered ls split join n full.1 r.1 behind ready in
                (taken.0, taken.1, or_right (eqb code taken.0) (has_label taken.0 (branch_heads ls join)) taken.2)
          ]

    -- ---- where a node inside is held, the edge that leaves signals nothing
    join-none : (g : Gate) (ls : Lanes) (split join to : ℕ) → Sane s f m (place join (join_kind g) (Some split) (branch_tails ls split) (plain_end to ∷ [])) →
        list_all is_some (map flow (map (sig s f m) (branch_tails ls split))) ≡ false → sig s f m (plain_end join) ≡ None
    join-none g ls split join to sane h =
        node-silent s f m join (join_kind g) (Some split) (branch_tails ls split) (plain_end to ∷ []) sane (join-silent g) None
        ∙ mark-is s f m solves (place join (join_kind g) (Some split) (branch_tails ls split) (plain_end to ∷ [])) sane ∙ join-waits g (map (sig s f m) (branch_tails ls split)) (map (sig_at (cards_of s) f m None) (card_of s (place join (join_kind g) (Some split) (branch_tails ls split) (plain_end to ∷ []))).syncs_in) h

    none-first : (x : Timed) (ys : List Timed) → x ≡ None → list_all is_some (map flow (x ∷ ys)) ≡ false
    none-first x ys h = and_left (is_some (flow x)) _ (ap (λ y. is_some (flow y)) h)

    -- behind nothing comes nothing, said of equal signals
    pub none-flows : (x y : Timed) → Later x y → x ≡ None → y ≡ None
    none-flows x y later h = none-is y (subst (λ z. Later z y) h later)

    mutual
      -- of a part
      pub part-stays : (p : Part) (from : End) (to n : ℕ) → FullPart p → AllRows (Sane s f m) (part_places p from to) → part_has p n ≡ true → Held n → sig s f m (plain_end (last_of p)) ≡ None
      part-stays (act node) from to n full sane has held = (held-at node n has held).silent None
      part-stays (gate g split join no_lane) from to n full sane has held = absurd full
      part-stays (gate g split join (lane code ps ls)) from to n full sane has held =
          let r = rows-parts (Sane s f m) (lanes_places (lane code ps ls) split join) _ sane.1 in
          let q = rows-parts (Sane s f m) (parts_places ps (labelled split code) join) _ r.0 in
          elim (or_cases (eqb split n || eqb join n) (lanes_have (lane code ps ls) n) has) [
            | inl ends ↦
                elim (or_cases (eqb split n) (eqb join n) ends) [
                  | inl same ↦
                      join-none g (lane code ps ls) split join to r.1.0
                      (none-first _ (map (sig s f m) (branch_tails ls split)) (none-flows _ _ (parts-flow s f m solves ps (labelled split code) join full.0 q.0) ((held-at split n same held).silent (Some code))))
                  | inr same ↦ absurd (silent-free join (join_kind g) (Some split) (branch_tails (lane code ps ls) split) (plain_end to ∷ []) r.1.0 (join-silent g) (held-at join n same held))
                ]
            | inr inside ↦ join-none g (lane code ps ls) split join to r.1.0 (lanes-stay (lane code ps ls) split join n full r.0 inside held)
          ]
      part-stays (loop start end body) from to n full sane has held =
          let r = rows-parts (Sane s f m) (parts_places body (plain_end start) end) _ sane.1 in
          elim (or_cases (eqb start n || eqb end n) (parts_have body n) has) [
            | inl ends ↦
                elim (or_cases (eqb start n) (eqb end n) ends) [
                  | inl same ↦ absurd (silent-free start kind.LoopStart (Some end) (from ∷ []) (plain_end (first_node body end) ∷ []) sane.0 refl (held-at start n same held))
                  | inr same ↦ (held-at end n same held).silent None
                ]
            | inr within ↦
                none-flows _ _ (node-works s f m end kind.LoopEnd (Some start) (leaving body (plain_end start) ∷ []) (plain_end to ∷ []) r.1.0 refl refl None)
                (none-flows _ _ (node-one s f m solves end kind.LoopEnd (Some start) (leaving body (plain_end start)) (plain_end to ∷ []) r.1.0 tt)
                (parts-stay body (plain_end start) end n full r.0 within held))
          ]

      -- of parts in a row
      pub parts-stay : (ps : Parts) (from : End) (to n : ℕ) → FullParts ps → AllRows (Sane s f m) (parts_places ps from to) → parts_have ps n ≡ true → Held n → sig s f m (leaving ps from) ≡ None
      parts-stay nothing from to n full sane has held = absurd (both_ways _ refl has)
      parts-stay (part p ps) from to n full sane has held =
          let r = rows-parts (Sane s f m) (part_places p from (first_node ps to)) _ sane in
          elim (or_cases (part_has p n) (parts_have ps n) has) [
            | inl here ↦ none-flows _ _ (parts-flow s f m solves ps (plain_end (last_of p)) to full.1 r.1) (part-stays p from (first_node ps to) n full.0 r.0 here held)
            | inr behind ↦ parts-stay ps (plain_end (last_of p)) to n full.1 r.1 behind held
          ]

      -- of branches: not all edges that leave them signal
      pub lanes-stay : (ls : Lanes) (split join n : ℕ) → FullLanes ls → AllRows (Sane s f m) (lanes_places ls split join) → lanes_have ls n ≡ true → Held n →
          list_all is_some (map flow (map (sig s f m) (branch_tails ls split))) ≡ false
      lanes-stay no_lane split join n full sane has held = absurd (both_ways _ refl has)
      lanes-stay (lane code ps ls) split join n full sane has held =
          let r = rows-parts (Sane s f m) (parts_places ps (labelled split code) join) _ sane in
          elim (or_cases (parts_have ps n) (lanes_have ls n) has) [
            | inl here ↦ none-first _ (map (sig s f m) (branch_tails ls split)) (parts-stay ps (labelled split code) join n full.0 r.0 here held)
            | inr behind ↦ and_right (is_some (flow (sig s f m (leaving ps (labelled split code))))) _ (lanes-stay ls split join n full.1 r.1 behind held)
          ]
