-- A loop in a tree: what stands before it, in it and behind it, and where the edges come from.
use Rattle.wsm_marks.proofs.Common.{[], ℕ, ◌++◌, ◌∙◌, ◌∷◌, ◌≡◌, ◌⊎◌, act, AllRows, and_gate, ap, append-nil, append_assoc, Bool, both_ways, branch_heads, branch_tails, End, false, first_node, Gate, gate, inl, inr, is_loop_end, join_kind}
use Rattle.wsm_marks.proofs.Common.{labelled, lane, Lanes, lanes_places, last_of, leaving, List, loop, no_lane, None, nothing, Part, part, part_places, Parts, parts_places, Place, place, places, plain_end, refl, rows-append, rows-parts}
use Rattle.wsm_marks.proofs.{Common.{same_Some, Some, split_kind, subst, sym, true, xor_gate}, Cards.nodes, LoopSets.{WholeLanes, WholePart, WholeParts, lanes-each, lanes-none, part-each, part-none, parts-each, parts-none}}
use Rattle.wsm_schema.specs.declared.cards.NodeKind.TheVariants.{LoopEnd, Start, Finish}

-- all nodes, and all sources of edges, are in a set
abbrev pub NodesIn : (ℕ → Bool) → List Place → Type 0
NodesIn A ps = AllRows (λ p. A p.node ≡ true) ps

-- no node is in a set
abbrev pub NodesOut : (ℕ → Bool) → List Place → Type 0
NodesOut A ps = AllRows (λ p. A p.node ≡ false) ps

-- the sources of edges are in a set
abbrev pub EndsIn : (ℕ → Bool) → List End → Type 0
EndsIn A xs = AllRows (λ x. A x.node ≡ true) xs

-- the sources of all edges into places are
abbrev pub InsIn : (ℕ → Bool) → List Place → Type 0
InsIn A ps = AllRows (λ p. EndsIn A p.ins) ps

-- the loop start of each loop end is in a set
abbrev pub IsPaired : (ℕ → Bool) → Place → Type 0
IsPaired A p = is_loop_end p.kind ≡ true → (k : ℕ) → p.partner ≡ Some k → A k ≡ true

-- the same of all places
abbrev pub PairsIn : (ℕ → Bool) → List Place → Type 0
PairsIn A ps = AllRows (IsPaired A) ps

no_split : (k : Gate) → is_loop_end (split_kind k) ≡ true → ⊥
no_split and_gate h = both_ways _ refl h
no_split xor_gate h = both_ways _ refl h

no_join : (k : Gate) → is_loop_end (join_kind k) ≡ true → ⊥
no_join and_gate h = both_ways _ refl h
no_join xor_gate h = both_ways _ refl h

-- a set that holds the nodes holds the loop starts of the loop ends
mutual
  pub part-pairs : (A : ℕ → Bool) (p : Part) (from : End) (to : ℕ) → NodesIn A (part_places p from to) → PairsIn A (part_places p from to)
  part-pairs A (act n) from to nodes = (λ h k e. absurd (both_ways _ refl h), tt)
  part-pairs A (gate kind split join ls) from to nodes =
      let n = rows-parts _ (lanes_places ls split join) _ nodes.1 in
      (λ h k e. absurd (no_split kind h), rows-append _ (lanes_places ls split join) _ (lanes-pairs A ls split join n.0) (λ h k e. absurd (no_join kind h), tt))
  part-pairs A (loop start end body) from to nodes =
      let n = rows-parts _ (parts_places body (plain_end start) end) _ nodes.1 in (
        λ h k e. absurd (both_ways _ refl h),
        rows-append _ (parts_places body (plain_end start) end) _ (parts-pairs A body (plain_end start) end n.0)
            (λ h k e. ap A (sym (same_Some start k e)) ∙ nodes.0, tt),
      )

  pub parts-pairs : (A : ℕ → Bool) (ps : Parts) (from : End) (to : ℕ) → NodesIn A (parts_places ps from to) → PairsIn A (parts_places ps from to)
  parts-pairs A nothing from to nodes = tt
  parts-pairs A (part p ps) from to nodes =
      let n = rows-parts _ (part_places p from (first_node ps to)) _ nodes in
      rows-append _ (part_places p from (first_node ps to)) _ (part-pairs A p from (first_node ps to) n.0) (parts-pairs A ps (plain_end (last_of p)) to n.1)

  pub lanes-pairs : (A : ℕ → Bool) (ls : Lanes) (split join : ℕ) → NodesIn A (lanes_places ls split join) → PairsIn A (lanes_places ls split join)
  lanes-pairs A no_lane split join nodes = tt
  lanes-pairs A (lane code ps ls) split join nodes =
      let n = rows-parts _ (parts_places ps (labelled split code) join) _ nodes in
      rows-append _ (parts_places ps (labelled split code) join) _ (parts-pairs A ps (labelled split code) join n.0) (lanes-pairs A ls split join n.1)

-- a set that holds the source of the edge that enters, and the nodes, holds the sources of all edges
mutual
  pub part-closed : (A : ℕ → Bool) (p : Part) (from : End) (to : ℕ) → A from.node ≡ true → NodesIn A (part_places p from to) → InsIn A (part_places p from to) × (A (last_of p) ≡ true)
  part-closed A (act n) from to h nodes = (((h, tt), tt), nodes.0)
  part-closed A (gate kind split join ls) from to h nodes =
      let n = rows-parts _ (lanes_places ls split join) _ nodes.1 in
      let c = lanes-closed A ls split join nodes.0 n.0 in
      (((h, tt), rows-append _ (lanes_places ls split join) _ c.0 (c.1, tt)), n.1.0)
  part-closed A (loop start end body) from to h nodes =
      let n = rows-parts _ (parts_places body (plain_end start) end) _ nodes.1 in
      let c = parts-closed A body (plain_end start) end nodes.0 n.0 in
      (((h, tt), rows-append _ (parts_places body (plain_end start) end) _ c.0 ((c.1, tt), tt)), n.1.0)

  pub parts-closed : (A : ℕ → Bool) (ps : Parts) (from : End) (to : ℕ) → A from.node ≡ true → NodesIn A (parts_places ps from to) → InsIn A (parts_places ps from to) × (A (leaving ps from).node ≡ true)
  parts-closed A nothing from to h nodes = (tt, h)
  parts-closed A (part p ps) from to h nodes =
      let n = rows-parts _ (part_places p from (first_node ps to)) _ nodes in
      let c = part-closed A p from (first_node ps to) h n.0 in
      let d = parts-closed A ps (plain_end (last_of p)) to c.1 n.1 in
      (rows-append _ (part_places p from (first_node ps to)) _ c.0 d.0, d.1)

  pub lanes-closed : (A : ℕ → Bool) (ls : Lanes) (split join : ℕ) → A split ≡ true → NodesIn A (lanes_places ls split join) → InsIn A (lanes_places ls split join) × EndsIn A (branch_tails ls split)
  lanes-closed A no_lane split join h nodes = (tt, tt)
  lanes-closed A (lane code ps ls) split join h nodes =
      let n = rows-parts _ (parts_places ps (labelled split code) join) _ nodes in
      let c = parts-closed A ps (labelled split code) join h n.0 in
      let d = lanes-closed A ls split join h n.1 in
      (rows-append _ (parts_places ps (labelled split code) join) _ c.0 d.0, (c.1, d.1))

-- ---- a loop in a tree
module _ (l e : ℕ) where
  -- the places of a tree with a loop: what stands before it and behind it, where their edges come from, and which sets hold whole loops of the tree
  pub record Found (ps : List Place) (enter : ℕ) (exits : List End) (W : (ℕ → Bool) → Type 0) : Type 0 where
    pub pre : List Place
    pub post : List Place
    pub body : Parts
    pub from : End
    pub to : ℕ
    pub split : ps ≡ pre ++ (part_places (loop l e body) from to ++ post)
    pub closed : (A : ℕ → Bool) → A enter ≡ true → NodesIn A pre → NodesIn A post → A e ≡ true → InsIn A pre × (A from.node ≡ true) × InsIn A post × EndsIn A exits
    pub paired : (A : ℕ → Bool) → NodesIn A pre → NodesIn A post → PairsIn A pre × PairsIn A post
    pub whole : (A : ℕ → Bool) → NodesOut A pre → NodesOut A post → NodesIn A (part_places (loop l e body) from to) → W A

  -- a loop in a part
  abbrev FoundPart : Part → End → ℕ → Type 0
  FoundPart p from to = Found (part_places p from to) from.node (plain_end (last_of p) ∷ []) (λ A. WholePart A p)

  -- a loop in parts
  abbrev FoundParts : Parts → End → ℕ → Type 0
  FoundParts ps from to = Found (parts_places ps from to) from.node (leaving ps from ∷ []) (λ A. WholeParts A ps)

  -- a loop in branches
  abbrev FoundLanes : Lanes → ℕ → ℕ → Type 0
  FoundLanes ls split join = Found (lanes_places ls split join) split (branch_tails ls split) (λ A. WholeLanes A ls)

  -- the loop's end is one of the places
  abbrev pub IsEnd : Place → Type 0
  IsEnd p = (p.node ≡ e) × (is_loop_end p.kind ≡ true) × (p.partner ≡ Some l)

  -- the loop's end is one of these places
  abbrev pub HasEnd : List Place → Type 0
  HasEnd [] = ⊥
  HasEnd (p ∷ ps) = IsEnd p ⊎ HasEnd ps

  has_end-parts : (xs ys : List Place) → HasEnd (xs ++ ys) → HasEnd xs ⊎ HasEnd ys
  has_end-parts [] ys h = inr h
  has_end-parts (x ∷ xs) ys (inl h) = inl (inl h)
  has_end-parts (x ∷ xs) ys (inr h) = elim (has_end-parts xs ys h) [ inl a ↦ inl (inr a) | inr b ↦ inr b ]

  -- the loop that stands in some places stands in more of them
  widen : (ps : List Place) (enter : ℕ) (exits : List End) (W : (ℕ → Bool) → Type 0) → Found ps enter exits W → (left right : List Place) (enter' : ℕ) (exits' : List End) (W' : (ℕ → Bool) → Type 0) →
      ((A : ℕ → Bool) → A enter' ≡ true → NodesIn A left → InsIn A left × (A enter ≡ true)) →
      ((A : ℕ → Bool) → A enter' ≡ true → NodesIn A left → NodesIn A right → EndsIn A exits → InsIn A right × EndsIn A exits') →
      ((A : ℕ → Bool) → NodesIn A left → NodesIn A right → PairsIn A left × PairsIn A right) →
      ((A : ℕ → Bool) → NodesOut A left → NodesOut A right → W A → W' A) →
      Found (left ++ (ps ++ right)) enter' exits' W'
  widen ps enter exits W f left right enter' exits' W' left_closed right_closed pairs wholes =
      let own : List Place = part_places (loop l e f.body) f.from f.to in
      record {
        pre = left ++ f.pre;
        post = f.post ++ right;
        body = f.body;
        from = f.from;
        to = f.to;
        split = ap (λ x. left ++ (x ++ right)) f.split ∙ regroup left f.pre own f.post right;
        closed = λ A h before_it behind_it at_e.
            let b = rows-parts _ left f.pre before_it in
            let c = rows-parts _ f.post right behind_it in
            let x = left_closed A h b.0 in
            let y = f.closed A x.1 b.1 c.0 at_e in
            let z = right_closed A h b.0 c.1 y.3 in
            (rows-append _ left f.pre x.0 y.0, y.1, rows-append _ f.post right y.2 z.0, z.1);
        paired = λ A before_it behind_it.
            let b = rows-parts _ left f.pre before_it in
            let c = rows-parts _ f.post right behind_it in
            let x = pairs A b.0 c.1 in
            let y = f.paired A b.1 c.0 in
            (rows-append _ left f.pre x.0 y.0, rows-append _ f.post right y.1 x.1);
        whole = λ A before_it behind_it own_in.
            let b = rows-parts _ left f.pre before_it in
            let c = rows-parts _ f.post right behind_it in
            wholes A b.0 c.1 (f.whole A b.1 c.0 own_in);
      }
    where
      regroup : (a b c d r : List Place) → a ++ ((b ++ (c ++ d)) ++ r) ≡ (a ++ b) ++ (c ++ (d ++ r))
      regroup a b c d r = simp append_assoc

  mutual
    part-find : (p : Part) (from : End) (to : ℕ) → HasEnd (part_places p from to) → FoundPart p from to
    part-find (act n) from to (inl h) = absurd (both_ways _ refl h.1)
    part-find (act n) from to (inr h) = absurd h
    part-find (gate kind split join ls) from to (inl h) = absurd (no_split kind h.1)
    part-find (gate kind split join ls) from to (inr h) =
        go (has_end-parts (lanes_places ls split join) _ h) (λ x. lanes-find ls split join x)
      where
        go : HasEnd (lanes_places ls split join) ⊎ HasEnd (place join (join_kind kind) (Some split) (branch_tails ls split) (plain_end to ∷ []) ∷ []) →
            (HasEnd (lanes_places ls split join) → FoundLanes ls split join) → FoundPart (gate kind split join ls) from to
        go (inl x) find = widen _ split (branch_tails ls split) (λ A. WholeLanes A ls) (find x) (place split (split_kind kind) (Some join) (from ∷ []) (branch_heads ls join) ∷ []) _ from.node (plain_end join ∷ [])
            (λ A. WholePart A (gate kind split join ls))
            (λ A a n. (((a, tt), tt), n.0)) (λ A a n r ends. ((ends, tt), (r.0, tt)))
            (λ A n r. ((λ h k i. absurd (no_split kind h), tt), (λ h k i. absurd (no_join kind h), tt)))
            (λ A n r w. (n.0, r.0, w))
        go (inr (inl x)) find = absurd (no_join kind x.1)
        go (inr (inr x)) find = absurd x
    part-find (loop start end body) from to (inl h) = absurd (both_ways _ refl h.1)
    part-find (loop start end body) from to (inr h) =
        go (has_end-parts (parts_places body (plain_end start) end) _ h) (λ x. parts-find body (plain_end start) end x)
      where
        here : end ≡ e → start ≡ l → FoundPart (loop start end body) from to
        here at_e at_l = record {
          pre = [];
          post = [];
          body = body;
          from = from;
          to = to;
          split = ap (λ n. part_places (loop n end body) from to) at_l ∙ ap (λ n. part_places (loop l n body) from to) at_e ∙ sym (append-nil (part_places (loop l e body) from to));
          closed = λ A h p q at. (tt, h, tt, (ap A at_e ∙ at, tt));
          paired = λ A p q. (tt, tt);
          whole = λ A p q own_in. let each = part-each (λ n. A n ≡ true) (loop l e body) from to own_in in inl (ap A at_l ∙ each.0, ap A at_e ∙ each.1, each.2);
        }

        go : HasEnd (parts_places body (plain_end start) end) ⊎ HasEnd (place end LoopEnd (Some start) (leaving body (plain_end start) ∷ []) (plain_end to ∷ []) ∷ []) →
            (HasEnd (parts_places body (plain_end start) end) → FoundParts body (plain_end start) end) → FoundPart (loop start end body) from to
        go (inl x) find = widen _ start (leaving body (plain_end start) ∷ []) (λ A. WholeParts A body) (find x) (place start _ _ (from ∷ []) _ ∷ []) _ from.node (plain_end end ∷ [])
            (λ A. WholePart A (loop start end body))
            (λ A a n. (((a, tt), tt), n.0)) (λ A a n r ends. ((ends, tt), (r.0, tt)))
            (λ A n r. ((λ h k i. absurd (both_ways _ refl h), tt), (λ h k i. ap A (sym (same_Some start k i)) ∙ n.0, tt)))
            (λ A n r w. inr (n.0, r.0, w))
        go (inr (inl x)) find = here x.0 (same_Some start l x.2)
        go (inr (inr x)) find = absurd x

    parts-find : (ps : Parts) (from : End) (to : ℕ) → HasEnd (parts_places ps from to) → FoundParts ps from to
    parts-find nothing from to h = absurd h
    parts-find (part p ps) from to h = go (has_end-parts (part_places p from (first_node ps to)) _ h) (λ x. part-find p from (first_node ps to) x) (λ x. parts-find ps (plain_end (last_of p)) to x)
      where
        go : HasEnd (part_places p from (first_node ps to)) ⊎ HasEnd (parts_places ps (plain_end (last_of p)) to) →
            (HasEnd (part_places p from (first_node ps to)) → FoundPart p from (first_node ps to)) →
            (HasEnd (parts_places ps (plain_end (last_of p)) to) → FoundParts ps (plain_end (last_of p)) to) → FoundParts (part p ps) from to
        go (inl x) first others = widen _ from.node _ (λ A. WholePart A p) (first x) [] (parts_places ps (plain_end (last_of p)) to) from.node _ (λ A. WholeParts A (part p ps))
            (λ A a n. (tt, a)) (λ A a n r ends. let c = parts-closed A ps (plain_end (last_of p)) to ends.0 r in (c.0, (c.1, tt)))
            (λ A n r. (tt, parts-pairs A ps (plain_end (last_of p)) to r))
            (λ A n r w. (w, parts-none A ps (parts-each (λ k. A k ≡ false) ps (plain_end (last_of p)) to r)))
        go (inr x) first others =
            subst (λ y. Found (part_places p from (first_node ps to) ++ y) from.node (leaving ps (plain_end (last_of p)) ∷ []) (λ A. WholeParts A (part p ps))) (append-nil (parts_places ps (plain_end (last_of p)) to))
            (widen _ (last_of p) _ (λ A. WholeParts A ps) (others x) (part_places p from (first_node ps to)) [] from.node (leaving ps (plain_end (last_of p)) ∷ []) (λ A. WholeParts A (part p ps))
            (λ A a n. part-closed A p from (first_node ps to) a n) (λ A a n r ends. (tt, ends))
            (λ A n r. (part-pairs A p from (first_node ps to) n, tt))
            (λ A n r w. (part-none A p (part-each (λ k. A k ≡ false) p from (first_node ps to) n), w)))

    lanes-find : (ls : Lanes) (split join : ℕ) → HasEnd (lanes_places ls split join) → FoundLanes ls split join
    lanes-find no_lane split join h = absurd h
    lanes-find (lane code ps ls) split join h = go (has_end-parts (parts_places ps (labelled split code) join) _ h) (λ x. parts-find ps (labelled split code) join x) (λ x. lanes-find ls split join x)
      where
        go : HasEnd (parts_places ps (labelled split code) join) ⊎ HasEnd (lanes_places ls split join) →
            (HasEnd (parts_places ps (labelled split code) join) → FoundParts ps (labelled split code) join) →
            (HasEnd (lanes_places ls split join) → FoundLanes ls split join) → FoundLanes (lane code ps ls) split join
        go (inl x) first others = widen _ split _ (λ A. WholeParts A ps) (first x) [] (lanes_places ls split join) split _ (λ A. WholeLanes A (lane code ps ls))
            (λ A a n. (tt, a)) (λ A a n r ends. let c = lanes-closed A ls split join a r in (c.0, (ends.0, c.1)))
            (λ A n r. (tt, lanes-pairs A ls split join r))
            (λ A n r w. (w, lanes-none A ls (lanes-each (λ k. A k ≡ false) ls split join r)))
        go (inr x) first others =
            subst (λ y. Found (parts_places ps (labelled split code) join ++ y) split (branch_tails (lane code ps ls) split) (λ A. WholeLanes A (lane code ps ls))) (append-nil (lanes_places ls split join))
            (widen _ split _ (λ A. WholeLanes A ls) (others x) (parts_places ps (labelled split code) join) [] split (branch_tails (lane code ps ls) split) (λ A. WholeLanes A (lane code ps ls))
            (λ A a n. ((parts-closed A ps (labelled split code) join a n).0, a))
            (λ A a n r ends. (tt, ((parts-closed A ps (labelled split code) join a n).1, ends)))
            (λ A n r. (parts-pairs A ps (labelled split code) join n, tt))
            (λ A n r w. (parts-none A ps (parts-each (λ k. A k ≡ false) ps (labelled split code) join n), w)))

  -- the loop in the places of a schema
  abbrev pub FoundIn : ℕ → Parts → ℕ → Type 0
  FoundIn start body finish = Found (places start body finish) e [] (λ A. WholeParts A body)

  -- a loop whose end is a place of a schema is in its tree
  pub places-find : (start finish : ℕ) (body : Parts) → HasEnd (places start body finish) → FoundIn start body finish
  places-find start finish body (inl h) = absurd (both_ways _ refl h.1)
  places-find start finish body (inr h) = go (has_end-parts (parts_places body (plain_end start) finish) _ h)
    where
      go : HasEnd (parts_places body (plain_end start) finish) ⊎ HasEnd (place finish Finish None (leaving body (plain_end start) ∷ []) [] ∷ []) → FoundIn start body finish
      go (inl x) = widen _ start (leaving body (plain_end start) ∷ []) (λ A. WholeParts A body) (parts-find body (plain_end start) finish x)
          (place start Start None [] (plain_end (first_node body finish) ∷ []) ∷ []) _ e [] (λ A. WholeParts A body)
          (λ A a n. ((tt, tt), n.0)) (λ A a n r ends. ((ends, tt), tt))
          (λ A n r. ((λ h k i. absurd (both_ways _ refl h), tt), (λ h k i. absurd (both_ways _ refl h), tt)))
          (λ A n r w. w)
      go (inr (inl x)) = absurd (both_ways _ refl x.1)
      go (inr (inr x)) = absurd x
