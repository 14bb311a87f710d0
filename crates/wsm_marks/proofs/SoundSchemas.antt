-- Each sound schema is regular.
use Rattle.wsm_marks.proofs.Common.{[], ℕ, ◌&&◌, ◌∙◌, ◌∷◌, ◌≡◌, act, all-rows-map, AllRows, and_left, and_parts, and_right, ap, ApartLanes, ApartPart, ApartParts, block_fault, Bool, both_rows, both_ways, branch_heads, Card, cards_of}
use Rattle.wsm_marks.proofs.Common.{cases_Bool, codes_of, Distinct, eqb, eqb-true, false, FullLanes, FullPart, FullParts, gate, has_label, HasCard, inl, inr, is_act_in, is_activity, is_one_of, lane, Lanes, lanes_block_fault, length, List}
use Rattle.wsm_marks.proofs.Common.{loop, nat_lt, no_lane, nodes_of, None, nothing, Option, option_map, or_left, or_parts, or_right, Part, part, part_block_fault, part_has, Parts, parts_apart, parts_block_fault, parts_have, parts_loop}
use Rattle.wsm_marks.proofs.{Common.{Place, places, refl, Regular, same_option, SchemaModel, Some, subst, sym, SyncsApart, true, twice, when}, Cards.{card-nodes, nodes}, Lists.eqb-swap, LoopInTree.FoundIn, LoopNodes.found-of}
use Rattle.wsm_marks.proofs.{LoopNodes.loop_nodes-are, LoopOfSchema.{body_nodes, l_in, rows_by_places, tail_apart, whole_loop}, LoopSets.{holds, parts-loops}, NoFault.{no_either, no_first, no_map, no_when, not_false}}
use Rattle.wsm_schema.specs.declared.faults.BlockFault.{BlockFault}
use Rattle.wsm_schema.specs.declared.faults.BlockFault.TheVariants.{Twice, FewBranches, CodeTwice}

-- ---- distinct numbers
abbrev Apart : List ℕ → Type 0
Apart [] = Unit {0}
Apart (n ∷ ns) = AllRows (λ k. eqb n k ≡ false) ns × Apart ns

twice-apart : (seen ns : List ℕ) → twice seen ns ≡ None → AllRows (λ n. is_one_of n seen ≡ false) ns × Apart ns
twice-apart seen [] h = (tt, tt)
twice-apart seen (n ∷ ns) h =
    elim (cases_Bool (is_one_of n seen)) [
      | inl it ↦ let p : Some n ≡ None = rw it at h in absurd (cc)
      | inr fresh ↦
          let r = twice-apart (n ∷ seen) ns (rw fresh at h) in
          ((fresh, all-rows-map _ _ (λ k x. (or_parts (eqb n k) (is_one_of k seen) x).1) ns r.0), (all-rows-map _ _ (λ k x. (or_parts (eqb n k) (is_one_of k seen) x).0) ns r.0, r.1))
    ]

apart-distinct : (ps : List Place) → Apart (nodes ps) → Distinct ps
apart-distinct [] h = tt
apart-distinct (p ∷ ps) h = (from_map (λ k. eqb p.node k ≡ false) ps h.0, apart-distinct ps h.1)
  where
    from_map : (P : ℕ → Type 0) (qs : List Place) → AllRows P (nodes qs) → AllRows (λ q. P q.node) qs
    from_map P [] h = tt
    from_map P (q ∷ qs) h = (h.0, from_map P qs h.1)

-- ---- blocks
abbrev few : Lanes → ℕ → Option BlockFault
few ls split = when (nat_lt (length (codes_of ls)) 2) (FewBranches split)

mutual
  part-full : (p : Part) → part_block_fault few p ≡ None → FullPart p
  part-full (act n) h = tt
  part-full (gate kind split join no_lane) h = absurd (cc)
  part-full (gate kind split join (lane code ps ls)) h = let r = no_either (few (lane code ps ls) split) _ h in lanes-full (lane code ps ls) r.1
  part-full (loop start end body) h = parts-full body h

  parts-full : (ps : Parts) → parts_block_fault few ps ≡ None → FullParts ps
  parts-full nothing h = tt
  parts-full (part p ps) h = let r = no_either (part_block_fault few p) _ h in (part-full p r.0, parts-full ps r.1)

  lanes-full : (ls : Lanes) → lanes_block_fault few ls ≡ None → FullLanes ls
  lanes-full no_lane h = tt
  lanes-full (lane code ps ls) h = let r = no_either (parts_block_fault few ps) _ h in (parts-full ps r.0, lanes-full ls r.1)

-- a block two of whose branches have one code
abbrev code_twice : Lanes → ℕ → Option BlockFault
code_twice ls split = option_map (CodeTwice split) (twice [] (codes_of ls))

-- a code that no branch has
no_label : (code : ℕ) (ls : Lanes) (join : ℕ) → AllRows (λ k. eqb code k ≡ false) (codes_of ls) → has_label code (branch_heads ls join) ≡ false
no_label code no_lane join h = refl
no_label code (lane other ps ls) join h = rw (eqb-swap code other h.0) (no_label code ls join h.1)

mutual
  part-codes : (p : Part) → part_block_fault code_twice p ≡ None → ApartPart p
  part-codes (act n) h = tt
  part-codes (gate kind split join ls) h =
      let r = no_either (code_twice ls split) _ h in lanes-codes ls join (twice-apart [] (codes_of ls) (no_map (CodeTwice split) (twice [] (codes_of ls)) r.0)).1 r.1
  part-codes (loop start end body) h = parts-codes body h

  parts-codes : (ps : Parts) → parts_block_fault code_twice ps ≡ None → ApartParts ps
  parts-codes nothing h = tt
  parts-codes (part p ps) h = let r = no_either (part_block_fault code_twice p) _ h in (part-codes p r.0, parts-codes ps r.1)

  lanes-codes : (ls : Lanes) (join : ℕ) → Apart (codes_of ls) → lanes_block_fault code_twice ls ≡ None → ApartLanes ls join
  lanes-codes no_lane join apart h = tt
  lanes-codes (lane code ps ls) join apart h =
      let r = no_either (parts_block_fault code_twice ps) _ h in (no_label code ls join apart.0, (parts-codes ps r.0, lanes-codes ls join apart.1 r.1))

-- ---- sync edges
-- an activity of the net has a card
act-has_card : (cards : List Card) (n : ℕ) → is_act_in cards n ≡ true → HasCard cards n
act-has_card [] n h = absurd (both_ways _ refl h)
act-has_card (c ∷ cs) n h =
    elim (cases_Bool (eqb c.node n)) [
      | inl same ↦ (c, rw same refl)
      | inr other ↦ let r = act-has_card cs n (rw other at h) in (r.0, rw other r.1)
    ]

-- a node of which no card is an activity's
no_act : (cards : List Card) (n : ℕ) → AllRows (λ c. (eqb c.node n && is_activity c.kind) ≡ false) cards → is_act_in cards n ≡ false
no_act [] n h = refl
no_act (c ∷ cs) n h = rw h.0 (no_act cs n h.1)

-- nodes of different branches are nodes of the tree
apart-there : (ps : Parts) (a b : ℕ) → parts_apart ps a b ≡ true → (parts_have ps a ≡ true) × (parts_have ps b ≡ true)
apart-there nothing a b h = absurd (both_ways _ refl h)
apart-there (part p ps) a b h =
    elim (cases_Bool (part_has p a && part_has p b)) [
      | inl both ↦ let r = and_parts (part_has p a) (part_has p b) both in (or_left (part_has p a) (parts_have ps a) r.0, or_left (part_has p b) (parts_have ps b) r.1)
      | inr other ↦ let r = apart-there ps a b (rw other at h) in (or_right (part_has p a) (parts_have ps a) r.0, or_right (part_has p b) (parts_have ps b) r.1)
    ]

same-option : (a b : Option ℕ) → same_option a b ≡ true → a ≡ b
same-option None None h = refl
same-option (Some a) (Some b) h = ap (λ n. Some n) (eqb-true a b h)
same-option None (Some b) h = absurd (both_ways _ refl h)
same-option (Some a) None h = absurd (both_ways _ refl h)

-- what soundness says of a sync edge: both ends are activities, in different branches, in one innermost loop
abbrev Acts : SchemaModel → ℕ × ℕ → Type 0
Acts s e = (is_act_in (cards_of s) e.0 ≡ true) × (is_act_in (cards_of s) e.1 ≡ true)

-- both are nodes of the tree
abbrev There : SchemaModel → ℕ × ℕ → Type 0
There s e = (parts_have s.body e.0 ≡ true) × (parts_have s.body e.1 ≡ true)

-- both have one innermost loop
abbrev Together : SchemaModel → ℕ × ℕ → Type 0
Together s e = parts_loop s.body e.0 None ≡ parts_loop s.body e.1 None

record SoundEdge (s : SchemaModel) (e : ℕ × ℕ) : Type 0 where
  acts : Acts s e
  there : There s e
  together : Together s e

module _ (s : SchemaModel) (distinct : Distinct (places s.start s.body s.finish)) (l e : ℕ) (found : FoundIn l e s.start s.body s.finish) where
  -- the start of a loop is no activity
  start-no_act : is_act_in (cards_of s) l ≡ false
  start-no_act =
      no_act (cards_of s) l (rows_by_places s l e found distinct (λ c. (eqb c.node l && is_activity c.kind) ≡ false)
      (λ p away pair ins. and_left (eqb p.node l) _ (elsewhere p.node away)) (λ from_in. and_right (eqb l l) _ refl)
      (all-rows-map _ _ (λ p other. and_left (eqb p.node l) _ other) _ (tail_apart s l e found distinct)))
    where
      elsewhere : (n : ℕ) → is_one_of n (body_nodes s l e found) ≡ false → eqb n l ≡ false
      elsewhere n away =
          elim (cases_Bool (eqb n l)) [
            | inl same ↦ absurd (both_ways _ away (ap (λ k. is_one_of k (body_nodes s l e found)) (eqb-true n l same) ∙ l_in s l e found distinct))
            | inr other ↦ other
          ]

  edge-apart : (x : ℕ × ℕ) → SoundEdge s x → (is_one_of x.0 (body_nodes s l e found) ≡ is_one_of x.1 (body_nodes s l e found)) × (eqb x.1 l ≡ false)
  edge-apart x edge =
      let In : ℕ → Bool = λ n. is_one_of n (body_nodes s l e found) in
      let at = λ (n : ℕ) (h : parts_have s.body n ≡ true). parts-loops In n s.body None (whole_loop s l e found distinct) refl h in (
        sym (at x.0 edge.there.0) ∙ ap (holds In) edge.together ∙ at x.1 edge.there.1,
        elim (cases_Bool (eqb x.1 l)) [
          | inl same ↦ absurd (both_ways _ start-no_act (ap (is_act_in (cards_of s)) (sym (eqb-true x.1 l same)) ∙ edge.acts.1))
          | inr other ↦ other
        ],
      )

-- a schema with no fault of its blocks and sync edges is regular
pub sound-regular : (s : SchemaModel) → block_fault s ≡ None → Regular s
sound-regular s no_fault =
    let b0 = no_either _ _ no_fault in
    let b1 = no_either _ _ b0.1 in
    let b2 = no_either _ _ b1.1 in
    let b3 = no_either _ _ b2.1 in
    let b4 = no_either _ _ b3.1 in
    let b5 = no_either _ _ b4.1 in
    let b6 = no_either _ _ b5.1 in
    let apart = twice-apart [] (nodes_of (cards_of s)) (no_map Twice _ b1.0) in
    let distinct = apart-distinct (places s.start s.body s.finish) (subst Apart (card-nodes s (places s.start s.body s.finish)) apart.1) in
    let acts : AllRows (Acts s) s.syncs = all-rows-map _ (Acts s) (λ e h. and_parts (is_act_in (cards_of s) e.0) (is_act_in (cards_of s) e.1) (not_false _ (no_when _ _ h))) s.syncs (no_first _ s.syncs b4.0) in
    let there : AllRows (There s) s.syncs = all-rows-map _ (There s) (λ e h. apart-there s.body e.0 e.1 (not_false _ (no_when _ _ h))) s.syncs (no_first _ s.syncs b5.0) in
    let together : AllRows (Together s) s.syncs = all-rows-map _ (Together s) (λ e h. same-option _ _ (not_false _ (no_when _ _ h))) s.syncs (no_first _ s.syncs b6.0) in
    let edges : AllRows (SoundEdge s) s.syncs =
    both_rows (λ e. Acts s e × There s e) (Together s) (SoundEdge s) (λ e a b. record { acts = a.0; there = a.1; together = b }) s.syncs
    (both_rows (Acts s) (There s) (λ e. Acts s e × There s e) (λ e a b. (a, b)) s.syncs acts there) together in
    record {
      distinct = distinct;
      full = parts-full s.body b2.0;
      apart = parts-codes s.body b3.0;
      sources = all-rows-map (Acts s) _ (λ e h. act-has_card (cards_of s) e.0 h.0) s.syncs acts;
      loops = λ l e c at ends partner.
          let found = found-of s l e c at ends partner in
          subst (λ ns. SyncsApart s.syncs ns l) (sym (loop_nodes-are s distinct l e found c at ends partner)) (all-rows-map (SoundEdge s) _ (λ x edge. edge-apart s distinct l e found x edge) s.syncs edges);
    }
