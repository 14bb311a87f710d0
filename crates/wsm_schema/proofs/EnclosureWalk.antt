-- The walk over a tree of distinct nodes makes the blocks round each of them.
use Rattle.wsm_schema.proofs.Common.{[], ℕ, ◌++◌, ◌+◌, ◌<◌, ◌∙◌, ◌∷◌, ◌≡◌, act, all-rows-map, AllRows, ap, append-nil, append_assoc, are_bound, arith, Bool, both_ways, Card, cards_of, cases_Bool, Enclosure, enclosure, eq-eqb, eqb, false}
use Rattle.wsm_schema.proofs.Common.{gate, get_or, inl, inr, is_one_of, lane, Lanes, lanes_have, lanes_round, lanes_walk, length, List, loop, map, map-append, map-same, no_lane, NodeKind, nodes_of, None, nothing, or_left, or_parts}
use Rattle.wsm_schema.proofs.Common.{or_right, Part, part, part_has, part_round, part_walk, part_ways, Parts, parts_apart, parts_bound, parts_have, parts_round, parts_walk, refl, schema_walk, SchemaModel, split_kind, suc, sym, true, twice}
use Rattle.wsm_schema.proofs.{Common.zero, DocumentOrder.one_of-append, BoundNodes.parts-bound, EnclosedNodes.parts-ways, TreeNodes.{part_nodes, parts_nodes, lanes_nodes, nodes-of_tree, has-part_nodes, have-parts_nodes, have-lanes_nodes}}
use Rattle.wsm_schema.proofs.TreeNodes.{PartOnce, PartsOnce, LanesOnce, body-once}
use Rattle.wsm_schema.specs.declared.cards.NodeKind.TheVariants.{LoopStart}

-- ---- round nodes that are not there
pub parts-absent : (ps : Parts) (n : ℕ) → parts_have ps n ≡ false → parts_round ps n ≡ []
parts-absent nothing n h = refl
parts-absent (part p ps) n h = let away = or_parts (part_has p n) (parts_have ps n) h in rw away.0 (parts-absent ps n away.1)

lanes-absent : (split : ℕ) (kind : NodeKind) (i : ℕ) (ls : Lanes) (n : ℕ) → lanes_have ls n ≡ false → lanes_round split kind i ls n ≡ []
lanes-absent split kind i no_lane n h = refl
lanes-absent split kind i (lane code ps ls) n h =
    let away = or_parts (parts_have ps n) (lanes_have ls n) h in rw away.0 (lanes-absent split kind (i + 1) ls n away.1)

-- ---- lists by their nodes
own : (ns : List ℕ) → AllRows (λ n. is_one_of n ns ≡ true) ns
own [] = tt
own (n ∷ ns) = (or_left _ _ (eq-eqb n n refl), all-rows-map _ _ (λ m one. or_right (eqb n m) _ one) ns (own ns))

-- what holds of each node of a list
by-nodes : (f g : ℕ → List Enclosure) (ns : List ℕ) (walk : List (List Enclosure)) → walk ≡ map f ns → ((n : ℕ) → is_one_of n ns ≡ true → f n ≡ g n) → walk ≡ map g ns
by-nodes f g ns walk h same = h ∙ map-same f g ns (all-rows-map _ _ same ns (own ns))

joined : (f : ℕ → List Enclosure) (ns ms : List ℕ) (v w : List (List Enclosure)) → v ≡ map f ns → w ≡ map f ms → v ++ w ≡ map f (ns ++ ms)
joined f ns ms v w h k = ap (λ x. x ++ w) h ∙ ap (λ x. map f ns ++ x) k ∙ sym (map-append f ns ms)

framed : (f : ℕ → List Enclosure) (outer : List Enclosure) (start end : ℕ) (inside : List ℕ) (walk : List (List Enclosure)) → f start ≡ outer → f end ≡ outer → walk ≡ map f inside →
    outer ∷ (walk ++ outer ∷ []) ≡ map f (start ∷ (inside ++ end ∷ []))
framed f outer start end inside walk first last h =
    ap (λ x. x ∷ (walk ++ outer ∷ [])) (sym first) ∙ ap (λ xs. f start ∷ xs) (joined f inside (end ∷ []) walk (outer ∷ []) h (ap (λ x. x ∷ []) (sym last)))

turned : (one other : ℕ → Bool) → ((n : ℕ) → one n ≡ true → other n ≡ false) → (n : ℕ) → other n ≡ true → one n ≡ false
turned one other apart n there =
    elim (cases_Bool (one n)) [
      | inl here ↦ absurd (both_ways _ (apart n here) there)
      | inr away ↦ away
    ]

-- ---- the walk
mutual
  part-walked : (outer : List Enclosure) (p : Part) → PartOnce p → part_walk outer p ≡ map (λ n. outer ++ part_round p n) (part_nodes p)
  part-walked outer (act node) once = ap (λ x. x ∷ []) (sym (append-nil outer))
  part-walked outer (gate kind split join ls) once =
      let alone : (n : ℕ) → lanes_have ls n ≡ false → outer ++ lanes_round split (split_kind kind) 0 ls n ≡ outer =
      λ n away. ap (λ xs. outer ++ xs) (lanes-absent split (split_kind kind) 0 ls n away) ∙ append-nil outer in
      framed (λ n. outer ++ lanes_round split (split_kind kind) 0 ls n) outer split join (lanes_nodes ls) _ (alone split once.0) (alone join once.1)
      (lanes-walked outer split (split_kind kind) 0 ls once.2)
  part-walked outer (loop start end body) once =
      let block : Enclosure = enclosure start LoopStart 0 in
      let inner : List Enclosure = outer ++ block ∷ [] in
      let alone : (n : ℕ) → parts_have body n ≡ false → outer ++ block ∷ parts_round body n ≡ inner = λ n away. ap (λ xs. outer ++ block ∷ xs) (parts-absent body n away) in
      framed (λ n. outer ++ block ∷ parts_round body n) inner start end (parts_nodes body) _ (alone start once.0) (alone end once.1)
      (by-nodes (λ n. inner ++ parts_round body n) (λ n. outer ++ block ∷ parts_round body n) (parts_nodes body) _ (parts-walked inner body once.2)
      (λ n one. append_assoc outer (block ∷ []) (parts_round body n)))

  parts-walked : (outer : List Enclosure) (ps : Parts) → PartsOnce ps → parts_walk outer ps ≡ map (λ n. outer ++ parts_round ps n) (parts_nodes ps)
  parts-walked outer nothing once = refl
  parts-walked outer (part p ps) once =
      let all : ℕ → List Enclosure = λ n. outer ++ parts_round (part p ps) n in
      joined all (part_nodes p) (parts_nodes ps) _ _
      (by-nodes (λ n. outer ++ part_round p n) all (part_nodes p) _ (part-walked outer p once.1) (λ n one. rw (has-part_nodes p n ∙ one) refl))
      (by-nodes (λ n. outer ++ parts_round ps n) all (parts_nodes ps) _ (parts-walked outer ps once.2)
      (λ n one. rw (turned (part_has p) (parts_have ps) once.0 n (have-parts_nodes ps n ∙ one)) refl))

  lanes-walked : (outer : List Enclosure) (split : ℕ) (kind : NodeKind) (i : ℕ) (ls : Lanes) → LanesOnce ls →
      lanes_walk outer split kind i ls ≡ map (λ n. outer ++ lanes_round split kind i ls n) (lanes_nodes ls)
  lanes-walked outer split kind i no_lane once = refl
  lanes-walked outer split kind i (lane code ps ls) once =
      let block : Enclosure = enclosure split kind i in
      let all : ℕ → List Enclosure = λ n. outer ++ lanes_round split kind i (lane code ps ls) n in
      joined all (parts_nodes ps) (lanes_nodes ls) _ _
      (by-nodes (λ n. (outer ++ block ∷ []) ++ parts_round ps n) all (parts_nodes ps) _ (parts-walked (outer ++ block ∷ []) ps once.1)
      (λ n one. append_assoc outer (block ∷ []) (parts_round ps n) ∙ rw (have-parts_nodes ps n ∙ one) refl))
      (by-nodes (λ n. outer ++ lanes_round split kind (i + 1) ls n) all (lanes_nodes ls) _ (lanes-walked outer split kind (i + 1) ls once.2)
      (λ n one. rw (turned (parts_have ps) (lanes_have ls) once.0 n (have-lanes_nodes ls n ∙ one)) refl))

-- of a schema
module _ (s : SchemaModel) (distinct : twice [] (nodes_of (cards_of s)) ≡ None) where
  pub walked : schema_walk s.body ≡ map (λ c. parts_round s.body c.node) (cards_of s)
  walked =
      let once = body-once s distinct in
      framed (parts_round s.body) [] s.start s.finish (parts_nodes s.body) _ (parts-absent s.body s.start once.start) (parts-absent s.body s.finish once.finish)
      (parts-walked [] s.body once.body)
      ∙ ap (map (parts_round s.body)) (sym (nodes-of_tree s)) ∙ by-cards (cards_of s)
    where
      by-cards : (cards : List Card) → map (parts_round s.body) (nodes_of cards) ≡ map (λ c. parts_round s.body c.node) cards
      by-cards [] = refl
      by-cards (c ∷ cs) = ap (λ xs. parts_round s.body c.node ∷ xs) (by-cards cs)

  -- a node without a card is not in the tree
  pub absent-round : (n : ℕ) → is_one_of n (nodes_of (cards_of s)) ≡ false → parts_round s.body n ≡ []
  absent-round n away =
      let outside : is_one_of n (s.start ∷ (parts_nodes s.body ++ s.finish ∷ [])) ≡ false = ap (is_one_of n) (sym (nodes-of_tree s)) ∙ away in
      let inside : is_one_of n (parts_nodes s.body) ≡ false =
      (or_parts (is_one_of n (parts_nodes s.body)) _ (sym (one_of-append n (parts_nodes s.body) (s.finish ∷ [])) ∙ (or_parts (eqb s.start n) _ outside).1)).0 in
      parts-absent s.body n (have-parts_nodes s.body n ∙ inside)

-- ---- the blocks at a place
at-place : (f : ℕ → List Enclosure) (cards : List Card) (place : ℕ) (d : List Enclosure) → place < length cards → get_or (map (λ c. f c.node) cards) place d ≡ f (get_or (nodes_of cards) place 0)
at-place f [] place d lt = absurd (omega (arith, lt))
at-place f (c ∷ cs) zero d lt = refl
at-place f (c ∷ cs) (suc place) d lt = at-place f cs place d (omega (arith, lt))

pub blocks-placed : (s : SchemaModel) (place : ℕ) (d : List Enclosure) → place < length (cards_of s) →
    get_or (map (λ c. parts_round s.body c.node) (cards_of s)) place d ≡ parts_round s.body (get_or (nodes_of (cards_of s)) place 0)
blocks-placed s = at-place (parts_round s.body) (cards_of s)

-- and what they tell
pub apart-by_blocks : (s : SchemaModel) → twice [] (nodes_of (cards_of s)) ≡ None → (a b : ℕ) → part_ways (parts_round s.body a) (parts_round s.body b) ≡ parts_apart s.body a b
apart-by_blocks s distinct a b = sym (parts-ways s.body (body-once s distinct).body a b)

pub bound-by_blocks : (s : SchemaModel) → twice [] (nodes_of (cards_of s)) ≡ None → (a b : ℕ) → are_bound (parts_round s.body a) (parts_round s.body b) ≡ parts_bound s.body a b
bound-by_blocks s distinct a b = sym (parts-bound s.body (body-once s distinct).body a b)
