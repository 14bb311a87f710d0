-- What the pieces of a schema say of its cards.
use Rattle.wsm_ops.proofs.Common.{[], ℕ, ◌&&◌, ◌++◌, ◌==◌, ◌||◌, ◌∙◌, ◌∷◌, ◌≡◌, act, and_gate, ap, Bool, both_ways, branch_heads, branch_tails, Card, card_at, card_of, cards_of, cases_Bool, End, eqb, eqb-true, false, filter, filter-append}
use Rattle.wsm_ops.proofs.Common.{first_node, gate, has_branch, has_code, has_head, if◌then◌else◌, inl, inr, is_head, is_one_of, is_split, join_kind, labelled, lane, Lanes, lanes_pieces, lanes_places, last_of, leaving, List, list_any}
use Rattle.wsm_ops.proofs.Common.{list_any-append, loop, map, map-append, no_lane, nodes_in, nodes_of, None, not, nothing, option_map, Part, part, part_pieces, part_places, Parts, parts_pieces, parts_places, Piece, Place, place, places}
use Rattle.wsm_ops.proofs.Common.{plain_end, refl, schema_pieces, SchemaModel, seat_at, seat_of, Some, split_kind, sym, true, twice, xor_gate}
use Rattle.wsm_schema.specs.declared.cards.NodeKind.TheVariants.{Start, Finish, AndJoin, XorJoin, LoopStart, LoopEnd}
use Rattle.wsm_ops.specs.declared.pieces.Piece.TheVariants.{Node, Head}

-- ---- nodes alone
abbrev is_a_node : Piece → Bool
is_a_node (Node node kind partner) = true
is_a_node (Head split code is_first) = false

abbrev nodes_only : List Piece → List Piece
nodes_only ps = filter is_a_node ps

abbrev place_piece : Place → Piece
place_piece p = Node p.node p.kind p.partner

abbrev card_piece : Card → Piece
card_piece c = Node c.node c.kind c.partner

framed : (opener closer : Place) (inner : List Place) (ps : List Piece) → map place_piece inner ≡ nodes_only ps →
    map place_piece (opener ∷ (inner ++ closer ∷ [])) ≡ nodes_only (place_piece opener ∷ (ps ++ place_piece closer ∷ []))
framed opener closer inner ps h =
    ap (λ qs. place_piece opener ∷ qs)
    (map-append place_piece inner (closer ∷ []) ∙ ap (λ qs. qs ++ place_piece closer ∷ []) h ∙ sym (filter-append is_a_node ps (place_piece closer ∷ [])))

joined : (xs ys : List Place) (ps qs : List Piece) → map place_piece xs ≡ nodes_only ps → map place_piece ys ≡ nodes_only qs → map place_piece (xs ++ ys) ≡ nodes_only (ps ++ qs)
joined xs ys ps qs h k =
    map-append place_piece xs ys ∙ ap (λ l. l ++ map place_piece ys) h ∙ ap (λ l. nodes_only ps ++ l) k ∙ sym (filter-append is_a_node ps qs)

mutual
  part-nodes : (p : Part) (from : End) (to : ℕ) → map place_piece (part_places p from to) ≡ nodes_only (part_pieces p)
  part-nodes (act node) from to = refl
  part-nodes (gate kind split join ls) from to =
      framed (place split (split_kind kind) (Some join) (from ∷ []) (branch_heads ls join)) (place join (join_kind kind) (Some split) (branch_tails ls split) (plain_end to ∷ [])) (lanes_places ls split join)
      (lanes_pieces split [] ls) (lanes-nodes ls split join [])
  part-nodes (loop start end body) from to =
      framed (place start LoopStart (Some end) (from ∷ []) (plain_end (first_node body end) ∷ [])) (place end LoopEnd (Some start) (leaving body (plain_end start) ∷ []) (plain_end to ∷ []))
      (parts_places body (plain_end start) end) (parts_pieces body) (parts-nodes body (plain_end start) end)

  parts-nodes : (ps : Parts) (from : End) (to : ℕ) → map place_piece (parts_places ps from to) ≡ nodes_only (parts_pieces ps)
  parts-nodes nothing from to = refl
  parts-nodes (part p ps) from to =
      joined (part_places p from (first_node ps to)) (parts_places ps (plain_end (last_of p)) to) (part_pieces p) (parts_pieces ps) (part-nodes p from (first_node ps to)) (parts-nodes ps (plain_end (last_of p)) to)

  lanes-nodes : (ls : Lanes) (split join : ℕ) (seen : List ℕ) → map place_piece (lanes_places ls split join) ≡ nodes_only (lanes_pieces split seen ls)
  lanes-nodes no_lane split join seen = refl
  lanes-nodes (lane code ps ls) split join seen =
      joined (parts_places ps (labelled split code) join) (lanes_places ls split join) (parts_pieces ps) (lanes_pieces split (code ∷ seen) ls) (parts-nodes ps (labelled split code) join) (lanes-nodes ls split join (code ∷ seen))

schema-nodes : (s : SchemaModel) → map place_piece (places s.start s.body s.finish) ≡ nodes_only (schema_pieces s)
schema-nodes s =
    framed (place s.start Start None [] (plain_end (first_node s.body s.finish) ∷ [])) (place s.finish Finish None (leaving s.body (plain_end s.start) ∷ []) []) (parts_places s.body (plain_end s.start) s.finish)
    (parts_pieces s.body) (parts-nodes s.body (plain_end s.start) s.finish)

cards-nodes : (s : SchemaModel) → map card_piece (cards_of s) ≡ nodes_only (schema_pieces s)
cards-nodes s = of_places (places s.start s.body s.finish) ∙ schema-nodes s
  where
    of_places : (ps : List Place) → map card_piece (map (card_of s) ps) ≡ map place_piece ps
    of_places [] = refl
    of_places (p ∷ ps) = ap (λ qs. place_piece p ∷ qs) (of_places ps)

seat-nodes : (n : ℕ) (ps : List Piece) → seat_at n (nodes_only ps) ≡ seat_at n ps
seat-nodes n [] = refl
seat-nodes n (Node node kind partner ∷ ps) = ap (λ o. if node == n then Some (record { kind = kind; partner = partner }) else o) (seat-nodes n ps)
seat-nodes n (Head split code is_first ∷ ps) = seat-nodes n ps

seat-cards : (n : ℕ) (cs : List Card) → option_map seat_of (card_at n cs) ≡ seat_at n (map card_piece cs)
seat-cards n [] = refl
seat-cards n (c ∷ cs) =
    elim (cases_Bool (eqb c.node n)) [
      | inl same ↦ rw same refl
      | inr other ↦ rw other (seat-cards n cs)
    ]

-- what a card says of its node, and which nodes there are
pub card-seat : (n : ℕ) (s : SchemaModel) → option_map seat_of (card_at n (cards_of s)) ≡ seat_at n (schema_pieces s)
card-seat n s = seat-cards n (cards_of s) ∙ ap (seat_at n) (cards-nodes s) ∙ seat-nodes n (schema_pieces s)

all-nodes : (ps : List Piece) → nodes_in (nodes_only ps) ≡ nodes_in ps
all-nodes [] = refl
all-nodes (Node node kind partner ∷ ps) = ap (λ ns. node ∷ ns) (all-nodes ps)
all-nodes (Head split code is_first ∷ ps) = all-nodes ps

of-cards : (cs : List Card) → nodes_of cs ≡ nodes_in (map card_piece cs)
of-cards [] = refl
of-cards (c ∷ cs) = ap (λ ns. c.node ∷ ns) (of-cards cs)

pub card-nodes : (s : SchemaModel) → nodes_of (cards_of s) ≡ nodes_in (schema_pieces s)
card-nodes s = of-cards (cards_of s) ∙ ap nodes_in (cards-nodes s) ∙ all-nodes (schema_pieces s)

-- ---- branches with a code
abbrev has_lane : ℕ → ℕ → Place → Bool
has_lane n code p = is_split p.kind && (p.node == n && has_code code p.outs)

abbrev lane_in : ℕ → ℕ → List Place → Bool
lane_in n code ps = list_any (has_lane n code) ps

one_more : (e k o oc p r h : Bool) → (k ≡ true → o ≡ oc) → ((e && (k && not o)) || (p || ((e && (not (k || oc) && h)) || r))) ≡ ((e && (not oc && (k || h))) || (p || r))
one_more false k o oc p r h same = refl
one_more true true o oc p r h same = rw (same refl) (elim oc as (λ t. (not t || (p || r)) ≡ ((not t && true) || (p || r))) [ true ↦ refl | false ↦ refl ])
one_more true false o true p r h same = refl
one_more true false o false true r true same = refl
one_more true false o false true r false same = refl
one_more true false o false false r true same = refl
one_more true false o false false r false same = refl

none_more : (e t : Bool) → ((e && (t && false)) || false) ≡ false
none_more true true = refl
none_more true false = refl
none_more false t = refl

module _ (n c : ℕ) where
  lanes_around : (split : Bool) (xs : List Place) (ps : List Piece) (closer : Place) (end : Piece) → has_lane n c closer ≡ false → is_head n c end ≡ false →
      has_head n c ps ≡ (split || lane_in n c xs) → has_head n c (ps ++ end ∷ []) ≡ (split || lane_in n c (xs ++ closer ∷ []))
  lanes_around split xs ps closer end p q h =
      rw (list_any-append (is_head n c) ps (end ∷ []), list_any-append (has_lane n c) xs (closer ∷ []), p, q, h) (grouped split (lane_in n c xs))
    where
      grouped : (a b : Bool) → ((a || b) || (false || false)) ≡ (a || (b || (false || false)))
      grouped true b = refl
      grouped false b = refl

  joined_lanes : (xs ys : List Place) (ps qs : List Piece) → has_head n c ps ≡ lane_in n c xs → has_head n c qs ≡ lane_in n c ys → has_head n c (ps ++ qs) ≡ lane_in n c (xs ++ ys)
  joined_lanes xs ys ps qs h k = rw (list_any-append (is_head n c) ps qs, list_any-append (has_lane n c) xs ys, h, k) refl

  mutual
    part-heads : (p : Part) (from : End) (to : ℕ) → has_head n c (part_pieces p) ≡ lane_in n c (part_places p from to)
    part-heads (act node) from to = refl
    part-heads (gate and_gate split join ls) from to =
        lanes_around (eqb split n && has_code c (branch_heads ls join)) (lanes_places ls split join) (lanes_pieces split [] ls) _ (Node join AndJoin (Some split)) refl refl (lanes-heads ls split join [])
    part-heads (gate xor_gate split join ls) from to =
        lanes_around (eqb split n && has_code c (branch_heads ls join)) (lanes_places ls split join) (lanes_pieces split [] ls) _ (Node join XorJoin (Some split)) refl refl (lanes-heads ls split join [])
    part-heads (loop start end body) from to =
        lanes_around false (parts_places body (plain_end start) end) (parts_pieces body) _ (Node end LoopEnd (Some start)) refl refl (parts-heads body (plain_end start) end)

    parts-heads : (ps : Parts) (from : End) (to : ℕ) → has_head n c (parts_pieces ps) ≡ lane_in n c (parts_places ps from to)
    parts-heads nothing from to = refl
    parts-heads (part p ps) from to =
        joined_lanes (part_places p from (first_node ps to)) (parts_places ps (plain_end (last_of p)) to) (part_pieces p) (parts_pieces ps) (part-heads p from (first_node ps to)) (parts-heads ps (plain_end (last_of p)) to)

    lanes-heads : (ls : Lanes) (split join : ℕ) (seen : List ℕ) →
        has_head n c (lanes_pieces split seen ls) ≡ ((eqb split n && (not (is_one_of c seen) && has_code c (branch_heads ls join))) || lane_in n c (lanes_places ls split join))
    lanes-heads no_lane split join seen = sym (none_more (eqb split n) (not (is_one_of c seen)))
    lanes-heads (lane code ps ls) split join seen =
        let bodies = parts-heads ps (labelled split code) join in
        let later = lanes-heads ls split join (code ∷ seen) in
        rw (list_any-append (is_head n c) (parts_pieces ps) (lanes_pieces split (code ∷ seen) ls), list_any-append (has_lane n c) (parts_places ps (labelled split code) join) (lanes_places ls split join), bodies, later)
        (one_more (eqb split n) (eqb code c) (is_one_of code seen) (is_one_of c seen) (lane_in n c (parts_places ps (labelled split code) join)) (lane_in n c (lanes_places ls split join)) (has_code c (branch_heads ls join))
        (λ same. ap (λ d. is_one_of d seen) (eqb-true code c same)))

  schema-heads : (s : SchemaModel) → has_head n c (schema_pieces s) ≡ lane_in n c (places s.start s.body s.finish)
  schema-heads s =
      lanes_around false (parts_places s.body (plain_end s.start) s.finish) (parts_pieces s.body) _ (Node s.finish Finish None) refl refl (parts-heads s.body (plain_end s.start) s.finish)

  abbrev has_lanes : Card → Bool
  has_lanes d = is_split d.kind && (d.node == n && has_code c d.outs)

  cards-heads : (s : SchemaModel) → has_head n c (schema_pieces s) ≡ list_any has_lanes (cards_of s)
  cards-heads s = schema-heads s ∙ of_places (places s.start s.body s.finish)
    where
      of_places : (ps : List Place) → lane_in n c ps ≡ list_any has_lanes (map (card_of s) ps)
      of_places [] = refl
      of_places (p ∷ ps) = ap (λ b. has_lane n c p || b) (of_places ps)

  no_lanes : (d : Card) → eqb d.node n ≡ false → has_lanes d ≡ false
  no_lanes d other = rw other (elim (cases_Bool (is_split d.kind)) [ inl is ↦ rw is refl | inr none ↦ rw none refl ])

  none_later : (seen : List ℕ) (cs : List Card) → twice seen (nodes_of cs) ≡ None → is_one_of n seen ≡ true → list_any has_lanes cs ≡ false
  none_later seen [] h old = refl
  none_later seen (d ∷ cs) h old =
      elim (cases_Bool (is_one_of d.node seen)) [
        | inl again ↦ absurd (let bad : Some d.node ≡ None = rw again at h in cc)
        | inr new ↦ elim (cases_Bool (eqb d.node n)) [
          | inl same ↦ absurd (both_ways _ (ap (λ m. is_one_of m seen) (sym (eqb-true d.node n same)) ∙ new) old)
          | inr other ↦ rw (no_lanes d other) (none_later (d.node ∷ seen) cs (rw new at h) (rw other old))
        ]
      ]

  first_lanes : (seen : List ℕ) (cs : List Card) → twice seen (nodes_of cs) ≡ None → list_any has_lanes cs ≡ has_branch c (card_at n cs)
  first_lanes seen [] h = refl
  first_lanes seen (d ∷ cs) h =
      elim (cases_Bool (is_one_of d.node seen)) [
        | inl again ↦ absurd (let bad : Some d.node ≡ None = rw again at h in cc)
        | inr new ↦ elim (cases_Bool (eqb d.node n)) [
          | inl same ↦
              let none : list_any has_lanes cs ≡ false = none_later (d.node ∷ seen) cs (rw new at h) (rw same refl) in
              rw (same, none) (alone (is_split d.kind) (has_code c d.outs))
          | inr other ↦ rw (no_lanes d other, other) (first_lanes (d.node ∷ seen) cs (rw new at h))
        ]
      ]
    where
      alone : (a b : Bool) → ((a && (true && b)) || false) ≡ (a && b)
      alone true true = refl
      alone true false = refl
      alone false b = refl

  pub head-branch : (s : SchemaModel) → twice [] (nodes_of (cards_of s)) ≡ None → has_head n c (schema_pieces s) ≡ has_branch c (card_at n (cards_of s))
  head-branch s distinct = cards-heads s ∙ first_lanes [] (cards_of s) distinct
