-- The nodes of a tree in document order, each with its control edges.
use Rattle.std.specs.Prelude.{ℕ, List, [], ◌∷◌, ◌++◌, Option, Some, None}
use Rattle.wsm_schema.specs.{Tree.{Part, Parts, Lanes, Gate, act, gate, loop, nothing, part, no_lane, lane, and_gate, xor_gate}, Ends.{first_node, last_of}, declared.cards.End.End, declared.places.Place.Place}
use Rattle.wsm_schema.specs.declared.cards.NodeKind.{NodeKind}
use Rattle.wsm_schema.specs.declared.cards.NodeKind.TheVariants.{Start, Finish, Activity, AndSplit, AndJoin, XorSplit, XorJoin, LoopStart, LoopEnd}

-- a node, what it is, and the edges into it and out of it
abbrev pub place : ℕ → NodeKind → Option ℕ → List End → List End → Place
place node kind partner ins outs = record { node = node; kind = kind; partner = partner; ins = ins; outs = outs }

-- the other end of an edge, with a branch's code or with no label
abbrev pub labelled : ℕ → ℕ → End
labelled node code = record { node = node; label = Some code }

abbrev pub plain_end : ℕ → End
plain_end node = record { node = node; label = None }

-- the kind of a block's first node
abbrev pub split_kind : Gate → NodeKind
split_kind and_gate = AndSplit
split_kind xor_gate = XorSplit

-- the kind of a block's last node
abbrev pub join_kind : Gate → NodeKind
join_kind and_gate = AndJoin
join_kind xor_gate = XorJoin

-- where the edge comes from that leaves these parts, which `from` enters
abbrev pub leaving : Parts → End → End
leaving nothing from = from
leaving (part p ps) from = leaving ps (plain_end (last_of p))

-- the edges out of a split, and those into its join, one for each branch
abbrev pub branch_heads : Lanes → ℕ → List End
branch_heads no_lane join = []
branch_heads (lane code ps ls) join = labelled (first_node ps join) code ∷ branch_heads ls join

abbrev pub branch_tails : Lanes → ℕ → List End
branch_tails no_lane split = []
branch_tails (lane code ps ls) split = leaving ps (labelled split code) ∷ branch_tails ls split

-- the places of a part, where one edge enters it and one leaves it to the node `to`
abbrev mutual
  pub part_places : Part → End → ℕ → List Place
  part_places (act node) from to = place node Activity None (from ∷ []) (plain_end to ∷ []) ∷ []
  part_places (gate kind split join ls) from to =
      place split (split_kind kind) (Some join) (from ∷ []) (branch_heads ls join)
      ∷ (lanes_places ls split join ++ place join (join_kind kind) (Some split) (branch_tails ls split) (plain_end to ∷ []) ∷ [])
  part_places (loop start end body) from to =
      place start LoopStart (Some end) (from ∷ []) (plain_end (first_node body end) ∷ [])
      ∷ (parts_places body (plain_end start) end ++ place end LoopEnd (Some start) (leaving body (plain_end start) ∷ []) (plain_end to ∷ []) ∷ [])

  pub parts_places : Parts → End → ℕ → List Place
  parts_places nothing from to = []
  parts_places (part p ps) from to = part_places p from (first_node ps to) ++ parts_places ps (plain_end (last_of p)) to

  pub lanes_places : Lanes → ℕ → ℕ → List Place
  lanes_places no_lane split join = []
  lanes_places (lane code ps ls) split join = parts_places ps (labelled split code) join ++ lanes_places ls split join

-- the places of a tree between two nodes
abbrev pub places : ℕ → Parts → ℕ → List Place
places start body finish =
    place start Start None [] (plain_end (first_node body finish) ∷ [])
    ∷ (parts_places body (plain_end start) finish ++ place finish Finish None (leaving body (plain_end start) ∷ []) [] ∷ [])
