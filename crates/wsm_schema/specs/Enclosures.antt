-- The blocks round each node, and what they tell of two nodes.
use Rattle.std.specs.{Prelude.{◌≡◌, ℕ, ◌+◌, Bool, true, false, not, ◌&&◌, List, [], ◌∷◌, ◌++◌, map, Option, Some, None, ◌==◌, if◌then◌else◌}, List.list_all}
use Rattle.wsm_schema.specs.{Tree.{Part, Parts, Lanes, act, gate, loop, nothing, part, no_lane, lane}, Places.split_kind, Kinds.{is_and_split, is_xor_split, is_loop_start}, SchemaModel.SchemaModel, Flat.{FlatModel, flat_of, cards_of}}
use Rattle.wsm_schema.specs.{Sound.{part_has, parts_have, twice, nodes_of}, declared.cards.NodeKind.NodeKind, declared.enclosures.Enclosure.Enclosure}
use Rattle.wsm_schema.specs.declared.cards.NodeKind.TheVariants.{LoopStart}

-- a block by its first node, and a branch of it
abbrev pub enclosure : ℕ → NodeKind → ℕ → Enclosure
enclosure first kind branch = record { first = first; kind = kind; branch = branch }

-- the blocks round a node, the outermost first, where branches are counted from i on. The two ends of a loop stand in it,
-- those of other blocks do not; round a node that is not there stand none
abbrev mutual
  pub part_round : Part → ℕ → List Enclosure
  part_round (act node) n = []
  part_round (gate kind split join ls) n = lanes_round split (split_kind kind) 0 ls n
  part_round (loop start end body) n = enclosure start LoopStart 0 ∷ parts_round body n

  pub parts_round : Parts → ℕ → List Enclosure
  parts_round nothing n = []
  parts_round (part p ps) n = if part_has p n then part_round p n else parts_round ps n

  pub lanes_round : ℕ → NodeKind → ℕ → Lanes → ℕ → List Enclosure
  lanes_round split kind i no_lane n = []
  lanes_round split kind i (lane code ps ls) n =
      if parts_have ps n then enclosure split kind i ∷ parts_round ps n else lanes_round split kind (i + 1) ls n

-- whether the smallest block round two nodes is an AND block with one in each of two branches, by the blocks round both
abbrev pub part_ways : List Enclosure → List Enclosure → Bool
part_ways [] ys = false
part_ways (x ∷ xs) [] = false
part_ways (x ∷ xs) (y ∷ ys) =
    if x.first == y.first
    then (if x.branch == y.branch then part_ways xs ys else is_and_split x.kind)
    else false

-- whether none of the blocks chooses a branch
abbrev pub are_free : List Enclosure → Bool
are_free xs = list_all (λ x. not (is_xor_split x.kind)) xs

-- whether each XOR block round one node is round another, with one branch, by the blocks round both
abbrev pub are_bound : List Enclosure → List Enclosure → Bool
are_bound [] ys = true
are_bound (x ∷ xs) [] = are_free (x ∷ xs)
are_bound (x ∷ xs) (y ∷ ys) = if x.first == y.first && x.branch == y.branch then are_bound xs ys else are_free (x ∷ xs)

-- the start of the innermost loop among blocks, where `around` is that of what is round them
abbrev pub innermost_loop : List Enclosure → Option ℕ → Option ℕ
innermost_loop [] around = around
innermost_loop (x ∷ xs) around = innermost_loop xs (if is_loop_start x.kind then Some x.first else around)

-- the blocks round each node of a tree, in document order, where those of `outer` are round the tree
abbrev mutual
  pub part_walk : List Enclosure → Part → List (List Enclosure)
  part_walk outer (act node) = outer ∷ []
  part_walk outer (gate kind split join ls) = outer ∷ (lanes_walk outer split (split_kind kind) 0 ls ++ outer ∷ [])
  part_walk outer (loop start end body) =
      let inner = outer ++ enclosure start LoopStart 0 ∷ [] in inner ∷ (parts_walk inner body ++ inner ∷ [])

  pub parts_walk : List Enclosure → Parts → List (List Enclosure)
  parts_walk outer nothing = []
  parts_walk outer (part p ps) = part_walk outer p ++ parts_walk outer ps

  pub lanes_walk : List Enclosure → ℕ → NodeKind → ℕ → Lanes → List (List Enclosure)
  lanes_walk outer split kind i no_lane = []
  lanes_walk outer split kind i (lane code ps ls) =
      parts_walk (outer ++ enclosure split kind i ∷ []) ps ++ lanes_walk outer split kind (i + 1) ls

-- the blocks round each node of a schema, in document order
abbrev pub schema_walk : Parts → List (List Enclosure)
schema_walk body = [] ∷ (parts_walk [] body ++ [] ∷ [])

-- for each card of a schema of distinct nodes the blocks round its node
pub record IsEnclosed (s : SchemaModel) (flat : FlatModel) (blocks : List (List Enclosure)) : Type 0 where
  pub flat_is : flat ≡ flat_of s
  pub distinct : twice [] (nodes_of (cards_of s)) ≡ None
  pub each : blocks ≡ map (λ c. parts_round s.body c.node) (cards_of s)
