-- A tree as the list of its pieces in document order, and what edits do to such a list.
use Rattle.std.specs.{Prelude.{◌≡◌, ℕ, ◌≤◌, Bool, true, false, ◌&&◌, ◌==◌, not, List, [], ◌∷◌, ◌++◌, filter, length, Option, Some, None, if◌then◌else◌}, List.{flat_map, list_any}}
use Rattle.wsm_schema.specs.{Tree.{Part, Parts, Lanes, act, gate, loop, nothing, part, no_lane, lane, and_gate, xor_gate}, Tokens.{Token, Levels, an_act, open_gate, open_loop, a_branch, close, empty, read_token}, SchemaModel.SchemaModel}
use Rattle.wsm_schema.specs.{Places.{split_kind, join_kind}, Kinds.is_activity, Trail.is_one_of, Sound.twice, declared.cards.Card.Card, declared.cards.NodeKind.NodeKind}
use Rattle.wsm_schema.specs.declared.cards.NodeKind.TheVariants.{Start, Finish, Activity, AndSplit, AndJoin, XorSplit, XorJoin, LoopStart, LoopEnd}
use Rattle.wsm_ops.specs.{Edit.{is_behind, head_code, is_code}, Refusals.{is_split, has_code}, declared.operations.Gap.Gap, declared.pieces.Piece.Piece, declared.pieces.Seat.Seat}
use Rattle.wsm_ops.specs.declared.pieces.Piece.TheVariants.{Node, Head}

-- the pieces of a tree, where `seen` are the codes of the branches before these
abbrev mutual
  pub part_pieces : Part → List Piece
  part_pieces (act node) = Node node Activity None ∷ []
  part_pieces (gate kind split join ls) =
      Node split (split_kind kind) (Some join) ∷ (lanes_pieces split [] ls ++ Node join (join_kind kind) (Some split) ∷ [])
  part_pieces (loop start end body) = Node start LoopStart (Some end) ∷ (parts_pieces body ++ Node end LoopEnd (Some start) ∷ [])

  pub parts_pieces : Parts → List Piece
  parts_pieces nothing = []
  parts_pieces (part p ps) = part_pieces p ++ parts_pieces ps

  pub lanes_pieces : ℕ → List ℕ → Lanes → List Piece
  lanes_pieces split seen no_lane = []
  lanes_pieces split seen (lane code ps ls) =
      Head split code (not (is_one_of code seen)) ∷ (parts_pieces ps ++ lanes_pieces split (code ∷ seen) ls)

-- the pieces of a schema
abbrev pub pieces : ℕ → Parts → ℕ → List Piece
pieces start body finish = Node start Start None ∷ (parts_pieces body ++ Node finish Finish None ∷ [])

abbrev pub schema_pieces : SchemaModel → List Piece
schema_pieces s = pieces s.start s.body s.finish

-- the token that a node is, if it is one of the tree
abbrev pub node_tokens : NodeKind → ℕ → Option ℕ → List Token
node_tokens Activity node partner = an_act node ∷ []
node_tokens AndSplit node (Some join) = open_gate and_gate node join ∷ []
node_tokens XorSplit node (Some join) = open_gate xor_gate node join ∷ []
node_tokens LoopStart node (Some end) = open_loop node end ∷ []
node_tokens AndJoin node partner = close ∷ []
node_tokens XorJoin node partner = close ∷ []
node_tokens LoopEnd node partner = close ∷ []
node_tokens _ node partner = []

abbrev pub tokens_of : Piece → List Token
tokens_of (Node node kind partner) = node_tokens kind node partner
tokens_of (Head split code is_first) = a_branch code ∷ []

-- tokens, and pieces, read from the right
abbrev pub read_onto : List Token → Levels → Levels
read_onto [] levels = levels
read_onto (t ∷ ts) levels = read_token t (read_onto ts levels)

abbrev pub read_piece : Piece → Levels → Levels
read_piece p levels = read_onto (tokens_of p) levels

abbrev pub read_pieces : List Piece → Levels → Levels
read_pieces [] levels = levels
read_pieces (p ∷ ps) levels = read_piece p (read_pieces ps levels)

-- the tree of pieces
abbrev pub tree_in : List Piece → Parts
tree_in ps = (read_pieces ps (empty, [])).0.items

-- whether a piece is a node, or the place behind which a gap is
abbrev pub is_node : ℕ → Piece → Bool
is_node n (Node node kind partner) = node == n
is_node n (Head split code is_first) = false

abbrev pub at_gap : Gap → Piece → Bool
at_gap g (Node node kind partner) = is_behind g node
at_gap g (Head split code is_first) = is_code (head_code g split) code && is_first

-- the head of the first branch with a code, and whether there is one
abbrev pub is_head : ℕ → ℕ → Piece → Bool
is_head s c (Node node kind partner) = false
is_head s c (Head split code is_first) = split == s && (code == c && is_first)

abbrev pub has_head : ℕ → ℕ → List Piece → Bool
has_head split code ps = list_any (is_head split code) ps

-- what a piece says of a node
abbrev pub seat_on : ℕ → Piece → Option Seat
seat_on n (Node node kind partner) = if node == n then Some (record { kind = kind; partner = partner }) else None
seat_on n (Head split code is_first) = None

-- what the first piece of a node says of it
abbrev pub seat_at : ℕ → List Piece → Option Seat
seat_at n [] = None
seat_at n (Node node kind partner ∷ ps) = if node == n then Some (record { kind = kind; partner = partner }) else seat_at n ps
seat_at n (Head split code is_first ∷ ps) = seat_at n ps

-- what a card says of its node
abbrev pub seat_of : Card → Seat
seat_of c = record { kind = c.kind; partner = c.partner }

-- whether a card is that of a split with a branch of the code
abbrev pub has_branch : ℕ → Option Card → Bool
has_branch code None = false
has_branch code (Some c) = is_split c.kind && has_code code c.outs

-- the nodes
abbrev pub nodes_in : List Piece → List ℕ
nodes_in [] = []
nodes_in (Node node kind partner ∷ ps) = node ∷ nodes_in ps
nodes_in (Head split code is_first ∷ ps) = nodes_in ps

-- the pieces of some tree between two nodes, of which no two are one node
abbrev pub IsOutline : ℕ → ℕ → List Piece → Type 0
IsOutline start finish ps = (ps ≡ pieces start (tree_in ps) finish) × (twice [] (nodes_in ps) ≡ None)

-- new pieces behind a piece, or before it, where it passes a test
abbrev pub with_behind : (Piece → Bool) → List Piece → Piece → List Piece
with_behind test new p = p ∷ (if test p then new else [])

abbrev pub with_before : (Piece → Bool) → List Piece → Piece → List Piece
with_before test new p = (if test p then new else []) ++ p ∷ []

-- pieces with new ones behind, or before, each that passes a test
abbrev pub behind : (Piece → Bool) → List Piece → List Piece → List Piece
behind test new ps = flat_map (with_behind test new) ps

abbrev pub before : (Piece → Bool) → List Piece → List Piece → List Piece
before test new ps = flat_map (with_before test new) ps

-- pieces without a node
abbrev pub without_node : ℕ → List Piece → List Piece
without_node n ps = filter (λ p. not (is_node n p)) ps

-- at most one piece passes a test
abbrev pub IsOnce : (Piece → Bool) → List Piece → Type 0
IsOnce test ps = length (filter test ps) ≤ 1

-- what stands before an item, and behind it, in a block with an activity beside it
abbrev pub opening : (split join : ℕ) → List Piece
opening split join = Node split AndSplit (Some join) ∷ Head split 0 true ∷ []

abbrev pub closing : (node split join : ℕ) → List Piece
closing node split join = Head split 1 true ∷ Node node Activity None ∷ Node join AndJoin (Some split) ∷ []

-- whether the item that begins with a node ends with the last one, by what the first one is
abbrev pub ends_with : NodeKind → ℕ → Option ℕ → ℕ → Bool
ends_with kind node partner last = if is_activity kind then node == last else is_code partner last
