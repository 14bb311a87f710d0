-- The clauses of a sound schema, each as its first fault.
use Rattle.std.specs.{Prelude.{◌≡◌, ℕ, zero, suc, Bool, true, false, ◌&&◌, ◌||◌, not, max, List, [], ◌∷◌, map, find, flat_map, length, Option, Some, None, option_map, nat_lt, ◌==◌, if◌then◌else◌}, List.{list_all, list_any, count_by}}
use Rattle.std.specs.{Option.option_or, Fn.iterate}
use Rattle.wsm_schema.specs.{Tree.{Part, Parts, Lanes, Gate, act, gate, loop, nothing, part, no_lane, lane, and_gate, xor_gate}, SchemaModel.SchemaModel, Flat.{cards_of, card_at}, Kinds.{worked_on, is_activity}, Trail.is_one_of}
use Rattle.wsm_schema.specs.{declared.cards.Card.Card, declared.cards.NodeKind.NodeKind, declared.faults.BlockFault.BlockFault, declared.faults.DataFault.DataFault}
use Rattle.wsm_schema.specs.declared.cards.NodeKind.TheVariants as node_kind
use Rattle.wsm_schema.specs.declared.faults.BlockFault.TheVariants.{Limit, Twice, FewBranches, CodeTwice, SyncEnd, SyncPlace, SyncLoop, SyncCycle}
use Rattle.wsm_schema.specs.declared.faults.DataFault.TheVariants.{Unknown, Missing, ParallelWrite}
use Rattle.wsm_schema.specs.declared.faults.LimitKind.TheVariants as limit

-- the first answer
abbrev pub first_some : {X Y : Type 0} → (X → Option Y) → List X → Option Y
first_some f [] = None
first_some f (x ∷ xs) = option_or (f x) (first_some f xs)

-- the first number that stood earlier, behind those of `seen`
abbrev pub twice : List ℕ → List ℕ → Option ℕ
twice seen [] = None
twice seen (n ∷ ns) = if is_one_of n seen then Some n else twice (n ∷ seen) ns

-- how deep blocks stand in one another
abbrev mutual
  pub part_depth : Part → ℕ
  part_depth (act node) = 0
  part_depth (gate kind split join ls) = suc (lanes_depth ls)
  part_depth (loop start end body) = suc (parts_depth body)

  pub parts_depth : Parts → ℕ
  parts_depth nothing = 0
  parts_depth (part p ps) = max (part_depth p) (parts_depth ps)

  pub lanes_depth : Lanes → ℕ
  lanes_depth no_lane = 0
  lanes_depth (lane code ps ls) = max (parts_depth ps) (lanes_depth ls)

-- whether a node stands there
abbrev mutual
  pub part_has : Part → ℕ → Bool
  part_has (act node) n = node == n
  part_has (gate kind split join ls) n = split == n || join == n || lanes_have ls n
  part_has (loop start end body) n = start == n || end == n || parts_have body n

  pub parts_have : Parts → ℕ → Bool
  parts_have nothing n = false
  parts_have (part p ps) n = part_has p n || parts_have ps n

  pub lanes_have : Lanes → ℕ → Bool
  lanes_have no_lane n = false
  lanes_have (lane code ps ls) n = parts_have ps n || lanes_have ls n

-- the codes of branches
abbrev pub codes_of : Lanes → List ℕ
codes_of no_lane = []
codes_of (lane code ps ls) = code ∷ codes_of ls

-- a block's first fault of a kind, or the first one inside it
abbrev mutual
  pub part_block_fault : (Lanes → ℕ → Option BlockFault) → Part → Option BlockFault
  part_block_fault f (act node) = None
  part_block_fault f (gate kind split join ls) = option_or (f ls split) (lanes_block_fault f ls)
  part_block_fault f (loop start end body) = parts_block_fault f body

  pub parts_block_fault : (Lanes → ℕ → Option BlockFault) → Parts → Option BlockFault
  parts_block_fault f nothing = None
  parts_block_fault f (part p ps) = option_or (part_block_fault f p) (parts_block_fault f ps)

  pub lanes_block_fault : (Lanes → ℕ → Option BlockFault) → Lanes → Option BlockFault
  lanes_block_fault f no_lane = None
  lanes_block_fault f (lane code ps ls) = option_or (parts_block_fault f ps) (lanes_block_fault f ls)

-- whether all branches are taken
abbrev pub is_and : Gate → Bool
is_and and_gate = true
is_and xor_gate = false

-- whether two nodes stand in different branches of an AND block
abbrev mutual
  pub part_apart : Part → ℕ → ℕ → Bool
  part_apart (act node) a b = false
  part_apart (gate kind split join ls) a b = lanes_apart ls a b (is_and kind && lanes_have ls a && lanes_have ls b)
  part_apart (loop start end body) a b = parts_apart body a b

  pub parts_apart : Parts → ℕ → ℕ → Bool
  parts_apart nothing a b = false
  parts_apart (part p ps) a b = if part_has p a && part_has p b then part_apart p a b else parts_apart ps a b

  pub lanes_apart : Lanes → ℕ → ℕ → Bool → Bool
  lanes_apart no_lane a b none_has_both = none_has_both
  lanes_apart (lane code ps ls) a b none_has_both =
      if parts_have ps a && parts_have ps b then parts_apart ps a b else lanes_apart ls a b none_has_both

-- whether each XOR block that has one node in a branch has the other in the same branch: where the second is activated, the first is not skipped
abbrev mutual
  pub part_bound : Part → ℕ → ℕ → Bool
  part_bound (act node) a b = true
  part_bound (gate kind split join ls) a b = lanes_bound kind ls a b
  part_bound (loop start end body) a b = parts_bound body a b

  pub parts_bound : Parts → ℕ → ℕ → Bool
  parts_bound nothing a b = true
  parts_bound (part p ps) a b = part_bound p a b && parts_bound ps a b

  pub lanes_bound : Gate → Lanes → ℕ → ℕ → Bool
  lanes_bound kind no_lane a b = true
  lanes_bound kind (lane code ps ls) a b = (is_and kind || (not (parts_have ps a) || parts_have ps b)) && (parts_bound ps a b && lanes_bound kind ls a b)

-- the start of the innermost loop round a node, where `around` is that of the parts
abbrev mutual
  pub part_loop : Part → ℕ → Option ℕ → Option ℕ
  part_loop (act node) n around = around
  part_loop (gate kind split join ls) n around = lanes_loop ls n around
  part_loop (loop start end body) n around = parts_loop body n (Some start)

  pub parts_loop : Parts → ℕ → Option ℕ → Option ℕ
  parts_loop nothing n around = around
  parts_loop (part p ps) n around = if part_has p n then part_loop p n around else parts_loop ps n around

  pub lanes_loop : Lanes → ℕ → Option ℕ → Option ℕ
  lanes_loop no_lane n around = around
  lanes_loop (lane code ps ls) n around = if parts_have ps n then parts_loop ps n around else lanes_loop ls n around

-- whether two optional numbers are one
abbrev pub same_option : Option ℕ → Option ℕ → Bool
same_option None None = true
same_option (Some a) (Some b) = a == b
same_option _ _ = false

-- whether edges lead from a to b, by at most so many of them
abbrev pub leads : List (ℕ × ℕ) → ℕ → ℕ → ℕ → Bool
leads edges zero a b = a == b
leads edges (suc k) a b = a == b || list_any (λ e. e.0 == a && leads edges k e.1 b) edges

-- the control edges, each with its source and target
abbrev pub control_edges : List Card → List (ℕ × ℕ)
control_edges cards = flat_map (λ c. map (λ e. (e.node, c.node)) c.ins) cards

-- the nodes in document order
abbrev pub nodes_of : List Card → List ℕ
nodes_of cards = map (λ c. c.node) cards

-- whether a node is an activity
abbrev pub is_act_in : List Card → ℕ → Bool
is_act_in cards n = list_any (λ c. c.node == n && is_activity c.kind) cards

-- whether an actor starts and ends a node
abbrev pub is_worked_on_in : List Card → ℕ → Bool
is_worked_on_in cards n = list_any (λ c. c.node == n && worked_on c.kind) cards

-- the first sync edge whose target reaches its source over the control edges and the sync edges before it
-- (a path that repeats no node has fewer edges than there are nodes, of which there are n)
abbrev pub sync_cycle : ℕ → List (ℕ × ℕ) → List (ℕ × ℕ) → Option BlockFault
sync_cycle n edges [] = None
sync_cycle n edges (s ∷ ss) = if leads edges n s.1 s.0 then Some (SyncCycle s.0 s.1) else sync_cycle n (s ∷ edges) ss

-- more than 16 rows of one node
abbrev pub too_many : List ℕ → Bool
too_many nodes = list_any (λ n. nat_lt 16 (count_by (λ m. m == n) nodes)) nodes

-- an answer where a test holds
abbrev pub when : {A : Type 0} → Bool → A → Option A
when test a = if test then Some a else None

-- the first limit that is exceeded
abbrev pub over_limit : SchemaModel → Option BlockFault
over_limit s =
    option_or (when (nat_lt 1024 (length (cards_of s))) (Limit limit.Nodes))
    (option_or (when (nat_lt 64 (parts_depth s.body)) (Limit limit.Depth))
    (option_or (when (nat_lt 1024 (length s.syncs)) (Limit limit.Syncs))
    (option_or (when (nat_lt 1024 (length s.elements)) (Limit limit.Elements))
    (option_or (when (too_many (map (λ r. r.0) s.reads)) (Limit limit.Reads))
    (when (too_many (map (λ w. w.0) s.writes)) (Limit limit.Writes))))))

-- the fault of the first clause on blocks and sync edges that fails, at its first place
abbrev pub block_fault : SchemaModel → Option BlockFault
block_fault s =
    let cards = cards_of s in
    option_or (over_limit s)
    (option_or (option_map Twice (twice [] (nodes_of cards)))
    (option_or (parts_block_fault (λ ls split. when (nat_lt (length (codes_of ls)) 2) (FewBranches split)) s.body)
    (option_or (parts_block_fault (λ ls split. option_map (CodeTwice split) (twice [] (codes_of ls))) s.body)
    (option_or (first_some (λ e. when (not (is_act_in cards e.0 && is_act_in cards e.1)) (SyncEnd e.0 e.1)) s.syncs)
    (option_or (first_some (λ e. when (not (parts_apart s.body e.0 e.1)) (SyncPlace e.0 e.1)) s.syncs)
    (option_or (first_some (λ e. when (not (same_option (parts_loop s.body e.0 None) (parts_loop s.body e.1 None))) (SyncLoop e.0 e.1)) s.syncs)
    (sync_cycle (length cards) (control_edges cards) s.syncs)))))))

-- the elements that have a value before a node, whatever came before it
abbrev pub Sure : Type 0
Sure = ℕ → ℕ → Bool

-- nothing is sure
abbrev pub none_sure : Sure
none_sure n d = false

-- whether a node writes an element
abbrev pub writes_of : SchemaModel → ℕ → ℕ → Bool
writes_of s n d = list_any (λ w. w.0 == n && w.1 == d) s.writes

-- what is sure behind several edges: all of it at an AND join, what they share at others
abbrev pub sure_by : NodeKind → List Bool → Bool
sure_by node_kind.Start before = false
sure_by node_kind.AndJoin before = list_any (λ b. b) before
sure_by _ before = list_all (λ b. b) before

-- what is sure behind a node: at it, or by what it writes
abbrev pub sure_behind : SchemaModel → Sure → ℕ → ℕ → Bool
sure_behind s sure n d = sure n d || writes_of s n d

-- whether one control edge leads to nodes of a kind
abbrev pub has_one_edge : NodeKind → Bool
has_one_edge node_kind.Start = false
has_one_edge node_kind.AndJoin = false
has_one_edge node_kind.XorJoin = false
has_one_edge _ = true

-- what comes with the sync edges into a node, from the sources that are bound to it
abbrev pub sure_by_syncs : SchemaModel → Sure → Card → ℕ → Bool
sure_by_syncs s sure c d = has_one_edge c.kind && list_any (λ m. parts_bound s.body m c.node && sure_behind s sure m d) c.syncs_in

-- what is sure at a node, from its sources
abbrev pub sure_at : SchemaModel → Sure → Option Card → ℕ → Bool
sure_at s sure None d = false
sure_at s sure (Some c) d = sure_by c.kind (map (λ e. sure_behind s sure e.node d) c.ins) || sure_by_syncs s sure c d

-- the rule of each node applied to all nodes at once, as many times as there are nodes
abbrev pub sure_of : SchemaModel → Sure
sure_of s = let cards = cards_of s in iterate (λ sure n d. sure_at s sure (card_at n cards) d) (length cards) none_sure

-- the first mandatory read of a node that may find no value
abbrev pub missing_at : Sure → Card → Option DataFault
missing_at sure c = option_map (λ r. Missing c.node r.0) (find (λ r. r.1 && not (sure c.node r.0)) c.reads)

-- whether a sync edge joins two nodes, either way
abbrev pub synced : SchemaModel → ℕ → ℕ → Bool
synced s a b = list_any (λ e. (e.0 == a && e.1 == b) || (e.0 == b && e.1 == a)) s.syncs

-- both write an element, in different branches of an AND block and with no sync edge between them
abbrev pub parallel_write : SchemaModel → Card → Card → Option DataFault
parallel_write s a b =
    if parts_apart s.body a.node b.node && not (synced s a.node b.node)
    then option_map (ParallelWrite a.node b.node) (find (λ d. is_one_of d b.writes) a.writes)
    else None

-- the first two nodes of which that is so
abbrev pub parallel_writes : SchemaModel → List Card → Option DataFault
parallel_writes s [] = None
parallel_writes s (a ∷ cs) = option_or (first_some (parallel_write s a) cs) (parallel_writes s cs)

-- a read or write that names no node that is worked on, or no listed element
abbrev pub unknown : SchemaModel → ℕ → ℕ → Option DataFault
unknown s n d = when (not (is_worked_on_in (cards_of s) n && list_any (λ e. e.0 == d) s.elements)) (Unknown n d)

-- the same of the data
abbrev pub data_fault : SchemaModel → Option DataFault
data_fault s =
    option_or (first_some (λ r. unknown s r.0 r.1) s.reads)
    (option_or (first_some (λ w. unknown s w.0 w.1) s.writes)
    (option_or (first_some (missing_at (sure_of s)) (cards_of s))
    (parallel_writes s (cards_of s))))

-- every clause holds
pub record Sound (s : SchemaModel) : Type 0 where
  pub blocks : block_fault s ≡ None
  pub on_data : data_fault s ≡ None
