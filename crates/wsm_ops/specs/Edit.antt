-- Edits of trees.
use Rattle.std.specs.Prelude.{ℕ, Bool, false, ◌&&◌, Option, Some, None, ◌==◌, if◌then◌else◌}
use Rattle.wsm_schema.specs.{Tree.{Part, Parts, Lanes, act, gate, loop, nothing, part, no_lane, lane, and_gate, xor_gate}, Ends.{first_of, last_of}}
use Rattle.wsm_ops.specs.{declared.operations.Gap.Gap, declared.insertions.New.New, declared.wraps.Wrap.Wrap}
use Rattle.wsm_ops.specs.declared.operations.Gap.TheVariants as gap
use Rattle.wsm_ops.specs.declared.insertions.New.TheVariants as new

-- whether a gap is the place directly behind a node
abbrev pub is_behind : Gap → ℕ → Bool
is_behind (gap.After n) node = node == n
is_behind (gap.Head split code) node = false

-- the code of the branch at whose head a gap is, where it is in a branch of this split
abbrev pub head_code : Gap → ℕ → Option ℕ
head_code (gap.After n) split = None
head_code (gap.Head s code) split = if split == s then Some code else None

-- whether a code is the one that is looked for
abbrev pub is_code : Option ℕ → ℕ → Bool
is_code None code = false
is_code (Some wanted) code = wanted == code

-- what is looked for behind a branch: of several branches with one code the first counts
abbrev pub still_wanted : Option ℕ → ℕ → Option ℕ
still_wanted wanted code = if is_code wanted code then None else wanted

-- x before some parts, where a test says so
abbrev pub put_if : Bool → Part → Parts → Parts
put_if test x ps = if test then part x ps else ps

-- x at a gap: behind the part that ends with the gap's node, at the head of the loop that it starts, or at the head of a branch
abbrev mutual
  pub put_inside : Gap → Part → Part → Part
  put_inside g x (act node) = act node
  put_inside g x (gate kind split join ls) = gate kind split join (put_lanes g x (head_code g split) ls)
  put_inside g x (loop start end body) = loop start end (put_if (is_behind g start) x (put g x body))

  pub put : Gap → Part → Parts → Parts
  put g x nothing = nothing
  put g x (part p ps) = part (put_inside g x p) (put_if (is_behind g (last_of p)) x (put g x ps))

  pub put_lanes : Gap → Part → Option ℕ → Lanes → Lanes
  put_lanes g x wanted no_lane = no_lane
  put_lanes g x wanted (lane code ps ls) =
      lane code (put_if (is_code wanted code) x (put g x ps)) (put_lanes g x (still_wanted wanted code) ls)

-- the activity of a node
abbrev pub is_act_of : ℕ → Part → Bool
is_act_of n (act node) = node == n
is_act_of n (gate kind split join ls) = false
is_act_of n (loop start end body) = false

-- a tree without the activity of a node
abbrev mutual
  pub without_inside : ℕ → Part → Part
  without_inside n (act node) = act node
  without_inside n (gate kind split join ls) = gate kind split join (without_lanes n ls)
  without_inside n (loop start end body) = loop start end (without n body)

  pub without : ℕ → Parts → Parts
  without n nothing = nothing
  without n (part p ps) = if is_act_of n p then without n ps else part (without_inside n p) (without n ps)

  pub without_lanes : ℕ → Lanes → Lanes
  without_lanes n no_lane = no_lane
  without_lanes n (lane code ps ls) = lane code (without n ps) (without_lanes n ls)

-- whether a part is the item from one node to another
abbrev pub is_item : ℕ → ℕ → Part → Bool
is_item first last p = first_of p == first && last_of p == last

-- f of a part, where a test says so
abbrev pub wrap_if : Bool → (Part → Part) → Part → Part
wrap_if test f p = if test then f p else p

-- a tree in which f of it replaces the item from one node to another
abbrev mutual
  pub change_inside : (ℕ × ℕ) → (Part → Part) → Part → Part
  change_inside item f (act node) = act node
  change_inside item f (gate kind split join ls) = gate kind split join (change_lanes item f ls)
  change_inside item f (loop start end body) = loop start end (change item f body)

  pub change : (ℕ × ℕ) → (Part → Part) → Parts → Parts
  change item f nothing = nothing
  change item f (part p ps) =
      part (wrap_if (is_item item.0 item.1 p) f (change_inside item f p)) (change item f ps)

  pub change_lanes : (ℕ × ℕ) → (Part → Part) → Lanes → Lanes
  change_lanes item f no_lane = no_lane
  change_lanes item f (lane code ps ls) = lane code (change item f ps) (change_lanes item f ls)

-- an AND block of an item and, beside it, an activity
abbrev pub beside : (node split join : ℕ) → Part → Part
beside node split join p = gate and_gate split join (lane 0 (part p nothing) (lane 1 (part (act node) nothing) no_lane))

-- an XOR block of nothing and an activity
abbrev pub choice : (node split join : ℕ) → Part
choice node split join = gate xor_gate split join (lane 0 nothing (lane 1 (part (act node) nothing) no_lane))

-- what an operation puts at a gap
abbrev pub new_part : New → Part
new_part (new.Activity node) = act node
new_part (new.Choice node split join) = choice node split join

-- the item that a wrap means, and what it makes of the item
abbrev pub item_of : Wrap → ℕ × ℕ
item_of wrap = (wrap.first, wrap.last)

abbrev pub beside_of : Wrap → Part → Part
beside_of wrap = beside wrap.node wrap.split wrap.join
