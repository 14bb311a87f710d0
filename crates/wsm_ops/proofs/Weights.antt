-- Sums over the nodes of a tree, and what edits do to them.
use Rattle.wsm_ops.proofs.Common.{[], ℕ, ◌++◌, ◌+◌, ◌==◌, ◌∷◌, ◌≡◌, ◌≤◌, act, and_gate, arith, Bool, branch_tails, cases_Bool, change, change_inside, change_lanes, End, eqb, false, first_node, first_of, Gap, Gate, gate, head_code, inl, inr}
use Rattle.wsm_ops.proofs.Common.{is_act_of, is_activity, is_behind, is_code, is_item, is_some, join_kind, labelled, lane, Lanes, lanes_places, last_of, leaving, List, loop, no_lane, NodeKind, None, nothing, Option, Part, part, part_places}
use Rattle.wsm_ops.proofs.Common.{Parts, parts_places, Place, place, plain_end, put, put_if, put_inside, put_lanes, refl, Some, split_kind, still_wanted, true, without, without_inside, without_lanes, wrap_if, xor_gate}
use Rattle.std.specs.Prelude.{◌&&◌}
use Rattle.wsm_schema.specs.declared.cards.NodeKind.TheVariants.{Activity, LoopStart, LoopEnd}
use Rattle.wsm_ops.specs.declared.operations.Gap.TheVariants as gap

-- so much, where a test says so
abbrev pub tally : Bool → ℕ → ℕ
tally true c = c
tally false c = 0

-- the sum over a list
abbrev pub total : {A : Type 0} → (A → ℕ) → List A → ℕ
total f [] = 0
total f (x ∷ xs) = f x + total f xs

pub total-append : {A : Type 0} (f : A → ℕ) (xs ys : List A) → total f (xs ++ ys) ≡ total f xs + total f ys
total-append f [] ys = omega arith
total-append f (x ∷ xs) ys = let later = total-append f xs ys in omega arith

-- the sum over the nodes of a tree
abbrev mutual
  pub part_weight : (NodeKind → ℕ → ℕ) → Part → ℕ
  part_weight f (act node) = f Activity node
  part_weight f (gate kind split join ls) = f (split_kind kind) split + (lanes_weight f ls + f (join_kind kind) join)
  part_weight f (loop start end body) = f LoopStart start + (parts_weight f body + f LoopEnd end)

  pub parts_weight : (NodeKind → ℕ → ℕ) → Parts → ℕ
  parts_weight f nothing = 0
  parts_weight f (part p ps) = part_weight f p + parts_weight f ps

  pub lanes_weight : (NodeKind → ℕ → ℕ) → Lanes → ℕ
  lanes_weight f no_lane = 0
  lanes_weight f (lane code ps ls) = parts_weight f ps + lanes_weight f ls

-- ---- it is the sum over the places
abbrev pub at_place : (NodeKind → ℕ → ℕ) → Place → ℕ
at_place f p = f p.kind p.node

mutual
  part_total : (f : NodeKind → ℕ → ℕ) (p : Part) (from : End) (to : ℕ) → total (at_place f) (part_places p from to) ≡ part_weight f p
  part_total f (act node) from to = omega arith
  part_total f (gate kind split join ls) from to =
      let closing = place join (join_kind kind) (Some split) (branch_tails ls split) (plain_end to ∷ []) in
      let inner = lanes_total f ls split join in
      let whole = total-append (at_place f) (lanes_places ls split join) (closing ∷ []) in
      omega (arith, inner, whole)
  part_total f (loop start end body) from to =
      let inner = parts_total f body (plain_end start) end in
      let whole = total-append (at_place f) (parts_places body (plain_end start) end) (place end LoopEnd (Some start) (leaving body (plain_end start) ∷ []) (plain_end to ∷ []) ∷ []) in
      omega (arith, inner, whole)

  pub parts_total : (f : NodeKind → ℕ → ℕ) (ps : Parts) (from : End) (to : ℕ) → total (at_place f) (parts_places ps from to) ≡ parts_weight f ps
  parts_total f nothing from to = refl
  parts_total f (part p ps) from to =
      let one = part_total f p from (first_node ps to) in
      let others = parts_total f ps (plain_end (last_of p)) to in
      let whole = total-append (at_place f) (part_places p from (first_node ps to)) (parts_places ps (plain_end (last_of p)) to) in
      omega (arith, one, others, whole)

  lanes_total : (f : NodeKind → ℕ → ℕ) (ls : Lanes) (split join : ℕ) → total (at_place f) (lanes_places ls split join) ≡ lanes_weight f ls
  lanes_total f no_lane split join = refl
  lanes_total f (lane code ps ls) split join =
      let one = parts_total f ps (labelled split code) join in
      let others = lanes_total f ls split join in
      let whole = total-append (at_place f) (parts_places ps (labelled split code) join) (lanes_places ls split join) in
      omega (arith, one, others, whole)

-- ---- something new at a gap
-- the node of a gap, and a sum that counts it alone
abbrev pub gap_node : Gap → ℕ
gap_node (gap.After n) = n
gap_node (gap.Head split code) = split

abbrev pub only : ℕ → ℕ → NodeKind → ℕ → ℕ
only n c kind node = tally (node == n) c

pub behind_once : (g : Gap) (c : ℕ) (kind : NodeKind) (node : ℕ) → tally (is_behind g node) c ≤ only (gap_node g) c kind node
behind_once (gap.After n) c kind node = omega arith
behind_once (gap.Head split code) c kind node = omega arith

head_once : (g : Gap) (c : ℕ) (kind : NodeKind) (split : ℕ) → tally (is_some (head_code g split)) c ≤ only (gap_node g) c kind split
head_once (gap.After n) c kind split = omega arith
head_once (gap.Head s code) c kind split = elim (cases_Bool (eqb split s)) [ inl found ↦ rw found (omega arith) | inr other ↦ rw other (omega arith) ]

wanted_once : (wanted : Option ℕ) (code c : ℕ) → tally (is_code wanted code) c + tally (is_some (still_wanted wanted code)) c ≤ tally (is_some wanted) c
wanted_once None code c = omega arith
wanted_once (Some w) code c = elim (cases_Bool (eqb w code)) [ inl found ↦ rw found (omega arith) | inr other ↦ rw other (omega arith) ]

pub put_if-weight : (f : NodeKind → ℕ → ℕ) (test : Bool) (x : Part) (ps : Parts) → parts_weight f (put_if test x ps) ≡ tally test (part_weight f x) + parts_weight f ps
put_if-weight f true x ps = refl
put_if-weight f false x ps = omega arith

mutual
  inside-weight : (f : NodeKind → ℕ → ℕ) (g : Gap) (x p : Part) →
      part_weight f (put_inside g x p) + tally (is_behind g (last_of p)) (part_weight f x) ≤ part_weight f p + part_weight (only (gap_node g) (part_weight f x)) p
  inside-weight f g x (act node) = let once = behind_once g (part_weight f x) Activity node in omega arith
  inside-weight f g x (gate kind split join ls) =
      let inner = lanes_put-weight f g x (head_code g split) ls in
      let head = head_once g (part_weight f x) (split_kind kind) split in
      let tail = behind_once g (part_weight f x) (join_kind kind) join in
      omega (arith, inner, head, tail)
  inside-weight f g x (loop start end body) =
      let inner = put-weight f g x body in
      let head = behind_once g (part_weight f x) LoopStart start in
      let tail = behind_once g (part_weight f x) LoopEnd end in
      let with_head = put_if-weight f (is_behind g start) x (put g x body) in
      omega (arith, inner, head, tail, with_head)

  pub put-weight : (f : NodeKind → ℕ → ℕ) (g : Gap) (x : Part) (ps : Parts) →
      parts_weight f (put g x ps) ≤ parts_weight f ps + parts_weight (only (gap_node g) (part_weight f x)) ps
  put-weight f g x nothing = omega arith
  put-weight f g x (part p ps) =
      let one = inside-weight f g x p in
      let others = put-weight f g x ps in
      let between = put_if-weight f (is_behind g (last_of p)) x (put g x ps) in
      omega (arith, one, others, between)

  lanes_put-weight : (f : NodeKind → ℕ → ℕ) (g : Gap) (x : Part) (wanted : Option ℕ) (ls : Lanes) →
      lanes_weight f (put_lanes g x wanted ls) ≤ lanes_weight f ls + lanes_weight (only (gap_node g) (part_weight f x)) ls + tally (is_some wanted) (part_weight f x)
  lanes_put-weight f g x wanted no_lane = omega arith
  lanes_put-weight f g x wanted (lane code ps ls) =
      let one = put-weight f g x ps in
      let others = lanes_put-weight f g x (still_wanted wanted code) ls in
      let head = put_if-weight f (is_code wanted code) x (put g x ps) in
      let once = wanted_once wanted code (part_weight f x) in
      omega (arith, one, others, head, once)

-- ---- without an activity
-- a sum over the activities of a node alone
abbrev pub acts : ℕ → NodeKind → ℕ → ℕ
acts n kind node = tally (is_activity kind && node == n) 1

-- a sum over the nodes with a number
abbrev pub named : ℕ → NodeKind → ℕ → ℕ
named n kind node = tally (node == n) 1

silent-split : (n : ℕ) (kind : Gate) (node : ℕ) → acts n (split_kind kind) node ≡ 0
silent-split n and_gate node = refl
silent-split n xor_gate node = refl

silent-join : (n : ℕ) (kind : Gate) (node : ℕ) → acts n (join_kind kind) node ≡ 0
silent-join n and_gate node = refl
silent-join n xor_gate node = refl

taken_out : (n : ℕ) (p : Part) → is_act_of n p ≡ true → part_weight (acts n) p ≤ part_weight (named n) p
taken_out n (act node) h = omega arith
taken_out n (gate kind split join ls) h = absurd (cc)
taken_out n (loop start end body) h = absurd (cc)

mutual
  without_inside-weight : (n : ℕ) (p : Part) → is_act_of n p ≡ false →
      part_weight (named n) (without_inside n p) + part_weight (acts n) p ≤ part_weight (named n) p
  without_inside-weight n (act node) h = rw h (omega arith)
  without_inside-weight n (gate kind split join ls) h =
      let inner = without_lanes-weight n ls in
      let opening = silent-split n kind split in
      let closing = silent-join n kind join in
      omega (arith, inner, opening, closing)
  without_inside-weight n (loop start end body) h =
      let inner = without-acts n body in
      omega (arith, inner)

  pub without-acts : (n : ℕ) (ps : Parts) → parts_weight (named n) (without n ps) + parts_weight (acts n) ps ≤ parts_weight (named n) ps
  without-acts n nothing = omega arith
  without-acts n (part p ps) =
      let others = without-acts n ps in
      elim (cases_Bool (is_act_of n p)) [
        | inl gone ↦ let one = taken_out n p gone in rw gone (omega (arith, others, one))
        | inr other ↦ let one = without_inside-weight n p other in rw other (omega (arith, others, one))
      ]

  without_lanes-weight : (n : ℕ) (ls : Lanes) → lanes_weight (named n) (without_lanes n ls) + lanes_weight (acts n) ls ≤ lanes_weight (named n) ls
  without_lanes-weight n no_lane = omega arith
  without_lanes-weight n (lane code ps ls) =
      let one = without-acts n ps in
      let others = without_lanes-weight n ls in
      omega (arith, one, others)

mutual
  less_inside : (f : NodeKind → ℕ → ℕ) (n : ℕ) (p : Part) → part_weight f (without_inside n p) ≤ part_weight f p
  less_inside f n (act node) = omega arith
  less_inside f n (gate kind split join ls) = let inner = less_lanes f n ls in omega (arith, inner)
  less_inside f n (loop start end body) = let inner = without-weight f n body in omega (arith, inner)

  pub without-weight : (f : NodeKind → ℕ → ℕ) (n : ℕ) (ps : Parts) → parts_weight f (without n ps) ≤ parts_weight f ps
  without-weight f n nothing = omega arith
  without-weight f n (part p ps) =
      let one = less_inside f n p in
      let others = without-weight f n ps in
      elim (cases_Bool (is_act_of n p)) [
        | inl gone ↦ rw gone (omega (arith, others))
        | inr other ↦ rw other (omega (arith, one, others))
      ]

  less_lanes : (f : NodeKind → ℕ → ℕ) (n : ℕ) (ls : Lanes) → lanes_weight f (without_lanes n ls) ≤ lanes_weight f ls
  less_lanes f n no_lane = omega arith
  less_lanes f n (lane code ps ls) =
      let one = without-weight f n ps in
      let others = less_lanes f n ls in
      omega (arith, one, others)

-- ---- an item that is replaced
-- a replacement that adds at most so much
abbrev pub Adds : (NodeKind → ℕ → ℕ) → (Part → Part) → ℕ → Type 0
Adds f change c = (p : Part) → part_weight f (change p) ≤ part_weight f p + c

wrap_if-weight : (f : NodeKind → ℕ → ℕ) (test : Bool) (g : Part → Part) (c : ℕ) (p : Part) → Adds f g c → part_weight f (wrap_if test g p) ≤ part_weight f p + tally test c
wrap_if-weight f true g c p adds = adds p
wrap_if-weight f false g c p adds = omega arith

item_once : (item : ℕ × ℕ) (c : ℕ) (p : Part) → tally (is_item item.0 item.1 p) c ≤ tally (first_of p == item.0) c
item_once item c p =
    elim (cases_Bool (eqb (first_of p) item.0)) [
      | inl same ↦ rw same (elim (cases_Bool (eqb (last_of p) item.1)) [ inl found ↦ rw found (omega arith) | inr other ↦ rw other (omega arith) ])
      | inr other ↦ rw other (omega arith)
    ]

mutual
  change_inside-weight : (f : NodeKind → ℕ → ℕ) (item : ℕ × ℕ) (g : Part → Part) (c : ℕ) → Adds f g c → (p : Part) →
      part_weight f (change_inside item g p) + tally (first_of p == item.0) c ≤ part_weight f p + part_weight (only item.0 c) p
  change_inside-weight f item g c adds (act node) = omega arith
  change_inside-weight f item g c adds (gate kind split join ls) = let inner = change_lanes-weight f item g c adds ls in omega (arith, inner)
  change_inside-weight f item g c adds (loop start end body) = let inner = change-weight f item g c adds body in omega (arith, inner)

  pub change-weight : (f : NodeKind → ℕ → ℕ) (item : ℕ × ℕ) (g : Part → Part) (c : ℕ) → Adds f g c → (ps : Parts) →
      parts_weight f (change item g ps) ≤ parts_weight f ps + parts_weight (only item.0 c) ps
  change-weight f item g c adds nothing = omega arith
  change-weight f item g c adds (part p ps) =
      let one = change_inside-weight f item g c adds p in
      let wrapped = wrap_if-weight f (is_item item.0 item.1 p) g c (change_inside item g p) adds in
      let once = item_once item c p in
      let others = change-weight f item g c adds ps in
      omega (arith, one, wrapped, once, others)

  change_lanes-weight : (f : NodeKind → ℕ → ℕ) (item : ℕ × ℕ) (g : Part → Part) (c : ℕ) → Adds f g c → (ls : Lanes) →
      lanes_weight f (change_lanes item g ls) ≤ lanes_weight f ls + lanes_weight (only item.0 c) ls
  change_lanes-weight f item g c adds no_lane = omega arith
  change_lanes-weight f item g c adds (lane code ps ls) =
      let one = change-weight f item g c adds ps in
      let others = change_lanes-weight f item g c adds ls in
      omega (arith, one, others)
