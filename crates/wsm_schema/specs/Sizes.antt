-- How many nodes a tree has.
use Rattle.std.specs.Prelude.{ℕ, ◌+◌}
use Rattle.wsm_schema.specs.Tree.{Part, Parts, Lanes, act, gate, loop, nothing, part, no_lane, lane}

abbrev mutual
  pub part_size : Part → ℕ
  part_size (act node) = 1
  part_size (gate kind split join ls) = lanes_size ls + 2
  part_size (loop start end body) = parts_size body + 2

  pub parts_size : Parts → ℕ
  parts_size nothing = 0
  parts_size (part p ps) = part_size p + parts_size ps

  pub lanes_size : Lanes → ℕ
  lanes_size no_lane = 0
  lanes_size (lane code ps ls) = parts_size ps + lanes_size ls
