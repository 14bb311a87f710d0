-- The tree that a value of the program stands for.
use Rattle.std.specs.Prelude.{ℕ, List, map}
use Rattle.wsm_schema.specs.{Tree.{Part, Parts, act, gate, loop, and_gate, xor_gate, parts, lanes}, declared.blocks.Block.Block, declared.blocks.Branch.Branch, declared.blocks.Block.TheOpen.{Block-F, Branch-F}}
use Rattle.wsm_schema.specs.declared.blocks.Block.TheFolds.{fold-Block, fold-Branch}

-- one layer of a block
abbrev pub part_step : Block-F Part (ℕ × Parts) → Part
part_step (Block-F.Act node) = act node
part_step (Block-F.And split join branches) = gate and_gate split join (lanes branches.items)
part_step (Block-F.Xor split join branches) = gate xor_gate split join (lanes branches.items)
part_step (Block-F.Loop start end body) = loop start end (parts body.items)

-- one layer of a branch
abbrev pub lane_step : Branch-F Part (ℕ × Parts) → ℕ × Parts
lane_step b = (b.code, parts b.items.items)

-- a block, and a branch with its code
abbrev pub part_of : Block → Part
part_of = fold-Block Part (ℕ × Parts) part_step lane_step

abbrev pub lane_of : Branch → ℕ × Parts
lane_of = fold-Branch Part (ℕ × Parts) part_step lane_step

-- items, and branches
abbrev pub parts_of : List Block → Parts
parts_of bs = parts (map part_of bs)

abbrev pub lanes_of : List Branch → List (ℕ × Parts)
lanes_of bs = map lane_of bs
