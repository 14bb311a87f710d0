-- What a reader of pieces has read.
use Rattle.std.specs.Prelude.{map, reverse}
use Rattle.wsm_schema.specs.{Tree.lanes, TreeOf.{parts_of, lanes_of}, Tokens.{Level, Levels}}
use Rattle.wsm_ops.specs.{declared.readers.Open.Open, declared.readers.Reader.Reader}

-- of one block: its items and branches stand in the reader last ones first
abbrev pub level_of : Open → Level
level_of o = record { items = parts_of (reverse o.items.items); branches = lanes (lanes_of (reverse o.branches.items)) }

-- of the innermost block, and of those around it
abbrev pub levels_of : Reader → Levels
levels_of r = (level_of r.inner, map level_of (reverse r.around.items))
