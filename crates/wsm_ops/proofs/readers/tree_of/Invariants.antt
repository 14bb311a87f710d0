use Rattle.wsm_ops.proofs.Common.{[], ◌≡◌, empty, length, levels_of, read_pieces}
use Rattle.wsm_ops.proofs.readers.tree_of.Given as goal

abbrev pub invariant-loop-piece : goal.invariant-loop-piece
invariant-loop-piece l = read_pieces l.rest.items (levels_of l.reader) ≡ read_pieces l.fn.pieces.items (empty, [])

abbrev pub decreases-loop-piece : goal.decreases-loop-piece
decreases-loop-piece l = length l.rest.items
