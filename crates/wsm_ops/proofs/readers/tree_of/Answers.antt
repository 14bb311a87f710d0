use Rattle.wsm_ops.proofs.{Common.{◌∙◌, ap, levels_of, read_pieces, sym}, PieceReading.read-last}
use Rattle.wsm_ops.proofs.readers.tree_of.Goals as goal

pub loop-piece-preserved : goal.loop-piece-preserved
loop-piece-preserved c =
    ap (read_pieces c.pop.new.self.items) c.in_ok-read.ensures
    ∙ sym (read-last c.pop.new.self.items c.in-Some.piece (levels_of c.loop-piece.reader))
    ∙ ap (λ ps. read_pieces ps (levels_of c.loop-piece.reader)) (sym c.in-Some.ensures.items)
    ∙ c.loop-piece.invariant
