-- What a wrap makes of the pieces of a schema.
use Rattle.std.specs.Prelude.{List}
use Rattle.wsm_ops.specs.{Outline.{at_gap, is_node, before, behind, opening, closing}, declared.pieces.Piece.Piece, declared.wraps.Wrap.Wrap}
use Rattle.wsm_ops.specs.declared.operations.Gap.TheVariants.{After}

-- with what stands before the item, or behind it, or both
abbrev pub opened : Wrap → List Piece → List Piece
opened w ps = before (is_node w.first) (opening w.split w.join) ps

abbrev pub closed : Wrap → List Piece → List Piece
closed w ps = behind (at_gap (After w.last)) (closing w.node w.split w.join) ps

abbrev pub wrapped : Wrap → List Piece → List Piece
wrapped w ps = closed w (opened w ps)
