use Rattle.std.proofs.Common.{take}
use Rattle.std.specs.List.{flat_map}
use Rattle.adept_io.specs.Written.{Gives}
use Rattle.adept_io.proofs.writing.put_pieces.Given as goal

abbrev pub invariant-loop-piece : goal.invariant-loop-piece
invariant-loop-piece g l = Gives g.K.Sink.written g.K.Sink.faults l.ok l.well l.initial.sink l.sink (flat_map (λ piece. piece.now) (take l.piece-index l.pieces))
