use Rattle.wsm_ops.proofs.{Common.place_of, NotedNodes.{noted-end, next-noted}}
use Rattle.wsm_ops.proofs.places.Places.note_all.Goals as goal

pub loop-piece-preserved : goal.loop-piece-preserved
loop-piece-preserved c =
    next-noted (place_of c.args.self.now) (place_of c.loop-piece.self) (place_of c.note.new.self) c.args.pieces.now c.loop-piece.piece-index _ c.args.run c.loop-piece-test.true c.in_ok-note.ensures c.loop-piece.invariant

pub returns : goal.returns
returns c = noted-end (place_of c.args.self.now) (place_of c.loop-piece.self) c.loop-piece.piece-index c.args.pieces.now c.loop-piece-test.false c.loop-piece.invariant
