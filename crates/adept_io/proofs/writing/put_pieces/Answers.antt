use Rattle.std.proofs.Common.{[], take, get_or}
use Rattle.std.specs.List.{flat_map}
use Rattle.adept_io.proofs.Sent.{gives_nothing, gives_then, flat_map-take_more}
use Rattle.adept_io.proofs.writing.put_pieces.Goals as goal

pub loop-piece-init : goal.loop-piece-init
loop-piece-init g c = gives_nothing g.K.Sink.written g.K.Sink.faults c.args.ok c.args.sink.now

pub loop-piece-preserved : goal.loop-piece-preserved
loop-piece-preserved g c =
    let at = c.loop-piece.piece-index in
    let pieces = c.args.pieces.now in
    let piece = get_or pieces at record { ref_ptr = (0, 0); now = [] } in
    rw (flat_map-take_more (λ piece. piece.now) pieces at record { ref_ptr = (0, 0); now = [] } c.loop-piece-test.true)
    (gives_then g.K.Sink.written g.K.Sink.faults c.args.ok c.loop-piece.well c.put-well.result c.args.sink.now c.loop-piece.sink c.put-well.new.sink (flat_map (λ piece. piece.now) (take at pieces)) piece.now c.loop-piece.invariant c.put-well.ensures)
