use Rattle.std.proofs.Common.{arith}
use Rattle.adept_io.proofs.Sent.{Appends-take}
use Rattle.adept_io.proofs.writing.write_most.Goals as goal

pub loop-sent-preserved : goal.loop-sent-preserved
loop-sent-preserved g c =
    let sunk = g.K.Sink.written in
    let piece = rw c.split_at.ensures.back at c.in-Ok.ensures.bytes in
    record {
      within = omega (arith, c.in-Ok.ensures.bound, c.split_at.ensures.back_len, c.loop-sent.invariant.within);
      appends = Appends-take (sunk c.args.sink.now) (sunk c.loop-sent.sink) (sunk c.write.new.self) c.loop-sent.sent c.in-Ok.count c.args.bytes.now c.loop-sent.invariant.appends piece;
      never_falls = omega (arith, c.loop-sent.invariant.never_falls, c.in-Ok.ensures.never_falls);
    }
