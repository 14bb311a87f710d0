use Rattle.std.proofs.Common.{[], true, append-nil}
use Rattle.adept_io.proofs.{HandedOn.handed_on, Sent.gives_then}
use Rattle.adept_io.proofs.gathering.gather.Goals as goal

pub returns-clause-gives : goal.returns-clause-gives
returns-clause-gives g c =
    let text = g.T.Text.bytes c.args.text.now in
    let given = rw append-nil at (gives_then _ _ true c.put-ok.result c.finish-ok.result _ _ _ text [] c.put-ok.ensures c.finish-ok.ensures.gives) in
    let longer = rw c.requires.begun at c.finish-ok.new.self.begun in
    handed_on _ c.finish-ok.new.self (λ s. s.sink.now) (λ s. s.held) g.K.Sink.written g.K.Sink.faults c.finish-ok.result text
    longer c.new.ensures c.finish-ok.ensures.empty given
