use Rattle.turn_loop.proofs.{Common.{◌*◌, ◌+◌, ◌-◌, ◌^◌, ◌≤◌, held, length}, Going.Going}
use Rattle.turn_loop.proofs.serving.talk.Given as goal

abbrev pub invariant-turns : goal.invariant-turns
invariant-turns g l =
    let k = g.D.Disk in
    record {
      going : Going g.E.Responder.rules g.E.Responder.holds k.content k.may_leave k.moment k.left_since l.initial.disk (g.S.Source.left l.initial.source) (g.K.Sink.written l.initial.sink) g.ps
          l.disk (g.S.Source.left l.source) (g.K.Sink.written l.sink) l.responder l.waiting l.gate;
      source_falls : g.S.Source.faults l.initial.source ≤ g.S.Source.faults l.source;
      sink_falls : g.K.Sink.faults l.initial.sink ≤ g.K.Sink.faults l.sink;
      disk_falls : k.faults l.initial.disk ≤ k.faults l.disk;
    }

-- how many bytes may still be read, each twice, and how many wait
abbrev pub decreases-turns : goal.decreases-turns
decreases-turns g l = 2 * (2 ^ 63 + 65536 - l.waiting.read) + length l.waiting.bytes

abbrev pub ghost-take_turn : goal.ghost-take_turn
ghost-take_turn g a = held (g.D.Disk.content a.disk.now)
