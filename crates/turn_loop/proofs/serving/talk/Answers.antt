use Rattle.turn_loop.proofs.Common.{ap, arith, Cut, Ended, Err, IsAtRest, joined, still_first, subst, sym, true, Turned, worked}
use Rattle.turn_loop.proofs.Going.{begun, closed, empty, end-of, ended-memory, filled, last-read, told, unfilled, was-cut, went-on, Going}
use Rattle.turn_loop.proofs.serving.talk.Goals as goal

pub returns-in_err-waiting-clause-ended : goal.returns-in_err-waiting-clause-ended
returns-in_err-waiting-clause-ended g c =
    let k = g.D.Disk in
    let r = c.requires.1.1.1.1 in
    let s = begun g.E.Responder.rules g.E.Responder.holds k.content k.may_leave k.moment k.left_since c.args.disk.now (g.S.Source.left c.args.source.now) (g.K.Sink.written c.args.sink.now) g.ps g.met.D.Disk.only_now c.args.responder.now c.args.gate r.0 r.1.0 r.1.1 in
    end-of c.from_residual.result _
    (Ended g.E.Responder.rules k.may_leave k.moment k.left_since c.args.disk.now c.args.disk.now (g.S.Source.left c.args.source.now) (g.S.Source.left c.args.source.now) (g.K.Sink.written c.args.sink.now) (g.K.Sink.written c.args.sink.now) g.ps)
    c.from_residual.ensures.1
    (λ e is. subst (λ e. Ended g.E.Responder.rules k.may_leave k.moment k.left_since c.args.disk.now c.args.disk.now (g.S.Source.left c.args.source.now) (g.S.Source.left c.args.source.now) (g.K.Sink.written c.args.sink.now) (g.K.Sink.written c.args.sink.now) g.ps (Err e)) (sym is) (ended-memory s))

pub turns-init : goal.turns-init
turns-init g c =
    let k = g.D.Disk in
    let r = c.requires.1.1.1.1 in
    let s = begun g.E.Responder.rules g.E.Responder.holds k.content k.may_leave k.moment k.left_since c.args.disk.now (g.S.Source.left c.args.source.now) (g.K.Sink.written c.args.sink.now) g.ps g.met.D.Disk.only_now c.args.responder.now c.args.gate r.0 r.1.0 r.1.1 in
    record {
      going = subst (λ w. Going g.E.Responder.rules g.E.Responder.holds k.content k.may_leave k.moment k.left_since c.args.disk.now (g.S.Source.left c.args.source.now) (g.K.Sink.written c.args.sink.now) g.ps c.args.disk.now (g.S.Source.left c.args.source.now) (g.K.Sink.written c.args.sink.now) c.args.responder.now w c.args.gate) (sym c.in_ok-waiting.ensures) s;
      source_falls = omega arith;
      sink_falls = omega arith;
      disk_falls = omega arith;
    }

pub returns-in_err-fill-clause-ended : goal.returns-in_err-fill-clause-ended
returns-in_err-fill-clause-ended g c =
    let k = g.D.Disk in
    let e = c.in_err-fill.ensures in
    end-of c.from_residual-in_err-fill.result _
    (Ended g.E.Responder.rules k.may_leave k.moment k.left_since c.args.disk.now c.turns.disk (g.S.Source.left c.args.source.now) (g.S.Source.left c.fill.new.source) (g.K.Sink.written c.args.sink.now) (g.K.Sink.written c.turns.sink) g.ps)
    c.from_residual-in_err-fill.ensures.1
    (λ why is.
    subst (λ why. Ended g.E.Responder.rules k.may_leave k.moment k.left_since c.args.disk.now c.turns.disk (g.S.Source.left c.args.source.now) (g.S.Source.left c.fill.new.source) (g.K.Sink.written c.args.sink.now) (g.K.Sink.written c.turns.sink) g.ps (Err why)) (sym is)
    (unfilled c.turns.invariant.going (g.S.Source.left c.fill.new.source) c.in_err-fill.field-0.0 e.causes (λ long. e.too_long (ap (λ w. Err w) long)) e.none e.nothing))

pub returns-then-is_empty-clause-ended : goal.returns-then-is_empty-clause-ended
returns-then-is_empty-clause-ended g c =
    let f = c.in_ok-fill.ensures.filled in
    let s = filled c.turns.invariant.going (g.S.Source.left c.fill.new.source) c.fill.new.self f in
    let none = empty c.fill.new.self.bytes c.is_empty.result c.is_empty.ensures c.if-is_empty.true in
    let last = last-read c.turns.invariant.going (g.S.Source.left c.fill.new.source) c.fill.new.self f none in
    closed s (g.K.Sink.written c.close.new.sink) c.close.result last.0 last.1 none (c.close.ensures.closes (still_first true (joined s.done)) (worked g.E.Responder.rules g.ps (joined s.done)) s.begun s.keeps)

pub take_turn-requires : goal.take_turn-requires
take_turn-requires g c κs outlive =
    let k = g.D.Disk in
    let s = filled c.turns.invariant.going (g.S.Source.left c.fill.new.source) c.fill.new.self c.in_ok-fill.ensures.filled in
    let is_first = still_first true (joined s.done) in (
      outlive.0,
      (
        outlive.1.0,
        (
          outlive.1.1,
          (
            (is_first, (s.begun, subst (λ qs. g.E.Responder.holds c.turns.responder is_first qs s.begun) (sym (told s)) s.keeps, s.open_item)),
            (subst (λ qs. IsAtRest k.content k.may_leave c.turns.disk qs c.turns.gate) (sym (told s)) s.rest, s.room),
          ),
        ),
      ),
    )

pub returns-in_err-turn-clause-ended : goal.returns-in_err-turn-clause-ended
returns-in_err-turn-clause-ended g c =
    let k = g.D.Disk in
    let s = filled c.turns.invariant.going (g.S.Source.left c.fill.new.source) c.fill.new.self c.in_ok-fill.ensures.filled in
    let is_first = still_first true (joined s.done) in
    end-of c.from_residual-in_err-turn.result _
    (Ended g.E.Responder.rules k.may_leave k.moment k.left_since c.args.disk.now c.take_turn.new.disk (g.S.Source.left c.args.source.now) (g.S.Source.left c.fill.new.source) (g.K.Sink.written c.args.sink.now) (g.K.Sink.written c.take_turn.new.sink) g.ps)
    c.from_residual-in_err-turn.ensures.1
    (λ e is.
    was-cut s g.met.D.Disk.counts_now c.take_turn.new.disk (g.K.Sink.written c.take_turn.new.sink) e
    (subst (λ e. Cut g.E.Responder.rules k.may_leave k.moment k.left_since c.turns.disk c.take_turn.new.disk (g.K.Sink.written c.turns.sink) (g.K.Sink.written c.take_turn.new.sink) is_first (worked g.E.Responder.rules g.ps (joined s.done)) s.begun c.fill.new.self.bytes e) (sym is)
    (subst (λ b. Cut g.E.Responder.rules k.may_leave k.moment k.left_since c.turns.disk c.take_turn.new.disk (g.K.Sink.written c.turns.sink) (g.K.Sink.written c.take_turn.new.sink) is_first (worked g.E.Responder.rules g.ps (joined s.done)) s.begun b c.in_err-turn.field-0.0) c.as_slice.ensures
    (subst (λ qs. Cut g.E.Responder.rules k.may_leave k.moment k.left_since c.turns.disk c.take_turn.new.disk (g.K.Sink.written c.turns.sink) (g.K.Sink.written c.take_turn.new.sink) is_first qs s.begun c.as_slice.result.now c.in_err-turn.field-0.0) (told s)
    (c.in_err-turn.ensures.cut is_first s.begun (subst (λ qs. g.E.Responder.holds c.turns.responder is_first qs s.begun) (sym (told s)) s.keeps) s.open_item)))))

pub turns-preserved : goal.turns-preserved
turns-preserved g c =
    let k = g.D.Disk in
    let s = filled c.turns.invariant.going (g.S.Source.left c.fill.new.source) c.fill.new.self c.in_ok-fill.ensures.filled in
    let t = c.in_ok-turn.turn in
    let is_first = still_first true (joined s.done) in
    let turn : Turned g.E.Responder.rules g.E.Responder.holds k.content k.may_leave k.moment k.left_since c.turns.disk c.take_turn.new.disk (g.K.Sink.written c.turns.sink) (g.K.Sink.written c.take_turn.new.sink) is_first (worked g.E.Responder.rules g.ps (joined s.done)) s.begun c.fill.new.self.bytes c.take_turn.new.responder t =
    subst (λ b. Turned g.E.Responder.rules g.E.Responder.holds k.content k.may_leave k.moment k.left_since c.turns.disk c.take_turn.new.disk (g.K.Sink.written c.turns.sink) (g.K.Sink.written c.take_turn.new.sink) is_first (worked g.E.Responder.rules g.ps (joined s.done)) s.begun b c.take_turn.new.responder t) c.as_slice.ensures
    (subst (λ qs. Turned g.E.Responder.rules g.E.Responder.holds k.content k.may_leave k.moment k.left_since c.turns.disk c.take_turn.new.disk (g.K.Sink.written c.turns.sink) (g.K.Sink.written c.take_turn.new.sink) is_first qs s.begun c.as_slice.result.now c.take_turn.new.responder t) (told s)
    (c.in_ok-turn.ensures.done is_first s.begun (subst (λ qs. g.E.Responder.holds c.turns.responder is_first qs s.begun) (sym (told s)) s.keeps) s.open_item)) in
    record {
      going = went-on s c.take_turn.new.disk (g.K.Sink.written c.take_turn.new.sink) c.take_turn.new.responder c.remove.new.self t turn c.remove.ensures.bytes c.remove.ensures.read;
      source_falls = omega (arith, c.turns.invariant.source_falls, c.fill.ensures.never_falls);
      sink_falls = omega (arith, c.turns.invariant.sink_falls, c.take_turn.ensures.sink_never_falls);
      disk_falls = omega (arith, c.turns.invariant.disk_falls, c.take_turn.ensures.disk_never_falls);
    }
