use Rattle.turn_loop.proofs.{Common.{◌∙◌, Appends, AppendsPrefix, Cut, subst, sym}, Turning.{cut-disk, cut-memory, cut-sink, err-of, turned}}
use Rattle.turn_loop.proofs.turns.take_turn.Goals as goal

pub store-requires : goal.store-requires
store-requires g c κs outlive =
    let r = c.requires.1.1.1 in
    (outlive, (r.1.0, (r.1.1, (c.in_ok-worked.ensures.works r.0.0 g.ps r.0.1.0 r.0.1.1 r.0.1.2).room)))

pub returns-in_err-group-clause-cut : goal.returns-in_err-group-clause-cut
returns-in_err-group-clause-cut g c = λ first begun keeps open_item.
    let k = g.D.Disk in
    let r = c.requires.1.1.1.1 in
    let cut = cut-memory {E = g.row.E.Denot} g.E.Responder.rules g.E.Responder.holds k.content k.may_leave k.moment k.left_since c.args.disk.now (g.K.Sink.written c.args.sink.now) first g.ps begun c.args.bytes.now g.met.D.Disk.only_now c.args.gate r.0 in
    err-of c.from_residual.result _ _ c.from_residual.ensures.1 (λ e is. subst (Cut g.E.Responder.rules k.may_leave k.moment k.left_since c.args.disk.now c.args.disk.now (g.K.Sink.written c.args.sink.now) (g.K.Sink.written c.args.sink.now) first g.ps begun c.args.bytes.now) (sym is) cut)

pub returns-in_err-worked-clause-cut : goal.returns-in_err-worked-clause-cut
returns-in_err-worked-clause-cut g c = λ first begun keeps open_item.
    let k = g.D.Disk in
    let r = c.requires.1.1.1.1 in
    let cut = cut-memory {E = g.row.E.Denot} g.E.Responder.rules g.E.Responder.holds k.content k.may_leave k.moment k.left_since c.args.disk.now (g.K.Sink.written c.args.sink.now) first g.ps begun c.args.bytes.now g.met.D.Disk.only_now c.args.gate r.0 in
    err-of c.from_residual-in_err-worked.result _ _ c.from_residual-in_err-worked.ensures.1 (λ e is. subst (Cut g.E.Responder.rules k.may_leave k.moment k.left_since c.args.disk.now c.args.disk.now (g.K.Sink.written c.args.sink.now) (g.K.Sink.written c.args.sink.now) first g.ps begun c.args.bytes.now) (sym is) cut)

pub returns-in_err-next-clause-cut : goal.returns-in_err-next-clause-cut
returns-in_err-next-clause-cut g c = λ first begun keeps open_item.
    let k = g.D.Disk in
    let cut = cut-disk g.E.Responder.rules g.E.Responder.holds k.content k.may_leave k.moment k.left_since c.args.disk.now (g.K.Sink.written c.args.sink.now) first g.ps begun c.args.bytes.now
    c.work_items.new.responder c.work_items.new.text.items c.work_items.new.group c.in_ok-worked.worked (c.in_ok-worked.ensures.works first g.ps begun keeps open_item) c.in_ok-worked.ensures.full c.store.new.disk c.store.ensures.any_moment in
    err-of c.from_residual-in_err-next.result _ _ c.from_residual-in_err-next.ensures.1
    (λ e is. subst (Cut g.E.Responder.rules k.may_leave k.moment k.left_since c.args.disk.now c.store.new.disk (g.K.Sink.written c.args.sink.now) (g.K.Sink.written c.args.sink.now) first g.ps begun c.args.bytes.now) (sym (is ∙ c.in_err-next.ensures.causes)) cut)

pub returns-in_err-answer-clause-cut : goal.returns-in_err-answer-clause-cut
returns-in_err-answer-clause-cut g c = λ first begun keeps open_item.
    let k = g.D.Disk in
    let part = subst (AppendsPrefix (g.K.Sink.written c.args.sink.now) (g.K.Sink.written c.answer.new.sink)) c.deref.ensures.value c.in_err-answer.ensures.part in
    let cut = cut-sink g.E.Responder.rules g.E.Responder.holds k.content k.may_leave k.moment k.left_since c.args.disk.now (g.K.Sink.written c.args.sink.now) first g.ps begun c.args.bytes.now
    c.work_items.new.responder c.work_items.new.text.items c.work_items.new.group c.in_ok-worked.worked (c.in_ok-worked.ensures.works first g.ps begun keeps open_item) c.in_ok-worked.ensures.full c.store.new.disk c.store.ensures.any_moment
    c.in_ok-next.next c.in_ok-next.ensures.rest (g.K.Sink.written c.answer.new.sink) part in
    err-of c.from_residual-in_err-answer.result _ _ c.from_residual-in_err-answer.ensures.1
    (λ e is. subst (Cut g.E.Responder.rules k.may_leave k.moment k.left_since c.args.disk.now c.store.new.disk (g.K.Sink.written c.args.sink.now) (g.K.Sink.written c.answer.new.sink) first g.ps begun c.args.bytes.now) (sym (is ∙ c.in_err-answer.ensures.causes)) cut)

pub returns-clause-done : goal.returns-clause-done
returns-clause-done g c = λ first begun keeps open_item.
    let k = g.D.Disk in
    turned g.E.Responder.rules g.E.Responder.holds k.content k.may_leave k.moment k.left_since c.args.disk.now (g.K.Sink.written c.args.sink.now) first g.ps begun c.args.bytes.now
    c.work_items.new.responder c.work_items.new.text.items c.work_items.new.group c.in_ok-worked.worked (c.in_ok-worked.ensures.works first g.ps begun keeps open_item) c.in_ok-worked.ensures.full c.store.new.disk c.store.ensures.any_moment
    c.in_ok-next.next c.in_ok-next.ensures.rest (g.K.Sink.written c.answer.new.sink) c.in_ok-next.ensures.short (subst (Appends (g.K.Sink.written c.args.sink.now) (g.K.Sink.written c.answer.new.sink)) c.deref.ensures.value c.in_ok-answer.ensures.all)
