use Rattle.turn_cell.proofs.{Common.{[], ◌++◌, ◌∙◌, ◌∷◌, ◌≡◌, ap, drop, entry, IsLegalFrom, IsStateAfter, length, None, subst, sym, view_at}, Serving.{legal_more, state_more, calls_made}}
use Rattle.turn_cell.proofs.cell.Cell.serve.Goals as goal

pub publish-requires-clause-grown : goal.publish-requires-clause-grown
publish-requires-clause-grown g c =
    let o = c.take_out-guarded.ensures.out in
    let e = entry c.args.number c.args.event.now c.in-Ok.reply in
    λ κs lives. (e, c.in-Ok.ensures.journal ∙ ap (λ zs. zs ++ e ∷ []) (sym (ap (λ z. z.seen) o.view)), c.requires.number ∙ sym (ap (λ z. z.number) o.view))

pub publish-requires-clause-legal : goal.publish-requires-clause-legal
publish-requires-clause-legal g c =
    let m = g.M.Machine in
    let o = c.take_out-guarded.ensures.out in
    let xs = c.take_out-guarded.result.journal.items.items in
    let st = m.state c.take_out-guarded.result.machine.value in
    let ys = c.make_call.new.self.journal.items.items in
    let k = legal_more m.after m.reply c.args.seat.now.me.0.opening xs ys st c.args.number c.args.event.now c.in-Ok.reply c.in-Ok.ensures.journal c.in-Ok.ensures.reply o.state_is o.legal in
    λ κs lives. subst (λ p. IsLegalFrom m.after m.reply p ys) (sym (ap (λ z. z.opening) o.view)) k

pub publish-requires-clause-state : goal.publish-requires-clause-state
publish-requires-clause-state g c =
    let m = g.M.Machine in
    let o = c.take_out-guarded.ensures.out in
    let xs = c.take_out-guarded.result.journal.items.items in
    let st = m.state c.take_out-guarded.result.machine.value in
    let st' = m.state c.make_call.new.self.machine.value in
    let ys = c.make_call.new.self.journal.items.items in
    let k = state_more m.after m.reply c.args.seat.now.me.0.opening xs ys st st' c.args.number c.args.event.now c.in-Ok.reply c.in-Ok.ensures.journal c.in-Ok.ensures.state o.state_is in
    λ κs lives. subst (λ p. IsStateAfter m.after p ys st') (sym (ap (λ z. z.opening) o.view)) k

pub returns-in-Ok-clause-ok : goal.returns-in-Ok-clause-ok
returns-in-Ok-clause-ok g c =
    let m = g.M.Machine in
    let o = c.take_out-guarded.ensures.out in
    let p = c.publish.ensures.left in
    let v = view_at c.args.seat.now.table_id None c.args.seat.now.me.0 in
    let w = view_at c.publish.new.seat.table_id None c.publish.new.seat.me.0 in
    let xs = c.take_out-guarded.result.journal.items.items in
    let st = m.state c.take_out-guarded.result.machine.value in
    let ys = c.make_call.new.self.journal.items.items in
    let longer : ys ≡ xs ++ entry v.number c.args.event.now c.in-Ok.reply ∷ [] = c.in-Ok.ensures.journal ∙ ap (λ n. xs ++ entry n c.args.event.now c.in-Ok.reply ∷ []) c.requires.number in
    let k = legal_more m.after m.reply v.opening xs ys st v.number c.args.event.now c.in-Ok.reply longer c.in-Ok.ensures.reply o.state_is o.legal in
    calls_made m.after m.reply v w xs ys c.args.event.now c.in-Ok.reply o.more longer (ap (λ z. z.0.seen) p)
    (ap (λ z. z.0.own_calls) p ∙ ap (λ z. z.own_calls ++ drop (length z.seen) ys) o.view)
    (ap (λ z. z.0.opening) p ∙ ap (λ z. z.opening) o.view) (ap (λ z. z.0.number) p ∙ ap (λ z. z.number) o.view) k o.own
