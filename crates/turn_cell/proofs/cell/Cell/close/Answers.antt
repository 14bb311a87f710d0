use Rattle.turn_cell.proofs.{Common.{◌≡◌, IsClosed, refl, subst, sym, view_of}, Closing.closed}
use Rattle.std.specs.{Option.IsSome, Slots.slots_items}
use Rattle.turn_cell.proofs.cell.Cell.close.Goals as goal

pub unwrap-machine-requires : goal.unwrap-machine-requires
unwrap-machine-requires g c =
    let m = g.M.Machine in
    let z = c.close_with-closed.result in
    let p = c.args.last in
    let k = closed m.state m.after m.reply m.age p.seat.id p.seat.me.0 (slots_items z.words) (slots_items z.slots) c.close_with-closed.ensures.values.2 p.idle.0 c.requires.first c.requires.all c.take-slot.result c.take-slot.ensures.value p.seat.table_id p.kept in
    subst (λ o. IsSome o) (sym k.1) refl

pub returns : goal.returns
returns g c =
    let m = g.M.Machine in
    let z = c.close_with-closed.result in
    let p = c.args.last in
    let k = closed m.state m.after m.reply m.age p.seat.id p.seat.me.0 (slots_items z.words) (slots_items z.slots) c.close_with-closed.ensures.values.2 p.idle.0 c.requires.first c.requires.all c.take-slot.result c.take-slot.ensures.value p.seat.table_id p.kept in
    let same : k.0 ≡ c.unwrap-machine.result = cc (k.1, c.unwrap-machine.ensures) in
    subst (λ x. IsClosed m.after m.reply m.state (view_of p) x c.unwrap-machine.result.journal.items.items) (sym c.into_inner.ensures)
    (subst (λ h. IsClosed m.after m.reply m.state (view_of p) h.machine.value h.journal.items.items) same k.2)
