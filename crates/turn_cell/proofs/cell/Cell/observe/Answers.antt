use Rattle.turn_cell.proofs.{Common.arith, Turns.observes}
use Rattle.turn_cell.proofs.cell.Cell.observe.Goals as goal

pub load-requires : goal.load-requires
load-requires g c =
    let m = g.M.Machine in
    (c.requires.cell, omega (arith, c.args.self.now.counts.0), observes m.state m.after m.reply m.age c.args.self.now.table.shared.table_id.slots c.args.seat.now.id c.args.seat.now.me c.requires.idle.0)
