use Rattle.turn_cell.proofs.{Common.arith, Turns.acquires}
use Rattle.turn_cell.proofs.cell.Cell.try_acquire.Goals as goal

pub compare_exchange-requires : goal.compare_exchange-requires
compare_exchange-requires g c =
    let m = g.M.Machine in
    (c.requires.cell, omega (arith, c.args.self.now.counts.0), acquires m.state m.after m.reply m.age c.args.self.now.table.shared.table_id.slots c.args.seat.now.id c.args.seat.now.me c.requires.idle.0)
