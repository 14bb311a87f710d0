use Rattle.turn_cell.proofs.{Common.arith, Joins.splits_pass}
use Rattle.turn_cell.proofs.cell.Cell.split.Goals as goal

pub split_seat-seat-requires : goal.split_seat-seat-requires
split_seat-seat-requires g c =
    let m = g.M.Machine in
    let p = c.args.first.now in
    (c.requires.cell, omega (arith, c.args.self.now.counts.0), splits_pass m.state m.after m.reply m.age p.seat.id p.seat.me.0 p.idle.0 c.requires.first)
