use Rattle.turn_cell.proofs.{Common.{◌∙◌, ap, arith, length, longer, shorter, subst}, Serving.more_of, Joins.joins_pass}
use Rattle.std.specs.Prelude.{ltb}
use mathlib.Core.List.{IsPrefix}
use Rattle.turn_cell.proofs.cell.Cell.join.Goals as goal

pub join_seat-requires : goal.join_seat-requires
join_seat-requires g c =
    let m = g.M.Machine in
    let p = c.args.into.now in
    let q = c.args.done in
    (c.requires.cell.0, c.requires.cell.1, q.idle.1, omega (arith, c.args.self.now.counts.0), joins_pass m.state m.after m.reply m.age p.seat.id p.seat.me.0 q.seat.id q.seat.me.0 p.idle.0 q.idle.0 c.requires.into)

pub returns-clause-more : goal.returns-clause-more
returns-clause-more g c =
    let j = c.join_seat.ensures.2 in
    let s = c.observe.ensures in
    let v = c.args.into.now.seat.me.0 in
    let w = c.args.done.seat.me.0 in
    let told : IsPrefix (shorter v.seen w.seen) (longer v.seen w.seen) = subst (λ z. IsPrefix z.0.told z.0.seen) j s.seen.told in
    let both = more_of (ltb (length w.seen) (length v.seen)) v.seen w.seen told in
    let now = ap (λ z. z.0.seen) (s.same ∙ j) in
    rw now both
