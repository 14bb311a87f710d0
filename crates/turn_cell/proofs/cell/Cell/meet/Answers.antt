use Rattle.turn_cell.proofs.{Common.{◌∙◌, ap, arith}, Joins.{splits_note, joins_note}}
use Rattle.turn_cell.proofs.cell.Cell.meet.Goals as goal

pub split_seat-note-requires : goal.split_seat-note-requires
split_seat-note-requires g c =
    let m = g.M.Machine in
    let p = c.args.one.now in
    (c.requires.cell.0, omega (arith, c.args.self.now.counts.0), splits_note m.state m.after m.reply m.age p.seat.id p.seat.me.0 p.idle.0)

pub join_seat-requires : goal.join_seat-requires
join_seat-requires g c =
    let m = g.M.Machine in
    let a = c.split_seat-note.ensures in
    let p = c.args.two.now in
    let n = c.split_seat-note.result in (
      c.requires.cell.1,
      a.3 ∙ c.requires.cell.0,
      ap (λ z. z.1) a.4,
      omega (arith, c.args.self.now.counts.0),
      joins_note m.state m.after m.reply m.age p.seat.id p.seat.me.0 n.id n.me.0 p.idle.0 (ap (λ z. z.0.phase) a.4),
    )

pub split_seat-note-requires-2 : goal.split_seat-note-requires-2
split_seat-note-requires-2 g c =
    let m = g.M.Machine in
    let a = c.join_seat.ensures in
    let b = c.observe.ensures in
    let s = c.observe.new.seat in (
      b.cell ∙ (a.0 ∙ c.requires.cell.1),
      omega (arith, c.args.self.now.counts.0),
      splits_note m.state m.after m.reply m.age s.id s.me.0 (ap (λ z. z.0.phase) b.same ∙ (ap (λ z. z.0.phase) a.2 ∙ c.args.two.now.idle.0)),
    )

pub join_seat-requires-2 : goal.join_seat-requires-2
join_seat-requires-2 g c =
    let m = g.M.Machine in
    let a = c.join_seat.ensures in
    let b = c.observe.ensures in
    let d = c.split_seat-note.ensures in
    let e = c.split_seat-note-2.ensures in
    let s = c.split_seat-note.new.seat in
    let n = c.split_seat-note-2.result in (
      d.0 ∙ c.requires.cell.0,
      e.3 ∙ (b.cell ∙ (a.0 ∙ c.requires.cell.1)),
      ap (λ z. z.1) e.4,
      omega (arith, c.args.self.now.counts.0),
      joins_note m.state m.after m.reply m.age s.id s.me.0 n.id n.me.0 (ap (λ z. z.0.phase) d.2 ∙ c.args.one.now.idle.0) (ap (λ z. z.0.phase) e.4),
    )
