use Rattle.turn_rows.proofs.{Common.{◌∙◌, arith, length-passes, length-set}, Passes.of_cell, Meetings.{none_met, one_more_met, all_met}}
use Rattle.turn_rows.proofs.meeting.meet_rows.Goals as goal

pub loop-place-init : goal.loop-place-init
loop-place-init g c =
    let m = g.M.Machine in
    let one = length-passes c.args.cells.now c.args.one.now c.requires.cells.0 in
    let two = length-passes c.args.cells.now c.args.two.now c.requires.cells.1 in
    record { even = (one, two, one, two); met = none_met m.after m.reply c.args.cells.now c.args.one.now c.args.two.now c.requires.cells }

pub meet-requires-clause-cell : goal.meet-requires-clause-cell
meet-requires-clause-cell g c κs within =
    let l = c.loop-place in (
      of_cell c.args.cells.now l.one l.place c.index-cells-place.result c.index-one-place.result l.invariant.met.cells.0 (omega arith) c.index-cells-place.is,
      of_cell c.args.cells.now l.two l.place c.index-cells-place.result c.index-two-place.result l.invariant.met.cells.1 (omega arith) c.index-cells-place.is,
    )

pub loop-place-preserved : goal.loop-place-preserved
loop-place-preserved g c =
    let m = g.M.Machine in
    let l = c.loop-place in
    let even = l.invariant.even in
    let e = c.meet.ensures in
    record {
      even = (even.0, even.1, length-set l.one l.place c.meet.new.one ∙ even.2, length-set l.two l.place c.meet.new.two ∙ even.3);
      met =
          one_more_met m.after m.reply l.place c.args.cells.now c.args.one.now c.args.two.now l.one l.two c.index-cells-place.result c.index-one-place.result c.index-two-place.result c.meet.new.one c.meet.new.two l.invariant.met (omega arith) even
          c.index-cells-place.is e.cell (record { one = e.one; two = e.two; more = e.more; legal = e.legal });
    }

pub returns : goal.returns
returns g c =
    let m = g.M.Machine in
    let l = c.loop-place in
    let all = all_met m.after m.reply l.place c.args.cells.now c.args.one.now c.args.two.now l.one l.two l.invariant.met (omega arith) l.invariant.even in
    record { cells = l.invariant.met.cells; one = all.one; two = all.two; more_of_one = all.more_of_one; more_of_two = all.more_of_two; legal = all.legal }
