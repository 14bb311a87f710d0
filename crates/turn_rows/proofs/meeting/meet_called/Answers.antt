use Rattle.turn_rows.proofs.{Common.{◌+◌, ◌∙◌, arith, length, length-passes, length-set}, Passes.of_cell, Meetings.{none_met, one_more_met, met_before, all_met}}
use Rattle.turn_rows.proofs.meeting.meet_called.Goals as goal

pub loop-place-init : goal.loop-place-init
loop-place-init g c =
    let m = g.M.Machine in
    let one = length-passes c.args.cells.now c.args.one.now c.requires.cells.0 in
    let two = length-passes c.args.cells.now c.args.two.now c.requires.cells.1 in
    record {
      even = (one, two, one, two);
      met = record {
        n = 0;
        within = omega arith;
        before = omega arith;
        met = none_met m.after m.reply c.args.cells.now c.args.one.now c.args.two.now c.requires.cells;
        calm = c.next_called-place.ensures.calm;
      };
    }

pub meet-requires-clause-cell : goal.meet-requires-clause-cell
meet-requires-clause-cell g c κs within =
    let l = c.loop-place in
    let of = l.invariant.met.met.cells in (
      of_cell c.args.cells.now l.one l.place c.index-cells-place.result c.index-one-place.result of.0 (omega arith) c.index-cells-place.is,
      of_cell c.args.cells.now l.two l.place c.index-cells-place.result c.index-two-place.result of.1 (omega arith) c.index-cells-place.is,
    )

pub loop-place-preserved : goal.loop-place-preserved
loop-place-preserved g c =
    let m = g.M.Machine in
    let l = c.loop-place in
    let even = l.invariant.even in
    let e = c.meet.ensures in
    let k = l.invariant.met in
    let here = met_before m.after m.reply c.args.called.now l.place l.place c.args.cells.now c.args.one.now c.args.two.now l.one l.two (omega arith) (omega arith) even c.requires.level c.requires.legal k k.before in
    record {
      even = (even.0, even.1, length-set l.one l.place c.meet.new.one ∙ even.2, length-set l.two l.place c.meet.new.two ∙ even.3);
      met = record {
        n = l.place + 1;
        within = omega arith;
        before = c.next_called-place-in-loop-place.ensures.on;
        met =
            one_more_met m.after m.reply l.place c.args.cells.now c.args.one.now c.args.two.now l.one l.two c.index-cells-place.result c.index-one-place.result c.index-two-place.result c.meet.new.one c.meet.new.two here (omega arith) even
            c.index-cells-place.is e.cell (record { one = e.one; two = e.two; more = e.more; legal = e.legal });
        calm = c.next_called-place-in-loop-place.ensures.calm;
      };
    }

pub returns : goal.returns
returns g c =
    let m = g.M.Machine in
    let l = c.loop-place in
    let even = l.invariant.even in
    let k = l.invariant.met in
    let whole = met_before m.after m.reply c.args.called.now l.place (length c.args.cells.now) c.args.cells.now c.args.one.now c.args.two.now l.one l.two (omega arith) (omega arith) even c.requires.level c.requires.legal k k.within in
    let all = all_met m.after m.reply (length c.args.cells.now) c.args.cells.now c.args.one.now c.args.two.now l.one l.two whole (omega arith) even in
    record { cells = k.met.cells; one = all.one; two = all.two; more_of_one = all.more_of_one; more_of_two = all.more_of_two; legal = all.legal }
