use Rattle.turn_rows.proofs.{Common.{[], ◌++◌, ◌∙◌, ◌∷◌, append-nil, arith, CanSplit, length-passes, length-set, refl, sym, view_of}, Lists.{All-same_at, appended_more}, Passes.of_cell, Splits.{none_split, one_more_split, all_split}}
use Rattle.turn_rows.proofs.splitting.split_into.Goals as goal

pub loop-place-init : goal.loop-place-init
loop-place-init g c =
    let m = g.M.Machine in
    record {
      even = length-passes c.args.cells.now c.args.firsts.now c.requires.cells;
      new = ([], sym (append-nil c.args.into.now.items), none_split m.after m.reply c.args.cells.now c.args.firsts.now c.requires.cells);
      capacity = refl;
      room = omega arith;
    }

pub split-requires-clause-cell : goal.split-requires-clause-cell
split-requires-clause-cell g c κs within =
    of_cell c.args.cells.now c.loop-place.firsts c.loop-place.place c.index-cells-place.result c.index-firsts-place.result c.loop-place.invariant.new.2.cells (omega arith) c.index-cells-place.is

pub split-requires-clause-first : goal.split-requires-clause-first
split-requires-clause-first g c κs within =
    (All-same_at view_of CanSplit c.loop-place.place c.args.firsts.now c.loop-place.firsts c.index-firsts-place.result c.requires.can c.loop-place.invariant.new.2.same c.loop-place-test.true).0

pub split-requires-clause-room : goal.split-requires-clause-room
split-requires-clause-room g c κs within =
    (All-same_at view_of CanSplit c.loop-place.place c.args.firsts.now c.loop-place.firsts c.index-firsts-place.result c.requires.can c.loop-place.invariant.new.2.same c.loop-place-test.true).1

pub loop-place-preserved : goal.loop-place-preserved
loop-place-preserved g c =
    let m = g.M.Machine in
    let so_far = c.loop-place.invariant.new in
    let s = c.split.ensures in
    record {
      even = length-set c.loop-place.firsts c.loop-place.place c.split.new.first ∙ c.loop-place.invariant.even;
      new = (
        so_far.0 ++ c.split.result ∷ [],
        appended_more c.args.into.now.items so_far.0 c.loop-place.into.items c.push_reserved.new.self.items c.split.result so_far.1 c.push_reserved.ensures.items,
        one_more_split m.after m.reply c.loop-place.place c.args.cells.now c.args.firsts.now c.loop-place.firsts so_far.0 c.index-cells-place.result c.index-firsts-place.result c.split.new.first c.split.result so_far.2
            (omega arith) (omega arith) (omega arith) c.index-cells-place.is s.cell.0 s.cell.1 s.first s.new s.legal,
      );
      capacity = c.push_reserved.ensures.capacity ∙ c.loop-place.invariant.capacity;
      room = omega (arith, length-set c.loop-place.firsts c.loop-place.place c.split.new.first);
    }

pub returns : goal.returns
returns g c =
    let m = g.M.Machine in
    let so_far = c.loop-place.invariant.new in
    let all = all_split m.after m.reply c.loop-place.place c.args.cells.now c.args.firsts.now c.loop-place.firsts so_far.0 so_far.2 (omega arith) (omega arith) (omega arith) in
    record {
      room = c.loop-place.invariant.capacity;
      cells = so_far.2.cells;
      firsts = all.1.firsts;
      new = (so_far.0, so_far.1, all.0, all.1.new, all.1.legal);
    }
