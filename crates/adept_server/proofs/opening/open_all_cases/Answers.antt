use Rattle.adept_server.proofs.{Common.{◌<◌, AreFirstsOf, arith, get_or, length, row_views, subst, sum_by_more, take_all}, Founding.{none_opened, one_more_opened, read_any}}
use Rattle.adept_server.proofs.opening.open_all_cases.Goals as goal

pub loop-type_no-init : goal.loop-type_no-init
loop-type_no-init c =
    let none = none_opened c.in_ok-cells.cells.items c.in_ok-firsts.firsts.items c.in_ok-cells.ensures.items c.in_ok-firsts.ensures.items in
    record {
      of = none.0;
      are = none.1;
      label = omega arith;
      room_for_cells = omega (arith, c.in_ok-cells.ensures.len, c.in_ok-cells.ensures.exact);
      room_for_firsts = omega (arith, c.in_ok-firsts.ensures.len, c.in_ok-firsts.ensures.exact);
    }

pub loop-type_no-preserved : goal.loop-type_no-preserved
loop-type_no-preserved c =
    let l = c.loop-type_no in
    let counts = c.args.counts.now in
    let count = get_or counts l.type_no 0 in
    let lt : l.type_no < length counts = c.loop-type_no-test.true in
    let cells = c.push_reserved.ensures in
    let firsts = c.push_reserved-in-loop-type_no.ensures in
    let new = c.in_ok-row in
    let more =
    one_more_opened counts l.type_no count l.cells.items c.push_reserved.new.self.items l.firsts.items c.push_reserved-in-loop-type_no.new.self.items new.row new.first_row lt (read_any counts l.type_no 0 count lt) l.invariant.of l.invariant.are
    cells.items firsts.items new.ensures.cells new.ensures.firsts in
    record {
      of = more.0;
      are = more.1;
      label = omega (arith, l.invariant.label, sum_by_more (λ x. x) counts l.type_no 0 lt);
      room_for_cells = omega (arith, l.invariant.room_for_cells, cells.len, cells.capacity);
      room_for_firsts = omega (arith, l.invariant.room_for_firsts, firsts.len, firsts.capacity);
    }

pub returns : goal.returns
returns c =
    let l = c.loop-type_no in
    record { cells = l.invariant.of; firsts = subst (λ counts. AreFirstsOf counts (row_views l.firsts.items)) (take_all l.type_no c.args.counts.now c.loop-type_no-test.false) l.invariant.are }
