use Rattle.turn_rows.proofs.{Common.{◌∙◌, ◌≤◌, ap, arith, enumerate_count, enumerate_source, into_iter_items, into_iter_len, length, MAX_OPENING_AGE, rules}, Passes.opened-of, Openings.{none_opened, one_more_opened, all_opened}}
use Rattle.turn_rows.proofs.opening.open_row.Goals as goal

pub loop-place-init : goal.loop-place-init
loop-place-init g c =
    let m = g.M.Machine in
    let same = c.into_iter-place-iterator.ensures.into_iter_gives in
    let none = ap enumerate_count same ∙ c.enumerate-place-items.ensures.count in
    let source = ap enumerate_source same ∙ c.enumerate-place-items.ensures.source in
    let machines_are = ap into_iter_items source ∙ c.into_iter.ensures.rest in
    let left = ap into_iter_len source in
    let cells = c.in_ok-cells.ensures in
    let firsts = c.in_ok-firsts.ensures in
    record {
      can_next = search rules;
      is_finite = tt;
      count = omega (arith, none, left, c.into_iter.ensures.len);
      left = omega (arith, left, ap length machines_are, c.into_iter.ensures.len, c.args.machines.ok.0);
      opened = rw (machines_are, cells.items, firsts.items) (none_opened m.state (λ x. m.age (m.state x) ≤ MAX_OPENING_AGE) c.args.machines.items c.requires.young);
      room_for_cells = omega (arith, left, c.into_iter.ensures.len, cells.len, cells.exact, c.len.ensures);
      room_for_firsts = omega (arith, left, c.into_iter.ensures.len, firsts.len, firsts.exact, c.len-2.ensures);
    }

pub loop-place-preserved : goal.loop-place-preserved
loop-place-preserved g c =
    let m = g.M.Machine in
    let l = c.loop-place in
    let step = c.in-Some.ensures.steps in
    let cells = c.push_reserved.ensures in
    let firsts = c.push_reserved-in-loop-place.ensures in
    record {
      can_next = search rules;
      is_finite = tt;
      count = omega (arith, l.invariant.count, step.0.1, step.2);
      left = omega (arith, l.invariant.left, ap length step.0.0, step.0.1);
      opened = rw (cells.items, firsts.items) (one_more_opened m.state (λ x. m.age (m.state x) ≤ MAX_OPENING_AGE) l.invariant.opened step.0.0 c.in_ok-cell.cell c.in_ok-cell.first c.in_ok-cell.ensures);
      room_for_cells = omega (arith, l.invariant.room_for_cells, step.0.1, cells.len, cells.capacity);
      room_for_firsts = omega (arith, l.invariant.room_for_firsts, step.0.1, firsts.len, firsts.capacity);
    }

pub returns : goal.returns
returns g c =
    let m = g.M.Machine in
    let l = c.loop-place in
    let opened = all_opened m.state (λ x. m.age (m.state x) ≤ MAX_OPENING_AGE) l.invariant.opened (omega (arith, c.in-None.ensures.steps.0.0, l.invariant.left)) in
    record { cells = opened-of m.state c.args.machines.items l.cells.items l.firsts.items opened; opened = opened }
