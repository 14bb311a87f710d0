use Rattle.turn_rows.proofs.{Common.{[], ◌++◌, ◌∙◌, ◌∷◌, ◌≡◌, ap, append-nil, arith, inl, inr, into_iter_items, into_iter_len, length, length-passes, refl, rules, sym, zip_first, zip_second}, Lists.appended_more, Closings.none_closed}
use Rattle.turn_rows.proofs.Closings.{next_of, next_can, one_more_closed, all_closed}
use Rattle.turn_rows.proofs.closing.close_into.Goals as goal

pub loop-cell-init : goal.loop-cell-init
loop-cell-init g c =
    let m = g.M.Machine in
    let same = c.into_iter-cell-iterator.ensures.into_iter_gives in
    let cells = ap zip_first same ∙ c.zip-cell-items.ensures.first in
    let given = c.zip-cell-items.ensures.second in
    let cells_are = ap into_iter_items cells ∙ c.into_iter.ensures.rest in
    let firsts_are = ap (λ it. into_iter_items (zip_second it)) same ∙ given.0 in
    record {
      can_next = search rules;
      is_finite = tt;
      cells_left = omega (arith, ap length cells_are, ap into_iter_len cells, c.into_iter.ensures.len, c.args.cells.ok.0);
      left = omega (arith, ap length firsts_are, ap (λ it. into_iter_len (zip_second it)) same, given.1, c.args.firsts.ok.0);
      closed = ([], sym (append-nil c.args.into.now.items), rw (cells_are, firsts_are) (none_closed m.after m.reply m.state c.args.cells.items c.args.firsts.items c.requires.cells c.requires.can));
      capacity = refl;
      room = omega (arith, ap into_iter_len cells, c.into_iter.ensures.len, c.requires.room);
    }

pub close-requires-clause-cell : goal.close-requires-clause-cell
close-requires-clause-cell g c κs within =
    let m = g.M.Machine in
    next_of m.after m.reply m.state c.loop-cell.invariant.closed.2 c.in-Some.ensures.steps.0.0 c.in-Some.ensures.steps.1.0

pub close-requires-clause-first : goal.close-requires-clause-first
close-requires-clause-first g c κs within =
    let m = g.M.Machine in
    (next_can m.after m.reply m.state c.loop-cell.invariant.closed.2 c.in-Some.ensures.steps.0.0 c.in-Some.ensures.steps.1.0).0

pub close-requires-clause-all : goal.close-requires-clause-all
close-requires-clause-all g c κs within =
    let m = g.M.Machine in
    (next_can m.after m.reply m.state c.loop-cell.invariant.closed.2 c.in-Some.ensures.steps.0.0 c.in-Some.ensures.steps.1.0).1

pub loop-cell-preserved : goal.loop-cell-preserved
loop-cell-preserved g c =
    let m = g.M.Machine in
    let l = c.loop-cell in
    let step = c.in-Some.ensures.steps in
    let so_far = l.invariant.closed in
    record {
      can_next = search rules;
      is_finite = tt;
      cells_left = omega (arith, l.invariant.cells_left, ap length step.0.0, step.0.1);
      left = omega (arith, l.invariant.left, ap length step.1.0, step.1.1);
      closed = (
        so_far.0 ++ c.close.result ∷ [],
        appended_more c.args.into.now.items so_far.0 l.into.items c.push_reserved.new.self.items c.close.result so_far.1 c.push_reserved.ensures.items,
        one_more_closed m.after m.reply m.state so_far.2 step.0.0 step.1.0 c.close.result c.close.ensures,
      );
      capacity = c.push_reserved.ensures.capacity ∙ l.invariant.capacity;
      room = omega (arith, l.invariant.room, step.0.1, c.push_reserved.ensures.len, c.push_reserved.ensures.capacity);
    }

pub returns : goal.returns
returns g c =
    let m = g.M.Machine in
    let l = c.loop-cell in
    let so_far = l.invariant.closed in
    let even = length-passes (into_iter_items (zip_first l.cell-iterator)) (into_iter_items (zip_second l.cell-iterator)) so_far.2.of in
    let none : length (into_iter_items (zip_second l.cell-iterator)) ≡ 0 =
    elim c.in-None.ensures.steps [ inl no_cell ↦ omega (arith, no_cell.1.0, l.invariant.cells_left, even) | inr no_pass ↦ omega (arith, no_pass.1.0, l.invariant.left) ] in
    record { room = l.invariant.capacity; closed = (so_far.0, so_far.1, all_closed m.after m.reply m.state so_far.2 none) }
