use Rattle.turn_rows.proofs.{Common.{◌++◌, ◌+◌, ◌≡◌, ◌≤◌, into_iter_items, into_iter_len, length, vec_capacity, vec_len, zip_first, zip_second}, Closings.HaveClosed}
use Rattle.turn_rows.proofs.closing.close_into.Given as goal

abbrev pub invariant-loop-cell : goal.invariant-loop-cell
invariant-loop-cell g l =
    let m = g.M.Machine in
    let cells = zip_first l.cell-iterator in
    let firsts = zip_second l.cell-iterator in
    record {
      can_next : (goal.iterator-loop-cell g).can_next l.cell-iterator;
      is_finite : (goal.iterator-loop-cell g).is_finite l.cell-iterator;
      cells_left : into_iter_len cells ≡ length (into_iter_items cells);
      left : into_iter_len firsts ≡ length (into_iter_items firsts);
      closed : (cs : _) × (l.into.items ≡ l.fn.into.items ++ cs) × HaveClosed m.after m.reply m.state l.fn.firsts.items cs (into_iter_items cells) (into_iter_items firsts);
      capacity : vec_capacity l.into ≡ vec_capacity l.fn.into;
      room : vec_len l.into + into_iter_len cells ≤ vec_capacity l.into;
    }
