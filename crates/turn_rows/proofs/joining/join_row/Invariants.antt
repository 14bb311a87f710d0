use Rattle.turn_rows.proofs.{Common.{◌+◌, ◌≡◌, drop, enumerate_count, enumerate_source, into_iter_items, into_iter_len, length}, Joins.HaveJoinedUpTo}
use Rattle.turn_rows.proofs.joining.join_row.Given as goal

abbrev pub invariant-loop-place : goal.invariant-loop-place
invariant-loop-place g l =
    let m = g.M.Machine in
    record {
      can_next : (goal.iterator-loop-place g).can_next l.place-iterator;
      is_finite : (goal.iterator-loop-place g).is_finite l.place-iterator;
      even : (length l.fn.into ≡ length l.cells) × (length l.fn.done.items ≡ length l.cells) × (length l.into ≡ length l.cells);
      left : enumerate_count l.place-iterator + into_iter_len (enumerate_source l.place-iterator) ≡ length l.cells;
      rest : drop (enumerate_count l.place-iterator) l.fn.done.items ≡ into_iter_items (enumerate_source l.place-iterator);
      joined : HaveJoinedUpTo m.after m.reply (enumerate_count l.place-iterator) l.cells l.fn.into l.fn.done.items l.into;
    }
