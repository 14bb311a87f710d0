use Rattle.turn_rows.proofs.{Common.{◌+◌, ◌≡◌, ◌≤◌, enumerate_count, enumerate_source, into_iter_items, into_iter_len, length, MAX_OPENING_AGE, vec_capacity, vec_len}, Openings.HaveOpened}
use Rattle.turn_rows.proofs.opening.open_row.Given as goal

abbrev pub invariant-loop-place : goal.invariant-loop-place
invariant-loop-place g l =
    let m = g.M.Machine in
    let machines = enumerate_source l.place-iterator in
    record {
      can_next : (goal.iterator-loop-place g).can_next l.place-iterator;
      is_finite : (goal.iterator-loop-place g).is_finite l.place-iterator;
      count : enumerate_count l.place-iterator + into_iter_len machines ≡ vec_len l.fn.machines;
      left : into_iter_len machines ≡ length (into_iter_items machines);
      opened : HaveOpened m.state (λ x. m.age (m.state x) ≤ MAX_OPENING_AGE) l.fn.machines.items l.cells.items l.firsts.items (into_iter_items machines);
      room_for_cells : vec_len l.cells + into_iter_len machines ≤ vec_capacity l.cells;
      room_for_firsts : vec_len l.firsts + into_iter_len machines ≤ vec_capacity l.firsts;
    }
