use Rattle.wsm_lists.proofs.Common.{◌≡◌, Ascends, into_iter_items, into_iter_len, Keyed, length, put_over, rows_of}
use Rattle.wsm_lists.proofs.growing.put_all_in_map.Given as goal

abbrev pub invariant-loop-row : goal.invariant-loop-row
invariant-loop-row g l =
    let key = g.K.Keys.key_of in
    let rest = into_iter_items l.row-iterator in
    record {
      left : into_iter_len l.row-iterator ≡ length rest;
      order : Ascends key rest;
      keyed : Keyed key l.map.entries;
      ascends : Ascends key (rows_of l.map.entries);
      rows : put_over key rest (rows_of l.map.entries) ≡ put_over key l.fn.rows.items (rows_of l.fn.map.entries);
    }
