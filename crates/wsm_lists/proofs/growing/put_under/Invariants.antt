use Rattle.wsm_lists.proofs.Common.{◌≡◌, Ascends, into_iter_items, into_iter_len, length, put_over}
use Rattle.wsm_lists.proofs.growing.put_under.Given as goal

abbrev pub invariant-loop-row : goal.invariant-loop-row
invariant-loop-row g l =
    let key = g.K.Keys.key_of in
    let rest = into_iter_items l.row-iterator in
    record {
      left : into_iter_len l.row-iterator ≡ length rest;
      order : Ascends key rest;
      table : Ascends key l.table;
      rows : put_over key l.table rest ≡ put_over key l.fn.table l.fn.rows.items;
    }
