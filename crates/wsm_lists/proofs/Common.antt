-- The names that most proofs of the crate cite, passed on from one place. Declares nothing.
pub use Rattle.std.proofs.Common.{[], ℕ, ◌&&◌, ◌++◌, ◌+◌, ◌-◌, ◌<◌, ◌==◌, ◌∙◌, ◌∷◌, ◌≡◌, ◌≢◌, ◌≤◌, ◌⊎◌, ap, append-nil, append_assoc, arith, Bool, cond, drop, eqb, Err, false, filter, get_or, inl, inr, leb, leb-false, leb-true, length}
pub use Rattle.std.proofs.{Common.{length-append, List, ltb, map, None, not, of_calls, Ok, OnErr, OnOk, Option, Ordering, refl, Result, rules, set, Some, subst, suc, sym, take, true, vec_capacity, vec_len, zero}, lemmas.Bool.and_parts}
pub use Rattle.std.proofs.{lemmas.Bool.{and_right, both_ways, cases_Bool, cases_order, eq-eqb, eqb-true, le-ltb, lt-ltb, ltb-false, ltb-true, ne_eqb, or_cases}, lemmas.List.{drop-set, drop_all, drop_more, get_or-take, length-set}}
pub use Rattle.std.proofs.{lemmas.List.{length-take-le, nil_from_length, take-append-drop, take-append-le, take-set-le, take-take, take_all, take_at, take_more}, lemmas.List.Sorted.IsPartitionPoint-from_clause}
pub use Rattle.std.specs.{BTreeMap.{insert_entry, is_at}, List.{insert, list_any, remove, slice_get, slice_range}, Option.{is_some, option_copied, option_map}, Vec.Iter.{into_iter_items, into_iter_len}}
pub use Rattle.wsm_lists.specs.{ByNumber.{change_row, changed, item_after, item_at, RowsWithRoom}, Entries.{Keyed, rows_of}, Keys.first, PutOver.put_over, Rows.{AllRows, Ascends, drop_row, is_row_at, key_eq, key_lt, put_row, row_at}}
pub use Rattle.wsm_lists.specs.{Rows.rows_below, TakenIn.{absent_of, is_gone, last_number, Merging, put_all, put_before, puts_of}}
