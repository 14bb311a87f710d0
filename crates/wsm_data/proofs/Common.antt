-- The names that most proofs of the crate cite, passed on from one place. Declares nothing.
pub use Rattle.std.proofs.Common.{[], ℕ, ◌&&◌, ◌++◌, ◌+◌, ◌-◌, ◌<◌, ◌||◌, ◌∙◌, ◌∷◌, ◌≡◌, ◌≤◌, ◌⊎◌, add-one, ap, append-nil, append_assoc, arith, Bool, cond, drop, drop-cons, eqb, false, filter, get_or, inl, inr, length, List, map, None}
pub use Rattle.std.proofs.{Common.{not, of_calls, Option, refl, rules, Some, subst, suc, sym, take, true, zero}, lemmas.Bool.{and_parts, both_ways, cases_Bool, eq-eqb, eqb-true, le-ltb, ltb-true, ne_eqb, or_left, or_right}}
pub use Rattle.std.proofs.{lemmas.List.{drop_all, take-append-drop, take_rest}, lemmas.Result.{IfOk-weaker, on_ok_weaker}}
pub use Rattle.std.specs.{List.{insert, list_all, list_any, slice_get}, Option.{is_some, option_copied, option_or}, Prelude.{find, IfSome, option_map}}
pub use Rattle.wsm_data.specs.{Passes.{IsNext, Seen}, Sets.{AllBelow, Holds, InOrder, number, WritesInOrder}, Tables.{by_node, IsPut, set_behind, set_of, Tells, TellsAt, told_at, told_by_syncs}, Unknowns.{unknown_in, works}}
pub use Rattle.wsm_data.specs.declared.tables.Behind.{Behind}
pub use Rattle.wsm_lists.proofs.{Lists.{all-rows-map, all_rows, map-same, rows-append, rows-map}, Rows.{ascends-partitioned, ascends_put, eq_means, insert_where_absent, lt_from, lt_means, lt_not_eq, row_is_there, rows_below-point}}
pub use Rattle.wsm_lists.specs.{Keys.both, Rows.{AllRows, Ascends, is_row_at, key_eq, key_lt, put_row, row_at, rows_below}}
pub use Rattle.wsm_marks.proofs.Lists.{one_of-last, rows-swap}
pub use Rattle.wsm_marks.specs.Loops.{HasEdge}
pub use Rattle.wsm_schema.proofs.Rounds.{card_at-node, iterate-last}
pub use Rattle.wsm_schema.specs.{Flat.{card_at, card_of, cards_of, flat_of, FlatModel, kind_in}, Places.places, Rank.IsRank, SchemaModel.SchemaModel, Sound.{block_fault, data_fault, first_some, has_one_edge, is_worked_on_in, missing_at}}
pub use Rattle.wsm_schema.specs.{Sound.{nodes_of, none_sure, parallel_write, parallel_writes, parts_apart, parts_bound, Sure, sure_at, sure_behind, sure_by, sure_by_syncs, sure_of, synced, twice, unknown, writes_of}, Trail.is_one_of}
pub use Rattle.wsm_schema.specs.{declared.cards.Card.Card, declared.places.Place.Place}
