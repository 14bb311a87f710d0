-- The names that most proofs of the crate cite, passed on from one place. Declares nothing.
pub use Rattle.std.proofs.Common.{[], ℕ, ◌++◌, ◌+◌, ◌<◌, ◌∙◌, ◌∷◌, ◌≡◌, ◌≤◌, ◌⊎◌, All, ap, append-nil, append_assoc, arith, Bool, cond, drop, drop_of_length-le, eqb, false, get_or, inl, inr, length, List, ltb, None, of_calls, Option, refl}
pub use Rattle.std.proofs.{Common.{rules, set, Some, subst, suc, sym, take, take-append-drop, true, vec_capacity, vec_len, zero}, lemmas.Bool.{both_ways, cases_Bool, eq-eqb, eqb-true, le-ltb, lt-ltb, ltb-false, ltb-true, ne_eqb}}
pub use Rattle.std.proofs.lemmas.List.{drop-set-lt, drop_more, get_or-set_same, length-set, take-set-le, take_more}
pub use Rattle.std.specs.{List.{cons_option, filter_map, fold, SwappedAt}, Option.{is_some, option_copied, option_map, option_or}, Prelude.{⊤, filter, if◌then◌else◌, nat_lt}}
pub use Rattle.wsm_lists.proofs.{ByNumber.{eq_number, is_some-map, item_at-put, lt_number}, Rows.{ascends-partitioned, ascends_put, insert_where_absent, lt_from, place_within, row_at-absent, row_at-found, rows_below-point, rows_below_le}}
pub use Rattle.wsm_lists.proofs.Rows.{set_where_there}
pub use Rattle.wsm_lists.specs.{ByNumber.item_at, Keys.first, Rows.{AllRows, Ascends, key_lt, put_row, row_at, rows_below}, Values.{value_in, Written}, declared.values.Value.Value}
pub use Rattle.wsm_schema.specs.{Marks.is_start_of, Trail.{cut_by, cut_entry, is_one_of, later_or, TrailModel, value_below, written_by, wrote}, declared.entries.Entry.Entry}
pub use Rattle.wsm_trail.specs.{Cuts.{cut_entries, StaysBelow}, EntryAt.{entry_at, entry_of, last_written, value_noted, written_to}, LastWrites.{noted, noted_entries, noted_entry, noted_until, values_at, write_of}, StartPlaces.IsStartPlace}
pub use Rattle.wsm_trail.specs.{TrailWithRoom.{Rises, TrailWithRoom}, Withdrawn.{starts_of, withdrawn, without_start}}
