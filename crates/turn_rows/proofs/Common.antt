-- The names that most proofs of the crate cite, passed on from one place. Declares nothing.
pub use Rattle.std.proofs.Common.{[], ℕ, ◌++◌, ◌+◌, ◌-◌, ◌<◌, ◌∙◌, ◌∷◌, ◌≡◌, ◌≤◌, All, ap, append_assoc, arith, Bool, drop, false, get_or, if◌then◌else◌, inl, inr, length, List, ltb, map, None, not, refl, rules, set, slice_get, Some, subst}
pub use Rattle.std.proofs.{Common.{suc, sym, take, true, vec_capacity, vec_len, zero}, lemmas.List.{append-nil, drop-drop, drop-set-lt, get_or-drop, get_or-map, length-map, length-set, length_push, map_more, map_push, nil_from_length}}
pub use Rattle.std.proofs.{lemmas.List.{take_all, take_more, take_more_set}, lemmas.List.Elements.{All-cons, All-head, All-nil, All-push, All-tail}, lemmas.Option.{slice_get-get_or, slice_get-map}, lemmas.Slice.Zip.all_zipped_more}
pub use Rattle.std.specs.{Iterator.Adapters.{enumerate_count, enumerate_source, zip_first, zip_second}, List.{AllZip, position, position_or_len}, Option.unwrap_or, Vec.Iter.{into_iter_items, into_iter_len}}
pub use Rattle.turn_batch.proofs.Calls.{length-passes}
pub use Rattle.turn_batch.specs.Batch.{AreOf}
pub use Rattle.turn_cell.specs.{Passes.{cell_id, first_of, IsLegalView, IsPassOf, joined, PassView, split_off, view_of}, declared.cell.Cell.Cell, declared.limits.TheConstants.MAX_OPENING_AGE, declared.pass.Pass.Pass}
pub use Rattle.turn_rows.specs.Rows.{AreLevel, AreOpened, CanClose, CanJoin, CanSplit, first_met, HasMet, IsClosedAs, IsSeenBy, second_met, seen_of, split_from, views, zip_with}
