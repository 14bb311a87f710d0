-- The names that most proofs of the crate cite, passed on from one place. Declares nothing.
pub use Rattle.std.proofs.Common.{[], ℕ, ◌&&◌, ◌++◌, ◌+◌, ◌<◌, ◌||◌, ◌∙◌, ◌∷◌, ◌≡◌, ◌≤◌, add-one, ap, append-nil, append_assoc, arith, Bool, cond, drop, drop-cons, drop_of_length-le, eqb, false, get_or, IfOk, inl, inr, length, List, map}
pub use Rattle.std.proofs.{Common.{None, Option, refl, rules, slice_get, Some, subst, suc, sym, take, true, zero}, lemmas.Bool.{and_right, both_ways, cases_Bool, cases_order, eq-eqb, eqb-true, le-ltb, lt-ltb, ltb-false, ne_eqb, not-false}}
pub use Rattle.std.proofs.{lemmas.Bool.{or_left, or_parts, or_right}, lemmas.List.{get_or_read, map-append, take-append-drop}, lemmas.List.Concat.flat_map-append, lemmas.List.Elements.filter-append, lemmas.List.Folds.list_any-append}
pub use Rattle.std.proofs.lemmas.Result.{on_ok_weaker}
pub use Rattle.std.specs.{BTreeSet.contains, List.{flat_map, list_any, prefix_len, remove}, Option.{option_copied, option_or}, Ordering.nat_cmp, Prelude.{◌==◌, Err, filter, if◌then◌else◌, is_some, nat_lt, not, Ok, option_map, position}}
pub use Rattle.std.specs.Prelude.{Result, slice_set, Vec}
pub use Rattle.wsm_lists.proofs.Lists.{all-rows-map, all_rows, both_rows, rows-parts}
pub use Rattle.wsm_lists.specs.{Keys.{both, first_two}, Rows.{AllRows, Ascends, key_lt, put_row}}
pub use Rattle.wsm_ops.specs.{Apply.{applied, applied_from, effect, IsOpFault, put_at, refusal, unless_refused, with_role}, Edit.{beside, change, change_inside, change_lanes, choice, head_code, is_act_of, is_behind, is_code, is_item}}
pub use Rattle.wsm_ops.specs.{Edit.{new_part, put, put_if, put_inside, put_lanes, still_wanted, without, without_inside, without_lanes, wrap_if}, Outline.{at_gap, before, behind, closing, ends_with, has_branch, has_head, is_head, is_node}}
pub use Rattle.wsm_ops.specs.Outline.{IsOnce, IsOutline, lanes_pieces, nodes_in, opening, part_pieces, parts_pieces, pieces, read_onto, read_piece, read_pieces, schema_pieces, seat_at, seat_of, tokens_of, tree_in, with_before, with_behind}
pub use Rattle.wsm_ops.specs.{Outline.without_node, Places.{is_known, IsNoted, IsPlace, Noted, passes, place_of, seat_there}, Readings.levels_of, Refusals.{begins_item, by_card, ends_item, gap_refusal, has_code, is_split, item_refusal}}
pub use Rattle.wsm_ops.specs.{Refusals.{move_refusal, one_taken, takes_behind, unless_activity, wrong_item, wrong_unless}, Runs.{IsSpot, items_at, joined, place_at}, declared.faults.OpFault.OpFault, declared.faults.OpWhy.OpWhy}
pub use Rattle.wsm_ops.specs.{declared.operations.Gap.Gap, declared.operations.Op.Op, declared.pieces.Piece.Piece, declared.pieces.Seat.Seat}
pub use Rattle.wsm_schema.specs.{Ends.{first_node, first_of, last_of}, Flat.{card_at, card_of, cards_of}, Kinds.is_activity, Places.{branch_heads, branch_tails, join_kind, labelled, lanes_places, leaving, part_places, parts_places, place}}
pub use Rattle.wsm_schema.specs.{Places.{places, plain_end, split_kind}, SchemaModel.{plain, SchemaModel}, Sound.{nodes_of, twice, when}, Tokens.{a_branch, close, empty, lanes_tokens, Levels, open_gate, open_loop, part_tokens}}
pub use Rattle.wsm_schema.specs.{Tokens.{parts_tokens, read_token, read_tokens, Token, tree_of-tokens}, Trail.is_one_of, Tree.{act, and_gate, Gate, gate, lane, Lanes, lanes, loop, no_lane, nothing, Part, part, Parts, xor_gate}}
pub use Rattle.wsm_schema.specs.{TreeOf.{lane_of, lanes_of, parts_of}, declared.cards.Card.Card, declared.cards.End.End, declared.cards.NodeKind.NodeKind, declared.places.Place.Place}
