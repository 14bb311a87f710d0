-- The names that most proofs of the crate cite, passed on from one place. Declares nothing.
pub use Rattle.std.proofs.Common.{[], ℕ, ◌&&◌, ◌++◌, ◌+◌, ◌-◌, ◌<◌, ◌||◌, ◌∙◌, ◌∷◌, ◌≡◌, ◌≤◌, ◌⊎◌, add-one, ap, append_assoc, arith, Bool, cond, drop, drop-cons, drop_of_length-le, eqb, false, get_or, inl, inr, length, length-append, List}
pub use Rattle.std.proofs.{Common.{ltb, map, None, not, Option, refl, Some, subst, suc, sym, take, take_all, true, zero}, Math.Seq.take-suc, lemmas.Bool.{and_from, and_parts, both_ways, cases_Bool, eq-eqb, eqb-true, le-ltb, lt-ltb}}
pub use Rattle.std.proofs.{lemmas.Bool.{ltb-false, ltb-true, ne_eqb, or_cases, or_left, or_parts, or_right}, lemmas.List.{drop_all, get_or-map, length-map, take-append-drop}}
pub use Rattle.std.specs.{List.{count_by, filter, flat_map, list_all, list_any, position_from}, Option.{option_copied, option_or}, Prelude.{Err, IfErr, IfOk, IfSome, if◌then◌else◌, is_none, is_some, nat_lt, Ok, option_map, Result}}
pub use Rattle.std.specs.Prelude.{slice_get}
pub use Rattle.wsm_block.specs.{Ascents.{ascend_from, is_above}, BranchRules.broken_by, Clauses.{cycle_fault, cycle_in, end_fault, loop_fault, place_fault, shape_fault, tree_fault}, Heights.{height_in, placed}, Order.{Edges, EndAmong}}
pub use Rattle.wsm_block.specs.{Order.{is_entered, IsOrder, marked_of, marks, moved, Once, onto_seen, Ordered, SameNodes, stands_before}, Refusals.IsBlockFault, Sizes.room_behind}
pub use Rattle.wsm_lists.proofs.Lists.{all-rows-map, all_rows, both_rows, rows-append, rows-map, rows-parts}
pub use Rattle.wsm_lists.specs.Rows.{AllRows}
pub use Rattle.wsm_schema.proofs.{DocumentOrder.{cards-behind, document-order, one_of-append, places-after, SyncsBehind, twice-once}, Rounds.{all-rows-card_at, card_at-node, member-splits}}
pub use Rattle.wsm_schema.specs.{Flat.{card_at, card_of, cards_of, FlatModel}, Kinds.is_activity, Places.places, Rank.IsRank, SchemaModel.SchemaModel, Sizes.{lanes_size, part_size, parts_size}, Sound.{block_fault, codes_of, control_edges}}
pub use Rattle.wsm_schema.specs.Sound.{first_some, is_act_in, lanes_block_fault, lanes_depth, leads, nodes_of, over_limit, parts_apart, parts_block_fault, parts_depth, parts_loop, same_option, sync_cycle, too_many, twice, when}
pub use Rattle.wsm_schema.specs.{Trail.is_one_of, Tree.{act, gate, lane, Lanes, lanes, loop, no_lane, nothing, Part, part, Parts}, TreeOf.{lane_of, lanes_of, parts_of}, declared.blocks.Branch.Branch, declared.cards.Card.Card}
pub use Rattle.wsm_schema.specs.declared.places.Place.{Place}
