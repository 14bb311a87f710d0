-- The names that most proofs of the crate cite, passed on from one place. Declares nothing.
pub use Rattle.std.proofs.Common.{[], ℕ, ◌&&◌, ◌++◌, ◌+◌, ◌-◌, ◌<◌, ◌^◌, ◌||◌, ◌∙◌, ◌∷◌, ◌≡◌, ◌≤◌, ◌⊎◌, ap, append-nil, append_assoc, arith, Bool, cond, drop, eqb, false, get_or, inl, inr, length, length-append, List, ltb, map, min, nat_eq}
pub use Rattle.std.proofs.{Common.{None, not, of_calls, Option, pos, refl, rules, Some, subst, suc, sym, take, true, zero}, Math.Dec.leb, lemmas.Bool.{and_from, and_left, and_parts, and_right, both_ways, cases_Bool, cases_lt, cases_order}}
pub use Rattle.std.proofs.{lemmas.Bool.{eq-eqb, eqb-false, eqb-true, le-ltb, leb-false, leb-true, lt-ltb, ltb-false, ltb-true, ne_eqb, or_left, or_parts, or_right}, lemmas.List.{map-append, take_rest}, lemmas.List.Sorted.answers_always}
pub use Rattle.std.proofs.lemmas.List.Sorted.{IsNonDecreasingBy-from_sort_by_key, IsPartitionedBy-leb, IsPartitionedBy-ltb, IsPartitionPoint-from_clause}
pub use Rattle.std.specs.{Bool.if◌then◌else◌, List.{filter, list_any, position_from, slice_range}, Option.{option_copied, option_eq}, Prelude.{IfOk, option_map, slice_get}}
pub use Rattle.wsm_lists.proofs.Lists.{all-rows-map, map-same}
pub use Rattle.wsm_lists.specs.Rows.{AllRows}
pub use Rattle.wsm_schema.specs.{Enclosures.{are_bound, are_free, enclosure, innermost_loop, lanes_round, lanes_walk, part_round, part_walk, part_ways, parts_round, parts_walk, schema_walk}, Ends.{first_node, last_of}, Flat.card_at}
pub use Rattle.wsm_schema.specs.{Flat.{card_of, cards_of, flat_of, FlatModel, from_node, kind_in, loop_nodes, up_to_node}, Groups.{has_number, IsEnd, IsStart, numbered, placed, reversed, rows_with, SameGroups, starts_at}}
pub use Rattle.wsm_schema.specs.{Kinds.{is_and_split, is_loop_start, is_xor_split, worked_on}, Pass.{pass, ruled_from, ruled_if}, Places.{branch_heads, branch_tails, labelled, lanes_places, leaving, part_places, parts_places, place}}
pub use Rattle.wsm_schema.specs.{Places.{places, plain_end, split_kind}, Rank.{Behind, IsRank}, Rules.{is_begun, judge_of, marking_of, round, ruled, settle, signal_from, signal_of, source_signal, spot, spot_in, Spots, state_by, sync_from}}
pub use Rattle.wsm_schema.specs.{Rules.verdict_at, SchemaModel.{plain, SchemaModel}, Sound.{block_fault, data_fault, is_and, lanes_apart, lanes_bound, lanes_have, lanes_loop, nodes_of, part_apart, part_bound, part_has, part_loop}}
pub use Rattle.wsm_schema.specs.{Sound.{parts_apart, parts_bound, parts_have, parts_loop, Sound, twice}, Trail.{cut_by, is_one_of, no_trail, pushed, TrailModel, value_below}, Tree.{act, and_gate, Gate, gate, lane, Lanes, lanes, loop}}
pub use Rattle.wsm_schema.specs.{Tree.{no_lane, nothing, Part, part, Parts, xor_gate}, TreeOf.{lane_of, lanes_of, part_of, parts_of}, declared.cards.Card.Card, declared.cards.End.End, declared.cards.NodeKind.NodeKind}
pub use Rattle.wsm_schema.specs.{declared.enclosures.Enclosure.Enclosure, declared.places.Place.Place}
